-- What holds of every tight cut.
use Rattle.std.specs.Prelude.{◌≡◌, ℕ, ◌<◌, ◌≤◌, ◌↔◌, List, ◌++◌, length, sum}
use Rattle.std.specs.List.{AllByRecursion}
use Rattle.mysql_bulk_builder.specs.Cut.{Row, IsCut, Fits, IsTight, IsTightPart, parts, size, wire_bytes}
use Rattle.mysql_bulk_builder.specs.Cut.{max_payload_len}

-- each row fits a request of its own: the first row one with types
abbrev pub EachRowFits : ℕ → ℕ → List Row → Type 0
EachRowFits room types rows = (k : ℕ) → k < length rows → size types rows k 1 ≤ room

-- There is a tight cut.
abbrev pub TightExists : Type 0
TightExists = (room types : ℕ) (rows : List Row) → (cut : List ℕ) × IsTight room types rows cut

-- There is only one.
abbrev pub TightIsUnique : Type 0
TightIsUnique = (room types : ℕ) (rows : List Row) (a b : List ℕ) →
    IsTight room types rows a → IsTight room types rows b → a ≡ b

-- It fits exactly where each row fits a request of its own.
abbrev pub TightFits : Type 0
TightFits = (room types : ℕ) (rows : List Row) (cut : List ℕ) →
    IsTight room types rows cut → (Fits room types rows cut ↔ EachRowFits room types rows)

-- No cut that fits has fewer parts.
abbrev pub TightHasFewest : Type 0
TightHasFewest = (room types : ℕ) (rows : List Row) (cut other : List ℕ) →
    IsTight room types rows cut → IsCut rows other → Fits room types rows other → length cut ≤ length other

-- Where each request is one chunk, no cut that fits takes fewer bytes on the wire.
abbrev pub TightTakesFewestBytes : Type 0
TightTakesFewestBytes = (room types : ℕ) (rows : List Row) (cut other : List ℕ) →
    room < max_payload_len → IsTight room types rows cut → IsCut rows other → Fits room types rows other →
    wire_bytes types rows cut ≤ wire_bytes types rows other

-- Parts that are tight one after another, from the first row on, are the first parts of the tight cut.
abbrev pub TightPartsComeFirst : Type 0
TightPartsComeFirst = (room types : ℕ) (rows : List Row) (first : List ℕ) →
    AllByRecursion (λ count. 0 < count) first → sum first ≤ length rows →
    AllByRecursion (λ p. IsTightPart room types rows p.0 p.1) (parts first) →
    (rest : List ℕ) × IsTight room types rows (first ++ rest)

-- What holds of cuts into typed and untyped requests.
use Rattle.std.specs.Prelude.{◌≡◌, ℕ, ◌+◌, ◌<◌, ◌≤◌, ◌↔◌, List, [], ◌∷◌, length}
use Rattle.mysql_bulk_builder.specs.Cut.{Row}
use Rattle.mysql_bulk_builder.specs.TypedCut.{Typing, Typed, Part, PartFits, IsTypedCut, TypedCutFits, IsTightTyped}

-- each row fits a typed request of its own
abbrev pub EachRowFitsTyped : ℕ → ℕ → List Row → Type 0
EachRowFitsTyped room columns rows = (k : ℕ) → k < length rows → PartFits room columns rows k Typed 1

-- each row fits a request of its own, typed or untyped
abbrev pub EachRowFitsEither : ℕ → ℕ → List Row → Type 0
EachRowFitsEither room columns rows = (k : ℕ) → k < length rows → (typing : Typing) ×
    PartFits room columns rows k typing 1

-- A part that fits still fits from a later start, and up to an earlier end, with the same typing.
abbrev pub PartFitsLater : Type 0
PartFitsLater = (room columns : ℕ) (rows : List Row) (typing : Typing) (start count later shorter : ℕ) →
    start ≤ later → later + shorter ≤ start + count → 0 < shorter →
    PartFits room columns rows start typing count → PartFits room columns rows later typing shorter

-- Where each row fits a typed request of its own, there is a tight cut.
abbrev pub TightTypedExists : Type 0
TightTypedExists = (room columns : ℕ) (rows : List Row) →
    EachRowFitsTyped room columns rows → (cut : List Part) × IsTightTyped room columns rows cut

-- There is one exactly where each row fits some request of its own.
abbrev pub TightTypedExistsWhere : Type 0
TightTypedExistsWhere = (room columns : ℕ) (rows : List Row) →
    ((cut : List Part) × IsTightTyped room columns rows cut) ↔ EachRowFitsEither room columns rows

-- Nowhere else does any cut fit.
abbrev pub FittingCutWhere : Type 0
FittingCutWhere = (room columns : ℕ) (rows : List Row) (cut : List Part) →
    IsTypedCut rows cut → TypedCutFits room columns rows cut → EachRowFitsEither room columns rows

-- There is only one.
abbrev pub TightTypedIsUnique : Type 0
TightTypedIsUnique = (room columns : ℕ) (rows : List Row) (a b : List Part) →
    IsTightTyped room columns rows a → IsTightTyped room columns rows b → a ≡ b

-- No cut that fits has fewer parts, whichever of its parts are typed.
abbrev pub TightTypedHasFewest : Type 0
TightTypedHasFewest = (room columns : ℕ) (rows : List Row) (cut other : List Part) →
    IsTightTyped room columns rows cut → IsTypedCut rows other → TypedCutFits room columns rows other →
    length cut ≤ length other

-- Where a typed request holds all rows, it alone is the tight cut.
abbrev pub WholeIsTight : Type 0
WholeIsTight = (room columns : ℕ) (rows : List Row) → 0 < length rows →
    PartFits room columns rows 0 Typed (length rows) →
    IsTightTyped room columns rows (record { typing = Typed; count = length rows } ∷ [])

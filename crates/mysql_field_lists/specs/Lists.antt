-- The forms in which lists are read.
-- (MySQL: Client/Server Protocol, "Protocol Basics: Basic Data Types".)
-- A reading takes bytes from the front: x.0 is what was read and x.1 the bytes left; the first refusal counts.
use Rattle.std.specs.Prelude.{◌≡◌, ◌⊎◌, ◌++◌, ℕ, zero, suc, List, [], ◌∷◌, Ok}
use Rattle.std.specs.List.{AllZip}
use Rattle.mysql_fields.specs.Wire.{Reading, ◌>>=◌}

-- so many elements, one after another
unfoldable pub elements_at : {Y : Type 0} → (List ℕ → Reading Y) → ℕ → List ℕ → Reading (List Y)
elements_at read_at zero bytes = Ok ([], bytes)
elements_at read_at (suc n) bytes = do
  first ← read_at bytes
  others ← elements_at read_at n first.1
  Ok (first.0 ∷ others.0, others.1)

-- a count, and so many elements
unfoldable pub counted_at : {Y : Type 0} → (List ℕ → Reading ℕ) → (List ℕ → Reading Y) → List ℕ → Reading (List Y)
counted_at count_at read_at bytes = do
  count ← count_at bytes
  elements_at read_at count.0 count.1

-- the same elements, or a clone of each in its place
abbrev pub IsCopied : {X : Type 0} → (X → X → Type 0) → List X → List X → Type 0
IsCopied is_clone old new = (new ≡ old) ⊎ AllZip is_clone old new

-- these elements, or a clone of each, and one more at the end
abbrev pub IsGrown : {X : Type 0} → (X → X → Type 0) → List X → X → List X → Type 0
IsGrown {X} is_clone old last new = (front : List X) × IsCopied is_clone old front × (new ≡ front ++ last ∷ [])

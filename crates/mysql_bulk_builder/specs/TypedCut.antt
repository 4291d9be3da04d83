-- How rows are cut into bulk requests where each request may carry types of its own.
use Rattle.std.specs.Prelude.{◌≡◌, ℕ, ◌+◌, ◌*◌, ◌<◌, ◌≤◌, Bool, not, List, [], ◌∷◌, length, take, sum_by, count_by}
use Rattle.std.specs.Prelude.{slice_index_or}
use Rattle.std.specs.List.{AllByRecursion}
use Rattle.mysql_cells.specs.declared.value.Value.TheVariants.{NULL}
use Rattle.mysql_bulk_builder.specs.ValueTypes.{is_null}
use Rattle.mysql_bulk_builder.specs.Cut.{Row, rows_of, rows_size}

-- whether a request carries types
pub data Typing : Type 0 where
  Typed : Typing
  Untyped : Typing

-- a part of a cut: whether its request carries types, and how many rows it takes
pub record Part : Type 0 where
  pub typing : Typing
  pub count : ℕ

-- each part with the row at which it starts
abbrev pub placed_from : ℕ → List Part → List (ℕ × Part)
placed_from start [] = []
placed_from start (part ∷ cut) = (start, part) ∷ placed_from (start + part.count) cut

abbrev pub placed : List Part → List (ℕ × Part)
placed cut = placed_from 0 cut

-- the row has a value in the column
abbrev pub has_value_at : ℕ → Row → Bool
has_value_at column row = not (is_null (slice_index_or row column NULL))

-- some row has a value in the column
abbrev pub HasValue : ℕ → List Row → Type 0
HasValue column rows = 0 < count_by (has_value_at column) rows

-- no row of the part has a value in a column in which no row before the part has one
abbrev pub HasKnownColumns : ℕ → List Row → ℕ → ℕ → Type 0
HasKnownColumns columns rows start count =
    (column : ℕ) → column < columns → HasValue column (rows_of rows start count) → HasValue column (take start rows)

-- A typed part fits where its request has room. An untyped one is not the first, and has known columns alone.
abbrev pub PartFits : ℕ → ℕ → List Row → ℕ → Typing → ℕ → Type 0
PartFits room columns rows start Typed count = 7 + 2 * columns + rows_size rows start count ≤ room
PartFits room columns rows start Untyped count =
    (0 < start) × (7 + rows_size rows start count ≤ room) × HasKnownColumns columns rows start count

-- no part is empty, and together they take all rows
abbrev pub IsTypedCut : List Row → List Part → Type 0
IsTypedCut rows cut = AllByRecursion (λ part. 0 < part.count) cut × (sum_by (λ part. part.count) cut ≡ length rows)

abbrev pub TypedCutFits : ℕ → ℕ → List Row → List Part → Type 0
TypedCutFits room columns rows cut =
    AllByRecursion (λ p. PartFits room columns rows p.0 p.1.typing p.1.count) (placed cut)

-- a part that fits, that no longer one from its start can replace, and that is typed only where it must be
pub record IsTightTypedPart (room columns : ℕ) (rows : List Row) (start : ℕ) (part : Part) : Type 0 where
  pub fits : PartFits room columns rows start part.typing part.count
  pub longest : (typing : Typing) (count : ℕ) → part.count < count → start + count ≤ length rows →
      PartFits room columns rows start typing count → ⊥
  pub typed_at_need : part.typing ≡ Typed → PartFits room columns rows start Untyped part.count → ⊥

-- the cut that takes from each start the longest part, untyped where that one fits
pub record IsTightTyped (room columns : ℕ) (rows : List Row) (cut : List Part) : Type 0 where
  pub is_cut : IsTypedCut rows cut
  pub parts_tight : AllByRecursion (λ p. IsTightTypedPart room columns rows p.0 p.1) (placed cut)

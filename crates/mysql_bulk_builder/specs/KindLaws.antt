-- Why the types that a request carries serve the rows that are sent by them.
use Rattle.std.specs.Prelude.{◌≡◌, ℕ, ◌+◌, ◌<◌, false, List, [], ◌∷◌, ◌++◌, length, take, slice_index_or, sum_by, None}
use Rattle.std.specs.List.{AllByRecursion}
use Rattle.mysql_cells.specs.declared.value.Value.{Value}
use Rattle.mysql_cells.specs.declared.value.Value.TheVariants.{NULL}
use Rattle.mysql_bulk_builder.specs.Cut.{Row}
use Rattle.mysql_bulk_builder.specs.TypedCut.{Part, Typed, Untyped, PartFits, HasValue, placed_from}
use Rattle.mysql_bulk_builder.specs.ValueTypes.{is_null, sent_type, first_in_column}
use Rattle.mysql_bulk_builder.specs.TypedCutLaws.{EachRowFitsTyped}
use Rattle.mysql_bulk_builder.specs.Causes.{is_of_other_kind, mixed_kinds, place_where, row_too_large}

-- the value of a row in a column
abbrev pub value_in : List Row → ℕ → ℕ → Value
value_in rows k column = slice_index_or (slice_index_or rows k []) column NULL

-- a value that isn't NULL stands there
abbrev pub HasValueAt : List Row → ℕ → ℕ → Type 0
HasValueAt rows k column = (k < length rows) × (column < length (slice_index_or rows k [])) ×
    (is_null (value_in rows k column) ≡ false)

-- Where no column mixes kinds, the first value of a column in some first rows has the type of every value in it.
abbrev pub OneKind : Type 0
OneKind = (rows : List Row) → mixed_kinds rows ≡ None → (m k column : ℕ) → HasValueAt rows k column →
    is_null (first_in_column column (take m rows)) ≡ false →
    sent_type (first_in_column column (take m rows)) ≡ sent_type (value_in rows k column)

-- A run of untyped parts brings no value to a column that had none before the run.
abbrev pub UntypedRunAddsNoColumn : Type 0
UntypedRunAddsNoColumn = (room columns start : ℕ) (rows : List Row) (run : List Part) →
    AllByRecursion (λ part. part.typing ≡ Untyped) run →
    AllByRecursion (λ p. PartFits room columns rows p.0 p.1.typing p.1.count) (placed_from start run) →
    (column : ℕ) → column < columns →
    HasValue column (take (start + sum_by (λ part. part.count) run) rows) →
    HasValue column (take start rows)

-- Where some rows have a value in a column, the first value there isn't NULL.
abbrev pub FirstValueIsThere : Type 0
FirstValueIsThere = (rows : List Row) (column : ℕ) → HasValue column rows →
    is_null (first_in_column column rows) ≡ false

-- Where no row is too large, each fits a typed request of its own.
abbrev pub NoneTooLarge : Type 0
NoneTooLarge = (room columns : ℕ) (rows : List Row) → row_too_large room columns rows ≡ None →
    EachRowFitsTyped room columns rows

-- Where a typed request holds all rows, no row is too large.
abbrev pub WholeHasNoneTooLarge : Type 0
WholeHasNoneTooLarge = (room columns : ℕ) (rows : List Row) →
    PartFits room columns rows 0 Typed (length rows) → row_too_large room columns rows ≡ None

-- Rows that mix no kinds mix none with one more row, none of whose values is of another kind than
-- its column's first one.
abbrev pub OneMoreMixesNone : Type 0
OneMoreMixesNone = (rows : List Row) (row : Row) → mixed_kinds rows ≡ None →
    place_where (is_of_other_kind rows) row ≡ None → mixed_kinds (rows ++ row ∷ []) ≡ None

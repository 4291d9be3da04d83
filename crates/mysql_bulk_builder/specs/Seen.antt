-- Which columns had a value so far.
use Rattle.std.specs.Prelude.{◌≡◌, ℕ, ◌<◌, ◌↔◌, Bool, true, false, List, length, take, slice_index_or}
use Rattle.mysql_bulk_builder.specs.Cut.{Row}
use Rattle.mysql_bulk_builder.specs.TypedCut.{has_value_at, HasValue}

-- a flag is set
abbrev pub IsSet : List Bool → ℕ → Type 0
IsSet seen column = slice_index_or seen column false ≡ true

-- each of the row's values is in a column whose flag is set
abbrev pub IsKnown : List Bool → Row → Type 0
IsKnown seen row = (column : ℕ) → column < length seen → has_value_at column row ≡ true → IsSet seen column

-- one of the row's values is in a column whose flag is not set
abbrev pub IsUnknown : List Bool → Row → Type 0
IsUnknown seen row = (column : ℕ) × (column < length seen) × (has_value_at column row ≡ true) ×
    (slice_index_or seen column false ≡ false)

-- the flags of the columns that have a value in the first n rows
pub record AreSeen (columns : ℕ) (rows : List Row) (n : ℕ) (seen : List Bool) : Type 0 where
  pub len : length seen ≡ columns
  pub flags : (column : ℕ) → column < columns → (IsSet seen column ↔ HasValue column (take n rows))

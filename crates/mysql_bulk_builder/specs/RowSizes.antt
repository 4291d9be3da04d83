-- Rows by the room that each takes.
use Rattle.std.specs.Prelude.{ℕ, ◌<◌, ◌≤◌, List, [], length, slice_index_or}
use Rattle.mysql_bulk_builder.specs.declared.search.BulkCutError.{BulkCutError}
use Rattle.mysql_bulk_builder.specs.declared.search.BulkCutError.TheVariants.{RowTooLarge, Memory}
use Rattle.mysql_bulk_builder.specs.Cut.{Row, row_size}

-- each row takes at most so many bytes
abbrev pub EachIsWithin : ℕ → List Row → Type 0
EachIsWithin room rows = (k : ℕ) → k < length rows → row_size (slice_index_or rows k []) ≤ room

-- the row takes more, and those before it don't
abbrev pub IsPast : ℕ → List Row → BulkCutError → Type 0
IsPast room rows (RowTooLarge k) = (k < length rows) ×
    (room < row_size (slice_index_or rows k [])) ×
    ((j : ℕ) → j < k → row_size (slice_index_or rows j []) ≤ room)
IsPast room rows Memory = Unit {0}

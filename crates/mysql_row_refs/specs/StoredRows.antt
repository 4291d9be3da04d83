-- Rows of a result set that are kept, one after another, in lists that all rows share.
-- MySQL: Client/Server Protocol, "Text Resultset" and "Binary Protocol Resultset"; C API, mysql_store_result().
use Rattle.std.specs.Prelude.{◌≡◌, ℕ, ◌+◌, ◌*◌, ◌<◌, ◌≤◌, List, [], ◌∷◌, ◌++◌, length, map, get_or, slice_range, true}
use Rattle.std.specs.List.{list_all, range_with_len}
use Rattle.mysql_columns.specs.Columns.{ColumnDefinition}
use Rattle.mysql_rows.specs.Rows.{Row, whole_row}
use Rattle.mysql_row_refs.specs.Places.{held, is_inside}
use Rattle.mysql_row_refs.specs.declared.place.CellPlace.{CellPlace}

-- columns, and rows with a cell for each
pub record ResultSet : Type 0 where
  pub columns : List ColumnDefinition
  pub rows : List Row

-- a result set without rows
abbrev pub no_rows : List ColumnDefinition → ResultSet
no_rows columns = record { columns = columns; rows = [] }

-- the cells of a row, under a result set's columns
abbrev pub under : List ColumnDefinition → Row → Row
under columns row = record { columns = columns; cells = row.cells }

-- the result set with one row more, behind the others
abbrev pub with_row : ResultSet → Row → ResultSet
with_row set row = record { columns = set.columns; rows = set.rows ++ under set.columns row ∷ [] }

-- where the payload of the row of this number begins: where the one before it ends
abbrev pub payload_start : List ℕ → ℕ → ℕ
payload_start ends index = get_or (0 ∷ ends) index 0

-- the payload of the row of this number
abbrev pub payload_of : List ℕ → List ℕ → ℕ → List ℕ
payload_of payloads ends index = slice_range payloads (payload_start ends index) (get_or ends index 0)

-- the places of the cells of the row of this number, where each row has so many
abbrev pub places_of : ℕ → List CellPlace → ℕ → List CellPlace
places_of count places index = slice_range places (index * count) (index * count + count)

-- the row of this number
abbrev pub row_kept : List ColumnDefinition → List ℕ → List ℕ → List CellPlace → ℕ → Row
row_kept columns payloads ends places index =
    whole_row columns (map (held (payload_of payloads ends index))
    (places_of (length columns) places index))

-- the rows whose payloads end at these places
abbrev pub rows_kept : List ColumnDefinition → List ℕ → List ℕ → List CellPlace → List Row
rows_kept columns payloads ends places = map (row_kept columns payloads ends places) (range_with_len 0 (length ends))

-- the payload of the row of this number lies in these lists, and its cells in the payload
pub record IsKept (count : ℕ) (payloads ends : List ℕ) (places : List CellPlace) (index : ℕ) : Type 0 where
  pub starts : payload_start ends index ≤ get_or ends index 0
  pub within : get_or ends index 0 ≤ length payloads
  pub inside : list_all (is_inside (payload_of payloads ends index)) (places_of count places index) ≡ true

-- each row lies in these lists, and nothing else does
pub record AreKept (count : ℕ) (payloads ends : List ℕ) (places : List CellPlace) : Type 0 where
  pub all_used : payload_start ends (length ends) ≡ length payloads
  pub as_many : length places ≡ length ends * count
  pub each : (index : ℕ) → index < length ends → IsKept count payloads ends places index

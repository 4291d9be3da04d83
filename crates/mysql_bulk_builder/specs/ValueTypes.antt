-- The types that values are sent by. MariaDB: "COM_STMT_BULK_EXECUTE" (parameter types and their
-- flags); MySQL: Client/Server Protocol, "Column Definition Flags".
use Rattle.std.specs.Prelude.{ℕ, ◌==◌, ◌&&◌, Bool, if◌then◌else◌, List, [], ◌∷◌, map, slice_index_or}
use Rattle.std.specs.List.{range_with_len}
use Rattle.mysql_cells.specs.Cells.{is_unsigned, type_number}
pub use Rattle.mysql_cells.specs.Values.{is_null}
use Rattle.mysql_cells.specs.declared.value.Value.{Value}
use Rattle.mysql_cells.specs.declared.value.Value.TheVariants.{NULL}
use Rattle.mysql_bulk_builder.specs.Cut.{Row}

-- the number of the type that a value is sent by, and its flags: 0x80 for a number without a sign
abbrev pub sent_type : Value → ℕ × ℕ
sent_type value = (type_number value, if is_unsigned value then 0x80 else 0)

-- two values of one kind are sent by one type
abbrev pub same_kind : Value → Value → Bool
same_kind a b = ((sent_type a).0 == (sent_type b).0) && ((sent_type a).1 == (sent_type b).1)

-- the first of the rows' values in a column, NULL where there is none
abbrev pub first_in_column : ℕ → List Row → Value
first_in_column column [] = NULL
first_in_column column (row ∷ rows) =
    let value = slice_index_or row column NULL in if is_null value then first_in_column column rows else value

-- the first value of each of so many columns
abbrev pub first_values : ℕ → List Row → Row
first_values columns rows = map (λ column. first_in_column column rows) (range_with_len 0 columns)

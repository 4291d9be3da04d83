-- The payload of an execution of a prepared statement.
-- MySQL: Client/Server Protocol, "COM_STMT_EXECUTE", "Null-Bitmap".
use Rattle.std.specs.Prelude.{ℕ, zero, suc, ◌+◌, ◌*◌, ◌/◌, Bool, true, if◌then◌else◌, List, [], ◌∷◌, ◌++◌, length, drop}
use Rattle.std.specs.Prelude.{map, nat_lt}
use Rattle.std.specs.List.{flat_map, range_with_len, sum_by}
use Rattle.byteorder.specs.Endian.{little_bytes}
use Rattle.mysql_const.specs.Commands.{command_number}
use Rattle.mysql_const.specs.declared.command.Command.TheVariants.{COM_STMT_EXECUTE}
use Rattle.mysql_cells.specs.declared.value.Value.{Value}
use Rattle.mysql_cells.specs.declared.value.Value.TheVariants.{Bytes}
use Rattle.mysql_cells.specs.Values.{is_null}
use Rattle.mysql_cells.specs.Cells.{bin_len, cell, is_unsigned, type_number}

-- a bit for each of the first so many values, the first one the lowest: 1 for NULL
unfoldable pub null_bits : ℕ → List Value → ℕ
null_bits zero values = 0
null_bits (suc count) [] = 0
null_bits (suc count) (value ∷ values) = (if is_null value then 1 else 0) + 2 * null_bits count values

-- a bit for each value, eight to a byte
unfoldable pub null_bitmap : List Value → List ℕ
null_bitmap values = map (λ k. null_bits 8 (drop (8 * k) values)) (range_with_len 0 ((length values + 7) / 8))

-- the type that a value is sent by: its number, and 0x80 where it is unsigned
abbrev pub type_bytes : Value → List ℕ
type_bytes value = type_number value ∷ (if is_unsigned value then 0x80 else 0) ∷ []

-- the cell of a value in an execution, which has none for byte strings where they are sent before it as long data
abbrev pub sent_cell : Bool → Value → List ℕ
sent_cell true (Bytes bytes) = []
sent_cell apart value = cell value

-- what an execution carries of its values: the bitmap, a mark that types follow, the types, the
-- cells. Nothing where there are none
abbrev pub parameters : List ℕ → List Value → Bool → List ℕ
parameters bitmap [] apart = []
parameters bitmap (value ∷ values) apart =
    bitmap ++ 1 ∷ (flat_map type_bytes (value ∷ values) ++ flat_map (sent_cell apart) (value ∷ values))

-- an execution: the statement's id, its bitmap, its values, and whether byte strings were sent before it as long data
pub record Execution : Type 0 where
  pub stmt_id : ℕ
  pub bitmap : List ℕ
  pub values : List Value
  pub apart : Bool

-- what is written of it: its number, the statement's id, no cursor, a count of 1, and what it carries of the values
unfoldable pub execution : Execution → List ℕ
execution e = command_number COM_STMT_EXECUTE ∷
    (little_bytes 4 e.stmt_id ++ 0 ∷ (little_bytes 4 1 ++ parameters e.bitmap e.values e.apart))

-- the execution of the statement with this id
abbrev pub execution_of : ℕ → List Value → Bool → Execution
execution_of id values apart = record { stmt_id = id; bitmap = null_bitmap values; values = values; apart = apart }

-- its payload
abbrev pub execute_command : ℕ → List Value → Bool → List ℕ
execute_command id values apart = execution (execution_of id values apart)

-- the bytes of a payload that holds every cell, where there are values
abbrev pub whole_size : List Value → ℕ
whole_size values = 10 + (length values + 7) / 8 + 1 + 2 * length values + sum_by bin_len values

-- whether byte strings have to be sent as long data: where that payload exceeds one packet's most
abbrev pub needs_long_data : List Value → Bool
needs_long_data values = nat_lt 16777215 (whole_size values)

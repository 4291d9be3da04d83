-- The commands of a prepared statement that carry its id and no values: what is written of their
-- fields, and what is read. MySQL: Client/Server Protocol, "COM_STMT_SEND_LONG_DATA",
-- "COM_STMT_CLOSE" and "COM_STMT_RESET". A reading takes bytes from the front: x.0 is what was read
-- and x.1 the bytes left; the first refusal counts.
use Rattle.std.specs.Prelude.{ℕ, ◌^◌, ◌<◌, List, [], ◌∷◌, Ok}
use Rattle.std.specs.List.{concat}
use Rattle.byteorder.specs.Endian.{little_bytes}
use Rattle.mysql_const.specs.Commands.{command_number}
use Rattle.mysql_const.specs.declared.command.Command.{Command}
use Rattle.mysql_const.specs.declared.command.Command.TheVariants.{COM_STMT_SEND_LONG_DATA}
use Rattle.mysql_fields.specs.Forms.{fixed_number_at}
use Rattle.mysql_fields.specs.Wire.{Reading, from_block, ◌>>=◌}
use Rattle.mysql_field_constants.specs.Constants.{constant_at}

-- a command that says no more than a statement's id: its number, the id
unfoldable pub alone : ℕ → ℕ → List ℕ
alone number id = concat (little_bytes 1 number ∷ little_bytes 4 id ∷ [])

unfoldable pub alone_fields_at : ℕ → List ℕ → Reading ℕ
alone_fields_at number bytes = do
  header ← constant_at 1 number bytes
  id ← fixed_number_at 4 header.1
  Ok (id.0, id.1)

-- all five bytes are asked for first
unfoldable pub alone_at : ℕ → List ℕ → Reading ℕ
alone_at number bytes = from_block 5 (alone_fields_at number) bytes

-- those of a command by its name
abbrev pub by_id : Command → ℕ → List ℕ
by_id command id = alone (command_number command) id

abbrev pub by_id_at : Command → List ℕ → Reading ℕ
by_id_at command bytes = alone_at (command_number command) bytes

-- a statement's id
abbrev pub IsId : ℕ → Type 0
IsId id = id < 2 ^ 32

-- a piece of a parameter: 18, the statement's id, the parameter's place, the bytes to the end
pub record LongData : Type 0 where
  pub stmt_id : ℕ
  pub place : ℕ
  pub bytes : List ℕ

unfoldable pub long_data : LongData → List ℕ
long_data p = concat (
    little_bytes 1 (command_number COM_STMT_SEND_LONG_DATA) ∷ little_bytes 4 p.stmt_id ∷
    little_bytes 2 p.place ∷ p.bytes ∷ []
    )

-- How commands lie in payloads: what each one says by its own bytes, whatever came before. MySQL:
-- Client/Server Protocol, "COM_QUERY", "COM_STMT_PREPARE", "COM_STMT_SEND_LONG_DATA",
-- "COM_STMT_EXECUTE", "COM_STMT_RESET", "COM_STMT_CLOSE"; MariaDB: "COM_STMT_BULK_EXECUTE". A
-- reading takes bytes from the front: x.0 is what was read and x.1 the bytes left; the first
-- refusal counts.
use Rattle.std.specs.Prelude.{ℕ, zero, suc, ◌+◌, ◌/◌, Bool, List, [], ◌∷◌, Option, Some, None, Result, Ok, is_some}
use Rattle.std.specs.Prelude.{nat_lt, nat_le, not, ◌==◌, ◌||◌, if◌then◌else◌}
use Rattle.mysql_receive.specs.declared.fault.StreamFault.{StreamFault}
use Rattle.mysql_receive.specs.declared.fault.StreamFault.TheVariants.{WrongId, BadExecute, BadType, BadPlace, BadBulk}
use Rattle.mysql_receive.specs.declared.param_type.ParamType.{ParamType}
use Rattle.mysql_const.specs.ColumnTypes.{column_type_named}
use Rattle.mysql_const.specs.Commands.{command_named}
use Rattle.mysql_const.specs.FlagSets.{contains}
use Rattle.mysql_const.specs.declared.command.Command.{Command as Name}
use Rattle.mysql_const.specs.declared.command.Command.TheVariants.{COM_QUERY, COM_STMT_PREPARE, COM_STMT_SEND_LONG_DATA}
use Rattle.mysql_const.specs.declared.command.Command.TheVariants.{COM_STMT_EXECUTE, COM_STMT_BULK_EXECUTE}
use Rattle.mysql_const.specs.declared.command.Command.TheVariants.{COM_STMT_RESET, COM_STMT_CLOSE}
use Rattle.mysql_receive.specs.Fields.{◌>>◌, must, bytes_or, number_or}
use Rattle.mysql_wire.specs.Wire.{◌>>=◌}
use Rattle.mysql_receive.specs.Query.{Statement, place_count}

pub data Command : Type 0 where
  Text : Command
  Prepare : Command
  LongData : Command
  Execute : Command
  Bulk : Command
  Reset : Command
  Close : Command
  Other : Command

-- by its name in the protocol
abbrev pub command_by : Option Name → Command
command_by (Some COM_QUERY) = Text
command_by (Some COM_STMT_PREPARE) = Prepare
command_by (Some COM_STMT_SEND_LONG_DATA) = LongData
command_by (Some COM_STMT_EXECUTE) = Execute
command_by (Some COM_STMT_BULK_EXECUTE) = Bulk
command_by (Some COM_STMT_RESET) = Reset
command_by (Some COM_STMT_CLOSE) = Close
command_by _ = Other

-- by the first byte of a payload
abbrev pub command_of : ℕ → Command
command_of b = command_by (command_named b)

-- whether a number is that of a type
abbrev pub is_type : ℕ → Bool
is_type t = is_some (column_type_named t)

-- types as they are sent
abbrev pub Types : Type 0
Types = List ParamType

-- the statement's id in four bytes
abbrev pub id_at : Statement → List ℕ → Result (List ℕ) StreamFault
id_at statement bytes = do
  id ← number_or WrongId 4 bytes
  must WrongId (id.0 == statement.id)
  Ok id.1

-- the flag of a type: its numbers have no sign
abbrev pub unsigned_flag : ℕ
unsigned_flag = 0x80

-- a type and its flag, a byte each
abbrev pub type_at : StreamFault → List ℕ → Result (ParamType × List ℕ) StreamFault
type_at short bytes = do
  t ← number_or short 1 bytes
  must BadType (is_type t.0)
  flags ← number_or short 1 t.1
  must BadType (flags.0 == 0 || flags.0 == unsigned_flag)
  Ok (record { number = t.0; unsigned = flags.0 == unsigned_flag }, flags.1)

-- n types, one after another
unfoldable pub types_at : StreamFault → ℕ → List ℕ → Result (Types × List ℕ) StreamFault
types_at short zero bytes = Ok ([], bytes)
types_at short (suc n) bytes = do
  first ← type_at short bytes
  others ← types_at short n first.1
  Ok (first.0 ∷ others.0, others.1)

-- long data for a place
pub record PlaceData : Type 0 where
  pub place : ℕ
  pub bytes : List ℕ

-- the body of a long data command: the id, a place, bytes to the end
abbrev pub place_data_at : Statement → List ℕ → Result PlaceData StreamFault
place_data_at statement body = do
  rest ← id_at statement body
  place ← number_or BadPlace 2 rest
  must BadPlace (nat_lt place.0 (place_count statement.query))
  Ok (record { place = place.0; bytes = place.1 })

-- what stands before an execute's cells: the null bitmap, and the types where it carries them
pub record ExecuteHead : Type 0 where
  pub nulls : List ℕ
  pub own : Option Types
  pub cells : List ℕ

-- the bitmap, the bound flag, and behind a 1 the types
unfoldable pub binding_at : ℕ → List ℕ → Result ExecuteHead StreamFault
binding_at n bytes = do
  nulls ← bytes_or BadExecute ((n + 7) / 8) bytes
  bound ← number_or BadExecute 1 nulls.1
  must BadExecute (nat_le bound.0 1)
  if bound.0 == 0 then Ok (record { nulls = nulls.0; own = None; cells = bound.1 })
      else do
        types ← types_at BadExecute n bound.1
        Ok (record { nulls = nulls.0; own = Some types.0; cells = types.1 })

-- the flags of an execute: it opens no cursor (CURSOR_TYPE_NO_CURSOR)
abbrev pub no_cursor : ℕ
no_cursor = 0

-- the id, no cursor, an iteration count of 1, and with places the binding
unfoldable pub execute_head : Statement → List ℕ → Result ExecuteHead StreamFault
execute_head statement body = do
  rest ← id_at statement body
  cursor ← number_or BadExecute 1 rest
  must BadExecute (cursor.0 == no_cursor)
  count ← number_or BadExecute 4 cursor.1
  must BadExecute (count.0 == 1)
  if place_count statement.query == 0 then Ok (record { nulls = []; own = None; cells = count.1 })
      else binding_at (place_count statement.query) count.1

-- what stands before a bulk's rows: the types where it carries them
pub record BulkHead : Type 0 where
  pub own : Option Types
  pub rows : List ℕ

-- the flags of a bulk: SEND_UNIT_RESULTS and SEND_TYPES_TO_SERVER
abbrev pub send_unit_results : ℕ
send_unit_results = 0x40

abbrev pub send_types_to_server : ℕ
send_types_to_server = 0x80

-- none of the two, either or both, and no other
abbrev pub are_bulk_flags : ℕ → Bool
are_bulk_flags flags =
    flags == 0 || flags == send_unit_results || flags == send_types_to_server
    || flags == send_unit_results + send_types_to_server

-- The id, the flags, and the types where they are sent. (`mysql_bulk_builder` reads the same layout, but
-- takes the indicators DEFAULT and IGNORE in its rows, which have no content here.)
unfoldable pub bulk_head : Statement → List ℕ → Result BulkHead StreamFault
bulk_head statement body = do
  rest ← id_at statement body
  flags ← number_or BadBulk 2 rest
  must BadBulk (are_bulk_flags flags.0)
  if not (contains flags.0 send_types_to_server) then Ok (record { own = None; rows = flags.1 })
      else do
        types ← types_at BadBulk (place_count statement.query) flags.1
        Ok (record { own = Some types.0; rows = types.1 })

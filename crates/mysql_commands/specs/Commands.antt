-- A client's commands: what one payload says. Its first byte is the command's number, and its row in the table
-- says how the fields behind that byte lie.
-- MySQL: Client/Server Protocol, "Command Phase" ("Text Protocol", "Utility Commands", "Prepared Statements",
-- "Replication Protocol"); MariaDB: Client/Server Protocol, "2 - Text Protocol", "3 - Binary Protocol (Prepared
-- Statements)", "Replication Protocol".
use Rattle.std.specs.Prelude.{ℕ, nat_eq, ◌==◌, if◌then◌else◌, List, [], ◌∷◌, length, Option, None, Some, Result, Ok}
use Rattle.std.specs.Prelude.{Err}
use Rattle.std.specs.Option.{option_map}
use Rattle.mysql_const.specs.Tables.{entry_of}
use Rattle.mysql_const.specs.declared.capabilities.Capabilities.{Capabilities}
use Rattle.mysql_executions.specs.Attributes.{query_attributes_at}
use Rattle.mysql_executions.specs.Bulks.{BulkExecution, bulk_execution_at}
use Rattle.mysql_executions.specs.Executions.{Execution, execution_at}
use Rattle.mysql_executions.specs.InForce.{InForce}
use Rattle.mysql_executions.specs.Types.{has_query_attributes}
use Rattle.mysql_executions.specs.declared.types.Attribute.{Attribute}
use Rattle.mysql_fields.specs.Forms.{fixed_number_at}
use Rattle.mysql_fields.specs.Texts.{null_text_at}
use Rattle.mysql_fields.specs.Wire.{Reading, ◌>>=◌}
use Rattle.mysql_login.specs.ChangedUsers.{ChangeUserFields, change_in_force_at}
use Rattle.mysql_replication.specs.Packets as replica
use Rattle.mysql_replication.specs.Packets.{binlog_dump_at, binlog_dump_gtid_at, register_slave_at, table_dump_at}

-- what a client asks for; Other is a payload that says nothing of these, as it stands
pub data Command : Type 0 where
  Quit : Command
  InitDb : List ℕ → Command
  Query : List Attribute → List ℕ → Command
  FieldList : List ℕ → List ℕ → Command
  CreateDb : List ℕ → Command
  DropDb : List ℕ → Command
  Refresh : ℕ → Command
  Shutdown : Option ℕ → Command
  Statistics : Command
  ProcessInfo : Command
  ProcessKill : ℕ → Command
  Debug : Command
  Ping : Command
  ChangeUser : ChangeUserFields → Command
  BinlogDump : replica.BinlogDump → Command
  TableDump : replica.TableDump → Command
  RegisterSlave : replica.RegisterSlave → Command
  Prepare : List ℕ → Command
  Execute : Execution → Command
  LongData : ℕ → ℕ → List ℕ → Command
  Close : ℕ → Command
  ResetStatement : ℕ → Command
  SetOption : ℕ → Command
  Fetch : ℕ → ℕ → Command
  BinlogDumpGtid : replica.BinlogDumpGtid → Command
  ResetConnection : Command
  Clone : List ℕ → Command
  BulkExecute : BulkExecution → Command
  Other : List ℕ → Command

-- what the bytes behind a command's number say, where they are laid out so
abbrev pub Layout : Type 0
Layout = List ℕ → Option Command

-- no byte
abbrev pub alone : Command → Layout
alone command bytes = if length bytes == 0 then Some command else None

-- a text to the end
abbrev pub text : (List ℕ → Command) → Layout
text command bytes = Some (command bytes)

-- fields behind which no byte is left
abbrev pub all_of : {X : Type 0} → Reading X → Option X
all_of (Ok x) = if length x.1 == 0 then Some x.0 else None
all_of (Err e) = None

abbrev pub fields : {X : Type 0} → (X → Command) → (List ℕ → Reading X) → Layout
fields command read_at bytes = option_map command (all_of (read_at bytes))

-- a packet that is read from its number on
abbrev pub packet : {X : Type 0} → ℕ → (X → Command) → (List ℕ → Reading X) → ℕ × Layout
packet number command read_at = (number, λ bytes. fields command read_at (number ∷ bytes))

-- fields that stand first: servers read no further, and bytes behind them don't count
abbrev pub first_of : {X : Type 0} → Reading X → Option X
first_of (Ok x) = Some x.0
first_of (Err e) = None

-- the same of a packet that is read from its number on
abbrev pub front : {X : Type 0} → ℕ → (X → Command) → (List ℕ → Reading X) → ℕ × Layout
front number command read_at = (number, λ bytes. option_map command (first_of (read_at (number ∷ bytes))))

-- a number of one byte, which may be missing
abbrev pub level_at : List ℕ → Reading (Option ℕ)
level_at [] = Ok (None, [])
level_at (byte ∷ bytes) = Ok (Some byte, bytes)

-- a query's text to the end, behind its attributes where they are in force
abbrev pub query_at : Capabilities → Layout
query_at capabilities bytes =
    if has_query_attributes capabilities then option_map (λ query. Query query.0 query.1) (query_attributes_at bytes)
    else Some (Query [] bytes)

-- an execution, by what is in force of its statement's parameters; of a statement that isn't known there is none
abbrev pub by_statement : {X : Type 0} → (X → Command) → (InForce → List ℕ → Option X) → Option InForce → Layout
by_statement command read_at None bytes = None
by_statement command read_at (Some parameters) bytes = option_map command (read_at parameters bytes)

-- a table's name to a zero, and a pattern of columns' names to the end
abbrev pub field_list_at : List ℕ → Reading Command
field_list_at bytes = null_text_at bytes >>= λ table. Ok (FieldList table.0 table.1, [])

-- a statement's id, a parameter's place, and bytes to the end
abbrev pub long_data_at : List ℕ → Reading Command
long_data_at bytes = do
  id ← fixed_number_at 4 bytes
  place ← fixed_number_at 2 id.1
  Ok (LongData id.0 place.0 place.1, [])

-- a statement's id, and how many rows are asked for
abbrev pub fetch_at : List ℕ → Reading Command
fetch_at bytes = do
  id ← fixed_number_at 4 bytes
  rows ← fixed_number_at 4 id.1
  Ok (Fetch id.0 rows.0, rows.1)

-- the table: a command's number, and the bytes behind it
abbrev pub layouts : Capabilities → Option InForce → List (ℕ × Layout)
layouts capabilities parameters =
    (0x01, alone Quit)
    ∷ (0x02, text InitDb)
    ∷ (0x03, query_at capabilities)
    ∷ (0x04, fields (λ c. c) field_list_at)
    ∷ (0x05, text CreateDb)
    ∷ (0x06, text DropDb)
    ∷ (0x07, fields Refresh (fixed_number_at 1))
    ∷ (0x08, fields Shutdown level_at)
    ∷ (0x09, alone Statistics)
    ∷ (0x0a, alone ProcessInfo)
    ∷ (0x0c, fields ProcessKill (fixed_number_at 4))
    ∷ (0x0d, alone Debug)
    ∷ (0x0e, alone Ping)
    ∷ front 0x11 ChangeUser (change_in_force_at capabilities.protocol.0)
    ∷ packet 0x12 BinlogDump binlog_dump_at
    ∷ packet 0x13 TableDump table_dump_at
    ∷ packet 0x15 RegisterSlave register_slave_at
    ∷ (0x16, text Prepare)
    ∷ (0x17, by_statement Execute (execution_at capabilities) parameters)
    ∷ (0x18, fields (λ c. c) long_data_at)
    ∷ (0x19, fields Close (fixed_number_at 4))
    ∷ (0x1a, fields ResetStatement (fixed_number_at 4))
    ∷ (0x1b, fields SetOption (fixed_number_at 2))
    ∷ (0x1c, fields (λ c. c) fetch_at)
    ∷ packet 0x1e BinlogDumpGtid binlog_dump_gtid_at
    ∷ (0x1f, alone ResetConnection)
    ∷ (0x20, text Clone)
    ∷ (0xfa, by_statement BulkExecute (bulk_execution_at capabilities) parameters)
    ∷ []

-- the bytes behind a number, by its row, where it has one
abbrev pub laid_out : Capabilities → Option InForce → ℕ → List ℕ → Option Command
laid_out capabilities parameters number bytes = elim (entry_of nat_eq (layouts capabilities parameters) number) [
  | None ↦ None
  | Some layout ↦ layout bytes
]

-- what a payload says, where it is laid out as a command
abbrev pub said : Capabilities → Option InForce → List ℕ → Option Command
said capabilities parameters [] = None
said capabilities parameters (number ∷ bytes) = laid_out capabilities parameters number bytes

-- a payload that isn't laid out so is another one, as it stands
abbrev pub or_other : List ℕ → Option Command → Command
or_other payload None = Other payload
or_other payload (Some command) = command

-- What a payload says, by the capabilities in force and what is in force of the parameters of the statement that it is
-- about, where that is known. No payload is refused.
abbrev pub command_at : Capabilities → Option InForce → List ℕ → Command
command_at capabilities parameters payload = or_other payload (said capabilities parameters payload)

-- The payload of a command: its number, and its fields as its row says, by the capabilities in force. MySQL:
-- Client/Server Protocol, "Command Phase"; MariaDB: Client/Server Protocol, "2 - Text Protocol", "3 - Binary Protocol
-- (Prepared Statements)".
use Rattle.std.specs.Prelude.{ℕ, List, [], ◌∷◌, ◌++◌, None, Option, Some, if◌then◌else◌}
use Rattle.byteorder.specs.Endian.{little_bytes}
use Rattle.mysql_const.specs.declared.capabilities.Capabilities.{Capabilities}
use Rattle.mysql_execution_writer.specs.Bulks.{bulk_bytes}
use Rattle.mysql_execution_writer.specs.Written.{execution_bytes, query_attributes_bytes}
use Rattle.mysql_executions.specs.InForce.{InForce}
use Rattle.mysql_executions.specs.Types.{has_query_attributes}
use Rattle.mysql_executions.specs.declared.types.Attribute.{Attribute}
use Rattle.mysql_fields.specs.Texts.{null_text}
use Rattle.mysql_login.specs.ChangedUsers.{change_in_force}
use Rattle.mysql_replication.specs.Packets.{binlog_dump, binlog_dump_gtid, register_slave, table_dump}
use Rattle.mysql_commands.specs.Commands.{Command, Quit, InitDb, Query, FieldList, CreateDb, DropDb, Refresh, Shutdown}
use Rattle.mysql_commands.specs.Commands.{Statistics, ProcessInfo, ProcessKill, Debug, Ping, Prepare, LongData, Close}
use Rattle.mysql_commands.specs.Commands.{BinlogDump, BinlogDumpGtid, ChangeUser, RegisterSlave, TableDump}
use Rattle.mysql_commands.specs.Commands.{ResetStatement, SetOption, Fetch, ResetConnection, Clone, Other}
use Rattle.mysql_commands.specs.Commands.{BulkExecute, Execute}

-- behind the number of a query: its attributes, where they are in force, and its text
abbrev pub query_bytes : Capabilities → List Attribute → List ℕ → List ℕ
query_bytes capabilities attributes sql =
    if has_query_attributes capabilities then query_attributes_bytes attributes ++ sql else sql

-- behind the number of an execution, by what is in force of its statement's parameters; nothing of a statement that
-- isn't known
abbrev pub by_parameters : (InForce → List ℕ) → Option InForce → List ℕ
by_parameters bytes None = []
by_parameters bytes (Some parameters) = bytes parameters

-- texts are cut where their form ends: a name at its first zero, a text behind a length at the longest
abbrev pub command_bytes : Capabilities → Option InForce → Command → List ℕ
command_bytes capabilities parameters Quit = 0x01 ∷ []
command_bytes capabilities parameters (InitDb schema) = 0x02 ∷ schema
command_bytes capabilities parameters (Query attributes sql) = 0x03 ∷ query_bytes capabilities attributes sql
command_bytes capabilities parameters (FieldList table wildcard) = 0x04 ∷ null_text table ++ wildcard
command_bytes capabilities parameters (CreateDb schema) = 0x05 ∷ schema
command_bytes capabilities parameters (DropDb schema) = 0x06 ∷ schema
command_bytes capabilities parameters (Refresh flags) = 0x07 ∷ little_bytes 1 flags
command_bytes capabilities parameters (Shutdown None) = 0x08 ∷ []
command_bytes capabilities parameters (Shutdown (Some level)) = 0x08 ∷ little_bytes 1 level
command_bytes capabilities parameters Statistics = 0x09 ∷ []
command_bytes capabilities parameters ProcessInfo = 0x0a ∷ []
command_bytes capabilities parameters (ProcessKill id) = 0x0c ∷ little_bytes 4 id
command_bytes capabilities parameters Debug = 0x0d ∷ []
command_bytes capabilities parameters Ping = 0x0e ∷ []
command_bytes capabilities parameters (ChangeUser login) = change_in_force capabilities.protocol.0 login
command_bytes capabilities parameters (BinlogDump request) = binlog_dump request
command_bytes capabilities parameters (TableDump request) = table_dump request
command_bytes capabilities parameters (RegisterSlave replica) = register_slave replica
command_bytes capabilities parameters (Prepare sql) = 0x16 ∷ sql
command_bytes capabilities parameters (Execute execution) =
    0x17 ∷ by_parameters (λ s. execution_bytes capabilities s execution) parameters
command_bytes capabilities parameters (LongData id place bytes) =
    0x18 ∷ little_bytes 4 id ++ (little_bytes 2 place ++ bytes)
command_bytes capabilities parameters (Close id) = 0x19 ∷ little_bytes 4 id
command_bytes capabilities parameters (ResetStatement id) = 0x1a ∷ little_bytes 4 id
command_bytes capabilities parameters (SetOption option) = 0x1b ∷ little_bytes 2 option
command_bytes capabilities parameters (Fetch id rows) = 0x1c ∷ little_bytes 4 id ++ little_bytes 4 rows
command_bytes capabilities parameters (BinlogDumpGtid request) = binlog_dump_gtid request
command_bytes capabilities parameters ResetConnection = 0x1f ∷ []
command_bytes capabilities parameters (Clone arguments) = 0x20 ∷ arguments
command_bytes capabilities parameters (BulkExecute execution) =
    0xfa ∷ by_parameters (λ s. bulk_bytes s execution) parameters
command_bytes capabilities parameters (Other payload) = payload

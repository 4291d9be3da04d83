-- What a command says, apart from where its parts lie.
use Rattle.std.specs.Prelude.{◌≡◌, ℕ, List, ◌∷◌, Option, Some}
use Rattle.std.specs.Cow.{cow_slice_items}
use Rattle.mysql_const.specs.declared.capabilities.Capabilities.{Capabilities}
use Rattle.mysql_commands.specs.Commands.{Command, Quit, InitDb, Query, FieldList, CreateDb, DropDb, Refresh, Shutdown}
use Rattle.mysql_commands.specs.Commands.{Statistics, ProcessInfo, ProcessKill, Debug, Ping, Prepare, LongData, Close}
use Rattle.mysql_commands.specs.Commands.{BinlogDump, BinlogDumpGtid, BulkExecute, ChangeUser, Execute, RegisterSlave}
use Rattle.mysql_commands.specs.Commands.{TableDump}
use Rattle.mysql_commands.specs.Commands.{ResetStatement, SetOption, Fetch, ResetConnection, Clone, Other}
use Rattle.mysql_commands.specs.declared.command.Command.{Command as Held}
use Rattle.mysql_commands.specs.declared.command.Command.TheVariants as held
use Rattle.mysql_executions.specs.declared.bulk.BulkExecution.{BulkExecution as HeldBulk}
use Rattle.mysql_executions.specs.declared.types.Execution.{Execution as HeldExecution}
use Rattle.mysql_executions.specs.InForce.{InForce}
use Rattle.mysql_executions.specs.Unclear.{unclear_at, unclear_bulk_at}
use Rattle.mysql_executions.specs.Views.{bulk_of, cells_of, execution_of, unclear_of}
use Rattle.mysql_login.specs.ChangedUserViews.{change_user_view}
use Rattle.mysql_replication.specs.Views.{binlog_dump_gtid_view, binlog_dump_view, register_slave_view, table_dump_view}

-- What a command says, however its payload spells it.
abbrev pub command_view : Held → Command
command_view held.Quit = Quit
command_view (held.InitDb schema) = InitDb (cow_slice_items schema)
command_view (held.Query attributes sql) = Query attributes.items (cow_slice_items sql)
command_view (held.FieldList table wildcard) = FieldList (cow_slice_items table) (cow_slice_items wildcard)
command_view (held.CreateDb schema) = CreateDb (cow_slice_items schema)
command_view (held.DropDb schema) = DropDb (cow_slice_items schema)
command_view (held.Refresh flags) = Refresh flags
command_view (held.Shutdown level) = Shutdown level
command_view held.Statistics = Statistics
command_view held.ProcessInfo = ProcessInfo
command_view (held.ProcessKill id) = ProcessKill id
command_view held.Debug = Debug
command_view held.Ping = Ping
command_view (held.ChangeUser login) = ChangeUser (change_user_view login)
command_view (held.BinlogDump request) = BinlogDump (binlog_dump_view request)
command_view (held.TableDump request) = TableDump (table_dump_view request)
command_view (held.RegisterSlave replica) = RegisterSlave (register_slave_view replica)
command_view (held.Prepare sql) = Prepare (cow_slice_items sql)
command_view (held.Execute execution) = Execute (execution_of execution)
command_view (held.LongData id place bytes) = LongData id place (cow_slice_items bytes)
command_view (held.Close id) = Close id
command_view (held.ResetStatement id) = ResetStatement id
command_view (held.SetOption option) = SetOption option
command_view (held.Fetch id rows) = Fetch id rows
command_view (held.BinlogDumpGtid request) = BinlogDumpGtid (binlog_dump_gtid_view request)
command_view held.ResetConnection = ResetConnection
command_view (held.Clone arguments) = Clone (cow_slice_items arguments)
command_view (held.BulkExecute execution) = BulkExecute (bulk_of execution)
command_view (held.Other payload) = Other (cow_slice_items payload)

-- Of an execution that this payload says exactly those values are unclear that are so by its bytes and by
-- what is in force.
abbrev pub HasUnclearValues : Capabilities → Option InForce → List ℕ → HeldExecution → Type 0
HasUnclearValues capabilities (Some s) (number ∷ body) e =
    number ≡ 0x17 → unclear_at capabilities s body ≡ Some (unclear_of e.unclear)
HasUnclearValues capabilities parameters payload e = Unit {0}

-- The same of a bulk execution's cells.
abbrev pub HasUnclearCells : Option InForce → List ℕ → HeldBulk → Type 0
HasUnclearCells (Some s) (number ∷ body) e = number ≡ 0xfa → unclear_bulk_at s body ≡ cells_of e.unclear
HasUnclearCells parameters payload e = Unit {0}

-- The same of a command; of one that is no execution nothing is said.
abbrev pub HasUnclear : Capabilities → Option InForce → List ℕ → Held → Type 0
HasUnclear capabilities parameters payload (held.Execute e) = HasUnclearValues capabilities parameters payload e
HasUnclear capabilities parameters payload (held.BulkExecute e) = HasUnclearCells parameters payload e
HasUnclear capabilities parameters payload command = Unit {0}

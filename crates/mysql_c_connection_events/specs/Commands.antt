-- What C sees of commands: a kind is 256 and the command's number.
-- MySQL: Client/Server Protocol, "Command Phase".
use Rattle.std.specs.Prelude.{ℕ, ◌^◌, ◌+◌, ◌-◌, List, [], ◌∷◌, length}
use Rattle.mysql_buf.specs.Writing.{front}
use Rattle.mysql_commands.specs.Commands as said
use Rattle.mysql_commands.specs.Commands.{Command}
use Rattle.mysql_executions.specs.Bulks.{BulkExecution}
use Rattle.mysql_executions.specs.Executions.{Execution}
use Rattle.mysql_executions.specs.declared.bulk.BulkValue.{BulkValue}
use Rattle.mysql_ok_packets.specs.Written.{or_zero}
use Rattle.mysql_replication.specs.Packets.{BinlogDump, BinlogDumpGtid, RegisterSlave, TableDump}
use Rattle.mysql_c_connection_events.specs.Logins.{change_shown}
use Rattle.mysql_c_connection_events.specs.Shown.{blank_shown, data_shown, number_shown, statement_shown}
use Rattle.mysql_c_connection_events.specs.Shown.{text_shown}
use Rattle.mysql_c_connection_events.specs.declared.shown.ShownEvent.{ShownEvent}

-- a query with so many attributes
abbrev pub query_shown : ℕ → List ℕ → ShownEvent → ShownEvent
query_shown attributes sql shown = record (text_shown 0x103 0 sql shown) { attributes = attributes }

-- an execution of a statement of this text: its flags are the cursor's and those without a name, its
-- number is the iteration count, its data what stands behind the last value
abbrev pub execution_shown : Execution → List ℕ → ShownEvent → ShownEvent
execution_shown e text shown = record (text_shown 0x117 0 text shown) {
  statement = e.statement;
  flags = e.cursor.0 + e.nameless_flags;
  number = e.iterations;
  params = length e.parameters;
  attributes = length e.attributes;
  data_len = length e.rest;
}

-- how many values stand in each row: in the first one, if there is one
abbrev pub width_of : List (List BulkValue) → ℕ
width_of [] = 0
width_of (row ∷ rows) = length row

-- a bulk execution of a statement of this text: its data are what stands behind the last row
abbrev pub bulk_shown : BulkExecution → List ℕ → ShownEvent → ShownEvent
bulk_shown e text shown = record (text_shown 0x1fa 0 text shown) {
  statement = e.statement;
  rows = length e.rows;
  params = width_of e.rows;
  data_len = length e.rest;
}

-- a piece of a parameter; its number is the parameter's place
abbrev pub long_data_shown : ℕ → ℕ → List ℕ → ShownEvent → ShownEvent
long_data_shown id place bytes shown =
    record (data_shown 0x118 0 bytes shown) { statement = id; number = place }

-- requests for a binary log; the number is the replica's
abbrev pub dump_shown : BinlogDump → ShownEvent → ShownEvent
dump_shown p shown = record (text_shown 0x112 0 p.filename shown) {
  number = p.server_id;
  position = p.pos;
  flags = p.flags;
}

abbrev pub gtid_dump_shown : BinlogDumpGtid → ShownEvent → ShownEvent
gtid_dump_shown p shown = record (text_shown 0x11e 0 (front p.filename (2 ^ 32 - 1)) shown) {
  number = p.server_id;
  position = p.pos;
  flags = p.flags;
}

-- a request for a table
abbrev pub table_shown : TableDump → ShownEvent → ShownEvent
table_shown p shown =
    record (text_shown 0x113 0 (front p.table 255) shown) { database_len = length (front p.database 255) }

-- what a replica says of itself; its text is the name of its machine
abbrev pub replica_shown : RegisterSlave → ShownEvent → ShownEvent
replica_shown p shown = record (text_shown 0x115 0 (front p.hostname 255) shown) {
  number = p.server_id;
  user_len = length (front p.user 255);
}

-- the columns of a table; the data are the pattern
abbrev pub list_shown : List ℕ → List ℕ → ShownEvent → ShownEvent
list_shown table wildcard shown =
    record (text_shown 0x104 0 table shown) { data_len = length wildcard }

-- rows of an open cursor
abbrev pub fetch_shown : ℕ → ℕ → ShownEvent → ShownEvent
fetch_shown id rows shown = record (statement_shown 0x11c 0 id shown) { rows = rows }

-- the first byte, or 0
abbrev pub first_of : List ℕ → ℕ
first_of [] = 0
first_of (b ∷ bytes) = b

-- a payload that is laid out as no command; its number is its first byte
abbrev pub other_shown : List ℕ → ShownEvent → ShownEvent
other_shown payload shown = record (data_shown 0x200 0 payload shown) { number = first_of payload }

-- what the client asks for; the text is that of the statement that it executes
abbrev pub command_shown : List ℕ → Command → ShownEvent → ShownEvent
command_shown text said.Quit shown = blank_shown 0x101 0 shown
command_shown text (said.InitDb schema) shown = text_shown 0x102 0 schema shown
command_shown text (said.Query attributes sql) shown = query_shown (length attributes) sql shown
command_shown text (said.FieldList table wildcard) shown = list_shown table wildcard shown
command_shown text (said.CreateDb schema) shown = text_shown 0x105 0 schema shown
command_shown text (said.DropDb schema) shown = text_shown 0x106 0 schema shown
command_shown text (said.Refresh flags) shown = number_shown 0x107 0 flags shown
command_shown text (said.Shutdown level) shown = number_shown 0x108 0 (or_zero level) shown
command_shown text said.Statistics shown = blank_shown 0x109 0 shown
command_shown text said.ProcessInfo shown = blank_shown 0x10a 0 shown
command_shown text (said.ProcessKill id) shown = number_shown 0x10c 0 id shown
command_shown text said.Debug shown = blank_shown 0x10d 0 shown
command_shown text said.Ping shown = blank_shown 0x10e 0 shown
command_shown text (said.ChangeUser login) shown = change_shown login shown
command_shown text (said.BinlogDump request) shown = dump_shown request shown
command_shown text (said.TableDump request) shown = table_shown request shown
command_shown text (said.RegisterSlave replica) shown = replica_shown replica shown
command_shown text (said.Prepare sql) shown = text_shown 0x116 0 sql shown
command_shown text (said.Execute e) shown = execution_shown e text shown
command_shown text (said.LongData id place bytes) shown = long_data_shown id place bytes shown
command_shown text (said.Close id) shown = statement_shown 0x119 0 id shown
command_shown text (said.ResetStatement id) shown = statement_shown 0x11a 0 id shown
command_shown text (said.SetOption option) shown = number_shown 0x11b 0 option shown
command_shown text (said.Fetch id rows) shown = fetch_shown id rows shown
command_shown text (said.BinlogDumpGtid request) shown = gtid_dump_shown request shown
command_shown text said.ResetConnection shown = blank_shown 0x11f 0 shown
command_shown text (said.Clone arguments) shown = data_shown 0x120 0 arguments shown
command_shown text (said.BulkExecute e) shown = bulk_shown e text shown
command_shown text (said.Other payload) shown = other_shown payload shown

-- What the fields of the crate's types stand for.
use Rattle.std.specs.Prelude.{ℕ, ◌≤◌, Bool, true, false, List, drop, length, take, option_map}
use Rattle.std.specs.Prelude.{Option, Some, None}
use Rattle.mysql_connection_machine.specs.Buffers.{Buffer}
use Rattle.mysql_connection_machine.specs.Machines.{LendingWorld, Machine, failure_view}
use Rattle.mysql_connection_machine.specs.declared.connection.Connection as connection
use Rattle.mysql_connection_machine.specs.declared.stream_buffer.StreamBuffer as stream
use Rattle.mysql_connection_machine.specs.declared.both_streams.BothStreams as reader
use Rattle.mysql_connection_rules.specs.Standing.{Standing}
use Rattle.mysql_connection_writer.specs.NextRows.{IsAmongRows}
use Rattle.mysql_reply_events.specs.Standing.{RowAt}
use Rattle.mysql_row_refs.specs.RowRefs.{row_held}
use Rattle.mysql_row_refs.specs.declared.reader.RowReader.{RowReader}
use Rattle.mysql_rows.specs.Rows.{Row}

abbrev pub buffer_inside : stream.TheInside.Inside → Buffer
buffer_inside s = record {
  stream = record { read = s.read; bytes = drop s.lent s.bytes.items; closed = s.closed };
  lent = drop 4 (take s.lent s.bytes.items);
}

abbrev pub IsLentWithin : stream.TheInside.Inside → Type 0
IsLentWithin s = s.lent ≤ length s.bytes.items

-- The row that lies in the payload that was lent.
abbrev pub row_lent : Bool → Option RowReader → List ℕ → Option Row
row_lent true (Some reader) payload = Some (row_held reader payload)
row_lent has reader payload = None

abbrev pub IsLent : Bool → Option RowReader → List ℕ → Type 0
IsLent true rows payload = (row : Row) × RowAt rows payload row
IsLent false rows payload = Unit {0}

-- Where rows are put, another one changes nothing of what stands.
abbrev pub AreRowsPut : Bool → Standing → Type 0
AreRowsPut true standing = IsAmongRows standing
AreRowsPut false standing = Unit {0}

abbrev pub IsReaderSound : reader.TheInside.Inside → Type 0
IsReaderSound r = IsLent r.lends r.state.rows r.server.lent × AreRowsPut r.puts_rows r.state.standing

abbrev pub lending_inside : reader.TheInside.Inside → LendingWorld
lending_inside r = record {
  world = record {
    limits = r.limits;
    standing = r.state.standing;
    unread = record { client = r.client.stream; server = r.server.stream };
  };
  row = row_lent r.lends r.state.rows r.server.lent;
}

abbrev pub machine_inside : connection.TheInside.Inside → Machine
machine_inside c = record {
  world = c.reader.world;
  failure = option_map failure_view c.fault;
  row = c.reader.row;
  mode = c.mode;
}

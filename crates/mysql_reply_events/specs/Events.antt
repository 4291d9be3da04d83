-- What the payloads of a reply are, one event each, and what is awaited of a reply.
-- MySQL: Client/Server Protocol, "COM_QUERY Response", "COM_STMT_PREPARE Response", "COM_STMT_FETCH Response",
-- "COM_FIELD_LIST Response" and "COM_STATISTICS"; MariaDB: 'Progress report' of "ERR_Packet".
use Rattle.std.specs.Prelude.{ℕ, Bool, List, Option}
use Rattle.mysql_columns.specs.Columns.{ColumnDefinition}
use Rattle.mysql_columns.specs.Extended.{ExtendedDefinition, ListedDefinition}
use Rattle.mysql_ok_packets.specs.OkPackets.{OkPacket}
use Rattle.mysql_rows.specs.Rows.{Row}
use Rattle.mysql_server_packets.specs.Packets.{PrepareOk, ProgressReport, ServerError}

abbrev pub Payload : Type 0
Payload = List ℕ

-- What one payload says.
pub data Event : Type 0 where
  OkEvent : OkPacket → Event
  ErrorEvent : ServerError → Event
  ProgressEvent : ProgressReport → Event
  -- So many columns; whether they follow.
  CountEvent : ℕ → Bool → Event
  ColumnEvent : ExtendedDefinition → Event
  -- A column of a table, and its default value, where it has one.
  FieldEvent : ListedDefinition → Event
  -- The EOF behind columns.
  ColumnsEndEvent : OkPacket → Event
  RowEvent : Row → Event
  -- A row whose columns aren't known, as it came.
  RawRowEvent : List ℕ → Event
  -- The terminator of rows, or the EOF in an OK packet's place.
  RowsEndEvent : OkPacket → Event
  -- A request for the client's file of this name.
  FileEvent : List ℕ → Event
  -- A prepared statement; whether its parameters and columns follow.
  PreparedEvent : PrepareOk → Bool → Event
  -- A text, or the first payload of a stream of its own.
  LineEvent : List ℕ → Event

-- What columns belong to.
pub data Group : Type 0 where
  -- A result set: its rows follow.
  ResultSet : Group
  -- The parameters of a prepared statement: so many columns of it come next; whether they follow.
  Parameters : ℕ → Bool → Group
  -- The columns of a prepared statement, which end the reply.
  Statement : Group

-- What is read next.
pub data Awaited : Type 0 where
  -- The first payload of a reply, or of a further result.
  First : Awaited
  -- A column of this group and n more behind it; the ones before it, but for parameters, which aren't kept.
  Columns : Group → ℕ → List ColumnDefinition → Awaited
  -- The EOF behind columns; whether rows behind it are read by the columns that stand.
  ColumnsEnd : Group → Bool → Awaited
  -- A row or what ends rows; whether rows are read by the columns that stand.
  Rows : Bool → Awaited
  -- A column of a table or what ends them.
  Fields : Awaited
  -- Bytes of the client's file; behind an empty payload the reply goes on.
  FileData : Awaited
  -- Nothing: the reply is whole.
  Nothing : Awaited

-- A reply so far: what is read next, and the columns that stand, if some do: those of the last result set or
-- statement whose columns came, before that those that the statement had.
pub record ReplySoFar : Type 0 where
  pub awaited : Awaited
  pub columns : Option (List ColumnDefinition)

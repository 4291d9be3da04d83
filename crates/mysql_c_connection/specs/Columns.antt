-- Which columns an event has.
-- MySQL: Client/Server Protocol, "Column Definition".
use Rattle.std.specs.Prelude.{ℕ, ◌==◌, Option, Some, None, if◌then◌else◌, slice_get}
use Rattle.std.specs.Option.{option_and_then}
use Rattle.mysql_columns.specs.Columns.{ColumnDefinition}
use Rattle.mysql_connection_rules.specs.Events as said
use Rattle.mysql_connection_rules.specs.Events.{Event}
use Rattle.mysql_reply_events.specs.Events.Event.{ColumnEvent, FieldEvent, RowEvent}
use Rattle.mysql_reply_events.specs.Events.{Event as ReplySaid}
use Rattle.mysql_c_connection.specs.declared.object.Object.{Object}
use Rattle.mysql_c_connection.specs.Values.{event_held}

-- the column that a payload is, by the number 0; or that of a row's cell
abbrev pub reply_column : ReplySaid → ℕ → Option ColumnDefinition
reply_column (ColumnEvent column) number = if number == 0 then Some column.column else None
reply_column (FieldEvent field) number = if number == 0 then Some field.column.column else None
reply_column (RowEvent row) number = slice_get row.columns number
reply_column reply number = None

abbrev pub column_in : Event → ℕ → Option ColumnDefinition
column_in (said.Replied reply) number = reply_column reply number
column_in event number = None

-- the column of this number of the event that an object holds
abbrev pub column_held : Object → ℕ → Option ColumnDefinition
column_held held number = option_and_then (λ event. column_in event number) (event_held held)

-- Words of the reader's own body, which no public call's clause has: the columns that stand, and what reads rows
-- under them. MySQL: Client/Server Protocol, "Text Resultset" and "Binary Protocol Resultset".
use Rattle.std.specs.Prelude.{◌≡◌, List, Option, Some, None, option_map, Result, Ok, Err}
use Rattle.std.specs.Prelude.{if◌then◌else◌}
use Rattle.std.specs.declared.alloc.Global.{Global}
use Rattle.std.specs.declared.rc.RcSlice.{RcSlice}
use Rattle.mysql_columns.specs.Columns.{ColumnDefinition}
use Rattle.mysql_columns.specs.declared.column.Column.{Column}
use Rattle.mysql_row_refs.specs.RowRefs.{HoldsRow, row_held, row_of}
use Rattle.mysql_row_refs.specs.declared.errors.RowError.{RowError}
use Rattle.mysql_row_refs.specs.declared.format.RowFormat.{RowFormat}
use Rattle.mysql_row_refs.specs.declared.format.RowFormat.TheVariants.{Binary, Text}
use Rattle.mysql_row_refs.specs.declared.reader.RowReader.{RowReader}
use Rattle.mysql_rows.specs.Rows.{Row}
use Rattle.mysql_rows.specs.Views.{shared_columns}
use Rattle.mysql_reply_events.specs.declared.context.ReplyKind.{ReplyKind}
use Rattle.mysql_reply_events.specs.declared.fault.ReplyFault.{ReplyFault}
use Rattle.mysql_reply_events.specs.declared.fault.ReplyFault.TheVariants.{BadRow}
use Rattle.mysql_reply_events.specs.Events.{Payload}
use Rattle.mysql_reply_events.specs.Readings.{is_binary}
use Rattle.mysql_reply_events.specs.Views.{Refuses}

-- The columns that stand, if some do, the format of rows under them, and what reads rows to be lent, once one was.
pub record Standing : Type 0 where
  pub columns : Option (List ColumnDefinition)
  pub format : RowFormat
  pub reader : Option RowReader

abbrev pub columns_of : Option (RcSlice Column Global) → Option (List ColumnDefinition)
columns_of columns = option_map shared_columns columns

-- A reader of rows under the columns that stand, in this format.
abbrev pub IsReaderOf : Option (List ColumnDefinition) → RowFormat → Option RowReader → Type 0
IsReaderOf columns format None = Unit {0}
IsReaderOf columns format (Some reader) =
    (columns ≡ Some (shared_columns reader.columns)) × (reader.format ≡ format)

-- The format of rows, by the kind of the command.
abbrev pub format_of : ReplyKind → RowFormat
format_of kind = if is_binary kind then Binary else Text

-- A row lies in a payload: the reader has found there the place of each of its cells.
abbrev pub RowAt : Option RowReader → Payload → Row → Type 0
RowAt (Some reader) payload row = HoldsRow reader payload × (row ≡ row_held reader payload)
RowAt None payload row = ⊥

-- What was read of a row, or the fault of a payload that is none.
abbrev pub or_bad_row : Result Row RowError → Result Row ReplyFault
or_bad_row (Ok row) = Ok row
or_bad_row (Err error) = Err BadRow

-- What was read of a payload as a row under these columns: a row that lies in it, or its fault, unless memory ran out.
abbrev pub ReadsAt : RowFormat → List ColumnDefinition → Payload → Result (Unit {0}) ReplyFault →
    Option RowReader → Type 0
ReadsAt format columns payload (Ok _) reader =
    (row : Row) × RowAt reader payload row × (row_of format columns payload ≡ Ok row)
ReadsAt format columns payload (Err fault) reader = Refuses fault (or_bad_row (row_of format columns payload))

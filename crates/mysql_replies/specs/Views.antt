-- What the code holds, as values; and what its functions answer. Public clauses have `answer_view`,
-- `outcome_views`, `row_views` and `report_views` alone. MySQL: Client/Server Protocol, "COM_QUERY
-- Response", its packets as the code holds them.
use Rattle.std.specs.Prelude.{ℕ, List, map, Vec}
use Rattle.std.specs.declared.alloc.Global.{Global}
use Rattle.mysql_rows.specs.declared.row.Row.{Row}
use Rattle.mysql_rows.specs.Rows as rows
use Rattle.mysql_rows.specs.Views.{row_view, shared_columns}
use Rattle.mysql_columns.specs.Columns.{ColumnDefinition}
use Rattle.mysql_ok_packets.specs.Views.{ok_packet_view}
use Rattle.mysql_server_packets.specs.declared.progress_report.ProgressReport.{ProgressReport as ProgressReportOf}
use Rattle.mysql_server_packets.specs.Packets.{ProgressReport}
use Rattle.mysql_server_packets.specs.Views.{local_infile_view, prepare_ok_view, progress_report_view}
use Rattle.mysql_server_packets.specs.Views.{server_error_view}
use Rattle.mysql_columns.specs.Views.{column_view, listed_view}
use Rattle.mysql_columns.specs.Extended.{ListedDefinition}
use Rattle.mysql_columns.specs.declared.extended.ListedColumn.{ListedColumn}
use Rattle.mysql_columns.specs.declared.column.Column.{Column}
use Rattle.std.specs.Prelude.{option_map}
use Rattle.mysql_replies.specs.declared.results.ReplyResult.{ReplyResult}
use Rattle.mysql_replies.specs.declared.results.ReplyResult.TheVariants as results
use Rattle.mysql_replies.specs.declared.results.Reply.{Reply}
use Rattle.mysql_replies.specs.declared.results.ReplyEnd.{ReplyEnd}
use Rattle.mysql_replies.specs.declared.results.ReplyEnd.TheVariants as ends
use Rattle.mysql_replies.specs.declared.part.Part.{Part}
use Rattle.mysql_replies.specs.declared.part.Part.TheVariants as parts
use Rattle.mysql_replies.specs.Together as together
use Rattle.mysql_replies.specs.Together.{FieldsPart, NoPart, RawRowsPart, RowsPart, SetPart, StatementPart}
use Rattle.mysql_replies.specs.Reply as reply

abbrev pub column_views : List Column → List ColumnDefinition
column_views columns = map column_view columns

abbrev pub row_views : List Row → List rows.Row
row_views found = map row_view found

-- Rows as they came.
abbrev pub raw_rows : List (Vec ℕ Global) → List (List ℕ)
raw_rows found = map (λ row. row.items) found

abbrev pub field_views : List ListedColumn → List ListedDefinition
field_views fields = map listed_view fields

abbrev pub outcome_view : ReplyResult → together.Outcome
outcome_view (results.Ok ok) = together.OkResult (ok_packet_view ok)
outcome_view (results.Rows columns found terminator) =
    together.RowsResult (shared_columns columns) (row_views found.items)
    (option_map ok_packet_view terminator)
outcome_view (results.Prepared stmt params columns) =
    together.PreparedResult (prepare_ok_view stmt) (column_views params.items)
    (column_views columns.items)
outcome_view (results.Error error) = together.ErrorResult (server_error_view error)
outcome_view (results.File file) = together.FileResult (local_infile_view file)
outcome_view (results.RawRows found terminator) =
    together.RawRowsResult (raw_rows found.items) (option_map ok_packet_view terminator)
outcome_view (results.Fields fields terminator) =
    together.FieldsResult (field_views fields.items) (option_map ok_packet_view terminator)
outcome_view (results.Line bytes) = together.LineResult bytes.items

abbrev pub outcome_views : List ReplyResult → List together.Outcome
outcome_views results = map outcome_view results

abbrev pub report_views : List ProgressReportOf → List ProgressReport
report_views reports = map progress_report_view reports

abbrev pub part_view : Part → together.Part
part_view parts.Nothing = NoPart
part_view (parts.Set known) = SetPart known
part_view (parts.Rows open_rows) = RowsPart open_rows.columns open_rows.rows
part_view (parts.RawRows found) = RawRowsPart (raw_rows found.items)
part_view (parts.Statement stmt params columns) =
    StatementPart (prepare_ok_view stmt) (column_views params.items) (column_views columns.items)
part_view (parts.Fields fields) = FieldsPart (field_views fields.items)

abbrev pub end_view : ReplyEnd → reply.End
end_view ends.Whole = reply.Whole
end_view ends.Unfinished = reply.Unfinished
end_view (ends.Fault count fault) = reply.FaultAt count fault

-- A reply as its results, reports and end.
abbrev pub answer_view : Reply → reply.Answer
answer_view r = record {
  results = outcome_views r.results.items;
  progress =
      map progress_report_view r.progress.items;
  end = end_view r.end;
}

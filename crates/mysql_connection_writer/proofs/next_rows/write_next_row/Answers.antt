use Rattle.std.proofs.Common.{◌≡◌, ◌∙◌, List, Option, Some, ap, subst, sym}
use Rattle.mysql_columns.specs.Columns.{ColumnDefinition}
use Rattle.mysql_columns.specs.declared.column.Column.{Column}
use Rattle.mysql_reply_events.specs.declared.context.Context.{Context}
use Rattle.mysql_reply_event_writer.specs.NextRows as written
use Rattle.mysql_reply_event_writer.specs.NextRows.{under}
use Rattle.mysql_rows.specs.Views.{column_views, row_view}
use Rattle.mysql_connection_writer.proofs.NextRows.{next_row_written}
use Rattle.mysql_connection_writer.proofs.next_rows.write_next_row.Goals as goal

pub returns-in-Some-columns : goal.returns-in-Some-columns
returns-in-Some-columns c =
    let known : c.in-Some.reader.now.so_far.columns ≡ Some (column_views c.as_slice.result.now) =
    sym c.in-Some-columns.ensures
    ∙ ap (λ (columns : List Column). let all : Option (List ColumnDefinition) =
    Some (column_views columns) in all) (sym c.as_slice.ensures.value) in
    next_row_written c.args.state.now.standing c.in-Some.reader.now (row_view c.args.row.now)
    (column_views c.as_slice.result.now)
    c.args.out.now.items c.write_next_row.new.out.items c.write_next_row.result c.requires c.in-Some.ensures known
    (subst (λ (context : Context). written.WritesNextRow context
    (under (column_views c.as_slice.result.now) (row_view c.args.row.now))
    c.write_next_row.result c.args.out.now.items c.write_next_row.new.out.items) c.context.ensures
    c.write_next_row.ensures)

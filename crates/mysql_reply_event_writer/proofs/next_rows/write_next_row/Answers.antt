use Rattle.std.proofs.Common.{◌≡◌, ◌∙◌, length, rules}
use Rattle.mysql_columns.specs.Views.{column_view}
use Rattle.mysql_rows.specs.Views.{column_views, row_view}
use Rattle.mysql_reply_event_writer.proofs.NextRows.{map_length, next_row_by}
use Rattle.mysql_reply_event_writer.proofs.next_rows.write_next_row.Goals as goal

pub returns : goal.returns
returns c =
    let few : length c.args.columns.now ≡ length (row_view c.args.row.now).cells = search rules in
    let same : length (column_views c.args.columns.now) ≡ length (row_view c.args.row.now).cells =
    map_length column_view c.args.columns.now ∙ few in
    next_row_by (record {
      text_back = c.text_rows_read_back.ensures;
      text_begins = c.text_rows_begin.ensures;
      binary_back = c.binary_rows_read_back.ensures;
    }) c.args.context c.has_binary_rows.result (column_views c.args.columns.now) (row_view c.args.row.now)
    c.write_own_cells.result c.args.out.now.items c.write_own_cells.new.out.items
    c.has_binary_rows.ensures same c.cells_fit.ensures
    c.write_own_cells.ensures

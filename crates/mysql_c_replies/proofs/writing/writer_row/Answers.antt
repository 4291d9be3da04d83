use Rattle.std.proofs.Common.{inl}
use Rattle.mysql_rows.specs.Views.{row_view}
use Rattle.mysql_c_handles.specs.Sets.{unheld_code, values_held}
use Rattle.mysql_c_replies.proofs.RowsOfSets.{of_set}
use Rattle.mysql_c_replies.proofs.writing.writer_row.Goals as goal

pub returns-in-Ok-clause-row : goal.returns-in-Ok-clause-row
returns-in-Ok-clause-row c =
    of_set (values_held c.args.sets.now.object c.args.set) c.in-Ok.row
    (unheld_code c.args.sets.now.object) _ _ c.in-Ok.ensures.row
    (λ values cells. inl (row_view c.in-Ok.row, cells, c.write_given.ensures))

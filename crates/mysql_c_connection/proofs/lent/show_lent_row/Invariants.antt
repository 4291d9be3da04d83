use Rattle.mysql_row_refs.specs.RowRefs.{row_ref_view}
use Rattle.mysql_c_connection.proofs.Cells.{Below}
use Rattle.mysql_c_connection.proofs.lent.show_lent_row.Given as goal

abbrev pub invariant-loop-place : goal.invariant-loop-place
invariant-loop-place l = Below (row_ref_view l.row) l.fn.cells l.cells l.place

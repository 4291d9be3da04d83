use Rattle.mysql_rows.specs.Views.{row_view}
use Rattle.mysql_c_connection.proofs.Cells.{Below}
use Rattle.mysql_c_connection.proofs.lent.show_held_row.Given as goal

abbrev pub invariant-loop-place : goal.invariant-loop-place
invariant-loop-place l = Below (row_view l.row) l.fn.cells l.cells l.place

use Rattle.std.proofs.Common.{Some, None, sym}
use Rattle.mysql_executions.proofs.CellsInTurn.{found_clear, found_unclear}
use Rattle.mysql_executions.proofs.unclear.look_at_typed_cell.Goals as goal

pub returns-then-is_unclear_cell : goal.returns-then-is_unclear_cell
returns-then-is_unclear_cell c =
    λ before from e. found_unclear before c.args.place from c.args.bytes.now e c.args.kind
    (sym c.if-is_unclear_cell.ensures)

pub returns-in-Some : goal.returns-in-Some
returns-in-Some c = λ before from e. found_clear before c.args.place from c.args.bytes.now e
    c.args.kind (Some c.in-Some.after.now) (sym c.if-is_unclear_cell.ensures) c.in-Some.ensures

pub returns-in-None : goal.returns-in-None
returns-in-None c = λ before from e. found_clear before c.args.place from c.args.bytes.now e
    c.args.kind None (sym c.if-is_unclear_cell.ensures) c.in-None.ensures

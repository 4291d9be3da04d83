use Rattle.std.proofs.Common.{[]}
use Rattle.std.specs.Prelude.{unwrap_or}
use Rattle.std.specs.Option.{option_and_then}
use Rattle.mysql_rows.specs.Written.{text_cell}
use Rattle.mysql_rows.proofs.TextWriting.{all_held}
use Rattle.mysql_rows.proofs.text_writing.put_row.Goals as goal

pub returns-clause-ok : goal.returns-clause-ok
returns-clause-ok g c =
    all_held g.C.Held.held (λ cell. unwrap_or (option_and_then text_cell cell) []) c.args.cells.now
    c.args.out.now.items c.loop-cell.out.items c.loop-cell.cell-index c.loop-cell-test.false
    c.loop-cell.invariant

use Rattle.std.proofs.Common.{◌≡◌, ◌++◌, [], take}
use Rattle.std.specs.Prelude.{flat_map, unwrap_or}
use Rattle.std.specs.Option.{option_and_then}
use Rattle.mysql_rows.specs.Written.{text_cell}
use Rattle.mysql_rows.proofs.text_writing.put_row.Given as goal

abbrev pub invariant-loop-cell : goal.invariant-loop-cell
invariant-loop-cell g l = l.out.items ≡ l.initial.out.items ++
    flat_map (λ cell. unwrap_or (option_and_then text_cell (g.C.Held.held cell)) [])
    (take l.cell-index l.cells)

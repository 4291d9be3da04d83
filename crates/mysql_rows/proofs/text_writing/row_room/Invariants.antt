use Rattle.std.proofs.Common.{◌≡◌, drop, map}
use Rattle.std.specs.Prelude.{is_none}
use Rattle.std.specs.List.{position_from}
use Rattle.std.specs.Option.{option_and_then}
use Rattle.mysql_rows.specs.Written.{text_cause, text_cell}
use Rattle.mysql_rows.proofs.text_writing.row_room.Given as goal

abbrev pub invariant-loop-place : goal.invariant-loop-place
invariant-loop-place g l =
    position_from (λ cell. is_none (option_and_then text_cell cell)) l.place
    (map g.C.Held.held (drop l.place l.cells)) ≡ text_cause (map g.C.Held.held l.cells)

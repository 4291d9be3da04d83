use Rattle.std.proofs.Common.{ℕ, List, [], ◌++◌, Option, None, ◌≡◌, subst, ◌∙◌}
use Rattle.std.specs.Prelude.{IfOk}
use Rattle.mysql_executions.specs.Types.{unnamed}
use Rattle.mysql_executions.specs.Unclear.{cells_from}
use Rattle.mysql_executions.specs.Views.{cells_of, types_by, types_of}
use Rattle.mysql_executions.proofs.CellsInTurn.{none_behind, none_is_unclear}
use Rattle.mysql_executions.proofs.unclear.read_unclear_cells.Goals as goal

pub returns-in-Unclear : goal.returns-in-Unclear
returns-in-Unclear c =
    let cells = cells_from c.args.s.now.long_data c.args.nulls.now 0
    (types_by (types_of c.args.own.now) c.args.s.now.types ++ unnamed c.args.further.now) in
    subst (λ (found : Option (ℕ × List ℕ)). IfOk c.keep_cells.result (λ kept. cells_of kept ≡
    found)) (none_behind cells c.args.bytes.now _ (c.in-Unclear.ensures 0 []))
    c.keep_cells.ensures

pub returns-in-Clear : goal.returns-in-Clear
returns-in-Clear c =
    let cells = cells_from c.args.s.now.long_data c.args.nulls.now 0
    (types_by (types_of c.args.own.now) c.args.s.now.types ++ unnamed c.args.further.now) in
    none_behind cells c.args.bytes.now None (c.in-Clear.ensures 0 [] ∙ none_is_unclear _ _)

pub returns-in-Cut : goal.returns-in-Cut
returns-in-Cut c =
    let cells = cells_from c.args.s.now.long_data c.args.nulls.now 0
    (types_by (types_of c.args.own.now) c.args.s.now.types ++ unnamed c.args.further.now) in
    none_behind cells c.args.bytes.now None (c.in-Cut.ensures 0 [])

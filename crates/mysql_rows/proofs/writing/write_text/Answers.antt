use Rattle.std.proofs.Common.{List, ℕ, ◌++◌, map, ap, sym, ◌∙◌}
use Rattle.mysql_rows.specs.CellsWritten.{text_cells}
use Rattle.mysql_rows.proofs.WholeRows.{text_of_cells, where_done}
use Rattle.mysql_rows.proofs.writing.write_text.Goals as goal

pub returns : goal.returns
returns g c =
    let cells = map g.C.Held.held c.args.cells.now in (
      c.in-Ok.ensures,
      where_done c.put_row.result (sym c.is_err.ensures.value ∙ c.if-is_err.false) c.put_row.ensures.ok
          ∙ ap (λ (l : List ℕ). l ++ text_cells cells) c.in_ok-reserve.ensures.items ∙
          ap (λ (l : List ℕ). c.args.out.now.items ++ l) (text_of_cells cells),
    )

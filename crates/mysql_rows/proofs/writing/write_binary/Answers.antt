use Rattle.std.proofs.Common.{◌≡◌, List, ℕ, ◌++◌, length, map, ap, sym, ◌∙◌}
use Rattle.std.proofs.lemmas.List.{length-map}
use Rattle.mysql_columns.specs.Views.{column_view}
use Rattle.mysql_rows.specs.Views.{column_views}
use Rattle.mysql_rows.proofs.BinaryWriting.{where_ok}
use Rattle.mysql_rows.proofs.WholeRows.{row_of_values}
use Rattle.mysql_rows.proofs.writing.write_binary.Goals as goal

pub returns-then-is_ok : goal.returns-then-is_ok
returns-then-is_ok g c =
    let cells = map g.C.Held.held c.args.cells.now in
    let columns = column_views c.args.columns.now in
    let same : length columns ≡ length cells = length-map c.args.columns.now column_view ∙
    c.requires ∙ sym (length-map c.args.cells.now g.C.Held.held) in
    let ok = sym c.is_ok.ensures.value ∙ c.if-is_ok.true in
    let none = where_ok c.put_row.result ok c.put_row.ensures.form in (
      none,
      where_ok c.put_row.result ok c.put_row.ensures.ok ∙
          ap (λ (l : List ℕ). c.args.out.now.items ++ l) (row_of_values columns cells same none),
    )

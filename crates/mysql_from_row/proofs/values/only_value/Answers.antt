use Rattle.std.proofs.Common.{◌∙◌, ap, length, nat_lt, Some}
use Rattle.mysql_rows.specs.Rows.{with_cell}
use Rattle.mysql_rows.specs.Views.{row_view}
use Rattle.mysql_from_row.proofs.FirstCells.{nothing_taken, put_back}
use Rattle.mysql_from_row.proofs.values.only_value.Goals as goal

pub returns-in_default-clause-kept : goal.returns-in_default-clause-kept
returns-in_default-clause-kept g c =
    c.in_default.ensures.taken ∙
    nothing_taken (row_view c.args.row) (nat_lt 0 (length (row_view c.args.row).columns))
    c.in_default.ensures.value

pub returns-in-Err-clause-kept : goal.returns-in-Err-clause-kept
returns-in-Err-clause-kept g c =
    c.place.ensures ∙ ap (λ value. with_cell (row_view c.take_value.new.self) 0 (Some value)) c.in-Err.ensures.err.1
    ∙ ap (λ row. with_cell row 0 (Some c.in-Some.value)) c.in-Some.ensures.taken
    ∙ put_back (row_view c.args.row) (nat_lt 0 (length (row_view c.args.row).columns))
    c.in-Some.value c.in-Some.ensures.value

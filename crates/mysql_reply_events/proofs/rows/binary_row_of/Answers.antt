use Rattle.std.proofs.Common.{Ok, ap, sym, ◌∙◌}
use Rattle.std.proofs.lemmas.Result.{err_from_is_err_and}
use Rattle.mysql_rows.specs.Rows.{as_row}
use Rattle.mysql_rows.specs.Views.{row_view, shared_columns}
use Rattle.mysql_reply_events.proofs.BinaryRows.{zero_begins}
use Rattle.mysql_reply_events.proofs.rows.binary_row_of.Goals as goal

pub returns-in_err-row : goal.returns-in_err-row
returns-in_err-row c =
    let columns = shared_columns c.args.columns in
    let same = zero_begins columns c.args.buf.now.0.now _ c.in_ok-parse.ensures in
    let p = err_from_is_err_and c.from_residual-in_err-row.result c.from_residual-in_err-row.ensures.1 in
    rw (p.1, p.2) (λ other. ap (as_row columns) same ∙ c.in_err-row.ensures.0 other)

pub returns : goal.returns
returns c =
    let columns = shared_columns c.args.columns in
    let same = zero_begins columns c.args.buf.now.0.now _ c.in_ok-parse.ensures in
    ap (as_row columns) same ∙ c.in_ok-row.ensures ∙
    ap (λ row. Ok (row_view row, c.parse-2.new.self.0.now)) (sym c.into_inner.ensures)

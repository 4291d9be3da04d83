use Rattle.std.proofs.Common.{sym, ◌∙◌}
use Rattle.mysql_send.proofs.ListRows.{first_joins}
use Rattle.mysql_send.proofs.bulk.list_rows.joins_column.Goals as goal

pub returns : goal.returns
returns c = λ yes.
    first_joins c.args.firsts.now c.args.column c.index-firsts-column.result c.args.value c.requires
    c.index-firsts-column.is (sym c.is_null.ensures ∙ c.if-not-is_null.false)
    (sym c.is_float.ensures ∙ c.if-is_float.false)

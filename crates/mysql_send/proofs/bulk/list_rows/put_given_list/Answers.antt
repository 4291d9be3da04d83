use Rattle.std.proofs.Common.{take, arith}
use Rattle.mysql_send.proofs.Lists.{kept_behind}
use Rattle.mysql_send.specs.BulkSets.{row_bytes}
use Rattle.mysql_send.proofs.ListRows.{all_values_put, one_value}
use Rattle.mysql_send.proofs.bulk.list_rows.put_given_list.Goals as goal

pub values-preserved : goal.values-preserved
values-preserved c =
    one_value c.args.firsts.now c.values.firsts c.joins_column-joins.new.firsts c.args.row.now
    c.values.column c.index-row-column.result c.args.out.now.items c.values.out.items
    c.put_value.new.command.items c.values.invariant
    c.values-test.true c.index-row-column.is (c.joins_column-joins.ensures c.if-not-joins.false)
    c.fields_fit.ensures c.in_ok-put_value.ensures.ok

pub returns-in_err-put_value-clause-kept : goal.returns-in_err-put_value-clause-kept
returns-in_err-put_value-clause-kept c =
    kept_behind c.args.out.now.items (row_bytes (take c.values.column c.args.row.now))
    c.values.out.items c.put_value.new.command.items c.values.invariant.bytes
    c.put_value.ensures.kept

pub returns-clause-ok : goal.returns-clause-ok
returns-clause-ok c = λ yes.
    all_values_put c.args.firsts.now c.values.firsts c.args.row.now c.values.column
    c.args.out.now.items c.values.out.items c.values.invariant c.if-row-firsts.false
    c.values.auto.firsts (omega arith)

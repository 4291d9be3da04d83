use Rattle.mysql_bulk_builder.specs.RowLists.{row_in}
use Rattle.mysql_send.specs.BulkSets.{row_bytes}
use Rattle.mysql_send.proofs.RequestBytes.{over_rows, passed}
use Rattle.mysql_send.proofs.bulk.command.put_values.Goals as goal

pub returns : goal.returns
returns c =
    over_rows row_bytes c.args.rows.now c.args.command.now.items c.loop-row.command.items
    (passed (λ row. row_bytes (row_in row.now)) c.args.rows.now c.loop-row.row-index
    c.args.command.now.items c.loop-row.command.items c.loop-row-test.false
    c.loop-row.invariant)

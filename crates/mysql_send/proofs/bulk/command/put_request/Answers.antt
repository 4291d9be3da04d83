use Rattle.mysql_bulk_builder.specs.RowLists.{row_in, rows_in}
use Rattle.mysql_send.proofs.RequestBytes.{put_whole}
use Rattle.mysql_send.proofs.bulk.command.put_request.Goals as goal

pub returns : goal.returns
returns c =
    put_whole c.put_values.result c.args.id c.args.typed (row_in c.args.firsts.now)
    (rows_in c.args.rows.now) c.args.command.now.items c.put_front.new.command.items
    c.put_values.new.command.items
    c.in_ok-put_front.ensures c.put_values.ensures

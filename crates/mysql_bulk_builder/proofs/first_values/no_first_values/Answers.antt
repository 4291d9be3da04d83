use Rattle.mysql_bulk_builder.proofs.FirstValues.{one_more_null}
use Rattle.mysql_bulk_builder.proofs.first_values.no_first_values.Goals as goal

pub loop-column-preserved : goal.loop-column-preserved
loop-column-preserved c =
    one_more_null c.loop-column.firsts.items c.push.new.self.items c.args.null c.loop-column._column
    c.requires c.loop-column.invariant c.in_ok-push.ensures.items

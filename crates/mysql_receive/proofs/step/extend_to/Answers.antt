use Rattle.std.proofs.Common.{ap, ◌∙◌}
use Rattle.mysql_receive.specs.Views.{data_waiting}
use Rattle.mysql_receive.proofs.LongData.{pushed_none}
use Rattle.mysql_receive.proofs.step.extend_to.Goals as goal

pub loop-long_data-preserved : goal.loop-long_data-preserved
loop-long_data-preserved c = ap data_waiting c.in_ok-push.ensures.items ∙
    pushed_none c.loop-long_data.long_data.items ∙ c.loop-long_data.invariant

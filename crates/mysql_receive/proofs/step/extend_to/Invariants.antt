use Rattle.std.proofs.Common.{◌≡◌, ◌+◌, ◌-◌, vec_len}
use Rattle.mysql_receive.specs.Views.{data_waiting}
use Rattle.mysql_receive.proofs.step.extend_to.Given as goal

abbrev pub invariant-loop-long_data : goal.invariant-loop-long_data
invariant-loop-long_data l = data_waiting l.long_data.items ≡ data_waiting l.fn.long_data.items

abbrev pub decreases-loop-long_data : goal.decreases-loop-long_data
decreases-loop-long_data l = (l.place + 1) - vec_len l.long_data

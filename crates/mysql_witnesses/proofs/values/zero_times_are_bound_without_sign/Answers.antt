use Rattle.mysql_witnesses.proofs.AboutValues.{zero_times_are_bound_without_sign}
use Rattle.mysql_witnesses.proofs.values.zero_times_are_bound_without_sign.Goals as goal

pub returns : goal.returns
returns c = zero_times_are_bound_without_sign

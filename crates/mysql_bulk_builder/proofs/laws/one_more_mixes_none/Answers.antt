use Rattle.mysql_bulk_builder.proofs.OneRequest.{one_more_mixes_none}
use Rattle.mysql_bulk_builder.proofs.laws.one_more_mixes_none.Goals as goal

pub returns : goal.returns
returns c = one_more_mixes_none

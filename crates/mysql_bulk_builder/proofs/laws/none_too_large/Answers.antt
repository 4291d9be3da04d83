use Rattle.mysql_bulk_builder.proofs.OneKindLemmas.{none_too_large}
use Rattle.mysql_bulk_builder.proofs.laws.none_too_large.Goals as goal

pub returns : goal.returns
returns c = none_too_large

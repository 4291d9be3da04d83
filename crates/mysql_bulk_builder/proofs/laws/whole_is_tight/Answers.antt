use Rattle.mysql_bulk_builder.proofs.OneRequest.{none_too_large_within, whole_is_tight}
use Rattle.mysql_bulk_builder.proofs.laws.whole_is_tight.Goals as goal

pub returns : goal.returns
returns c = record { tight = whole_is_tight; none = none_too_large_within }

use Rattle.mysql_bulk_builder.proofs.TypedTight.{tight_typed_has_fewest}
use Rattle.mysql_bulk_builder.proofs.laws.tight_typed_has_fewest.Goals as goal

pub returns : goal.returns
returns c = tight_typed_has_fewest

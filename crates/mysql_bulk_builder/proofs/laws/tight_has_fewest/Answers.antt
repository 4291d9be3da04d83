use Rattle.mysql_bulk_builder.proofs.Tight.{tight_has_fewest}
use Rattle.mysql_bulk_builder.proofs.laws.tight_has_fewest.Goals as goal

pub returns : goal.returns
returns c = tight_has_fewest

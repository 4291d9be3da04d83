use Rattle.mysql_bulk_builder.proofs.Bytes.{tight_takes_fewest_bytes}
use Rattle.mysql_bulk_builder.proofs.laws.tight_takes_fewest_bytes.Goals as goal

pub returns : goal.returns
returns c = tight_takes_fewest_bytes

use Rattle.mysql_bulk_builder.proofs.TypedTight.{part_fits_later}
use Rattle.mysql_bulk_builder.proofs.laws.part_fits_later.Goals as goal

pub returns : goal.returns
returns c = part_fits_later

use Rattle.mysql_bulk_builder.proofs.InForceLemmas.{types_in_force_serve}
use Rattle.mysql_bulk_builder.proofs.laws.types_in_force_serve.Goals as goal

pub returns : goal.returns
returns c = types_in_force_serve

use Rattle.mysql_bulk_builder.proofs.Iterating.{gives_first}
use Rattle.mysql_bulk_builder.proofs.laws.iterators_give_the_tight_cut.Goals as goal

pub returns : goal.returns
returns c = gives_first

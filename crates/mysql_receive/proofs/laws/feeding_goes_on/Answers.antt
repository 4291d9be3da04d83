use Rattle.mysql_receive.proofs.Feeding.{goes_on}
use Rattle.mysql_receive.proofs.Receiving.{short_by}
use Rattle.mysql_receive.proofs.laws.feeding_goes_on.Goals as goal

pub returns : goal.returns
returns a c limit old new piece bytes none fed = (
  goes_on a.reader_laws.ensures c limit old new piece bytes none fed,
  λ memory. short_by c limit old piece new memory fed,
)

use Rattle.std.proofs.Common.{◌≡◌, take}
use Rattle.mysql_queries.specs.Literals.{digits_value}
use Rattle.mysql_queries.proofs.numbers.number_of.Given as goal

abbrev pub invariant-loop-b : goal.invariant-loop-b
invariant-loop-b l = l.n ≡ digits_value (take l.b-index l.digits)

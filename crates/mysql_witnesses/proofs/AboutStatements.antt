-- What is kept of prepared statements.
use Rattle.std.proofs.Common.{arith}
use Rattle.std.specs.List.Sorted.{IsStrictlySortedBy}
use Rattle.mysql_witnesses.specs.Statements.{LongDataIsNotPadded}

pub long_data_is_not_padded : LongDataIsNotPadded
unfolding IsStrictlySortedBy
long_data_is_not_padded = (
  record { in_order = (tt, tt); size = omega arith },
  λ counted. absurd (omega (arith, counted.size)),
)

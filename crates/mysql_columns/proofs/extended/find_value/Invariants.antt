use Rattle.std.proofs.Common.{◌≡◌, ◌-◌, length}
use Rattle.mysql_columns.specs.Extended.{first_of_kind}
use Rattle.mysql_columns.proofs.extended.find_value.Given as goal

-- among the values that are left there are so many at most
abbrev pub invariant-loop-passed : goal.invariant-loop-passed
invariant-loop-passed l =
    first_of_kind l.kind (length l.fn.metadata - l._passed) l.rest.0.now ≡
    first_of_kind l.kind (length l.fn.metadata) l.fn.metadata

use Rattle.std.proofs.Common.{◌≡◌, length, ◌-◌, ◌≤◌, true, slice_range}
use Rattle.std.specs.List.{AllByRecursion}
use Rattle.mysql_queries.specs.Literals.{is_digit}
use Rattle.mysql_queries.proofs.numbers.digits_end.Given as goal

abbrev pub invariant-loop-end : goal.invariant-loop-end
invariant-loop-end l = record {
  order : l.from ≤ l.end;
  in_range : l.end ≤ length l.text;
  each
      : AllByRecursion (λ b. is_digit b ≡ true) (slice_range l.text l.from l.end);
}

abbrev pub decreases-loop-end : goal.decreases-loop-end
decreases-loop-end l = length l.text - l.end

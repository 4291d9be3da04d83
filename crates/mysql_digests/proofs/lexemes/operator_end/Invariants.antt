use Rattle.std.proofs.Common.{◌≡◌, true, length, ◌-◌, ◌<◌, ◌≤◌, take}
use Rattle.std.specs.List.{AllByRecursion}
use Rattle.mysql_digests.specs.Digest.{is_operator_byte}
use Rattle.mysql_digests.proofs.lexemes.operator_end.Given as goal

abbrev pub invariant-loop-i : goal.invariant-loop-i
invariant-loop-i l = record {
  some : 0 < l.i;
  in_range : l.i ≤ length l.text;
  run : AllByRecursion
      (λ b. is_operator_byte b ≡ true) (take l.i l.text);
}

abbrev pub decreases-loop-i : goal.decreases-loop-i
decreases-loop-i l = length l.text - l.i

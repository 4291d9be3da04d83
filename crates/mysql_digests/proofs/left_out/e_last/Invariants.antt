use Rattle.std.proofs.Common.{◌≡◌, length, ◌-◌, ◌≤◌, drop}
use Rattle.mysql_digests.specs.Digest.{ends_in_e}
use Rattle.mysql_digests.proofs.left_out.e_last.Given as goal

abbrev pub invariant-loop-i : goal.invariant-loop-i
invariant-loop-i l = record { in_range : l.i ≤ length l.word; rest : ends_in_e l.word ≡ ends_in_e (drop l.i l.word) }

abbrev pub decreases-loop-i : goal.decreases-loop-i
decreases-loop-i l = length l.word - l.i

use Rattle.std.proofs.Common.{length, ◌-◌, ◌≤◌, ◌≢◌, take}
use Rattle.std.specs.List.{AllByRecursion}
use Rattle.mysql_queries.specs.Tokens.{line_feed}
use Rattle.mysql_queries.proofs.tokens.line_end.Given as goal

abbrev pub invariant-loop-i : goal.invariant-loop-i
invariant-loop-i l = record {
  in_range : l.i ≤ length l.text;
  run : AllByRecursion
      (λ b. b ≢ line_feed) (take l.i l.text);
}

abbrev pub decreases-loop-i : goal.decreases-loop-i
decreases-loop-i l = length l.text - l.i

use Rattle.std.proofs.Common.{◌≡◌, ℕ, ◌<◌, ◌≤◌, ◌-◌, length, get_or, true}
use Rattle.mysql_queries.specs.Scanning.{is_quiet}
use Rattle.mysql_queries.proofs.tokens.quiet_end.Given as goal

abbrev pub invariant-loop-at : goal.invariant-loop-at
invariant-loop-at l = record {
  from : l.start ≤ l.at;
  in_range : l.at ≤ length l.text;
  run
      : (k : ℕ) → l.start ≤ k → k < l.at → is_quiet (get_or l.text k 0) ≡ true;
}

abbrev pub decreases-loop-at : goal.decreases-loop-at
decreases-loop-at l = length l.text - l.at

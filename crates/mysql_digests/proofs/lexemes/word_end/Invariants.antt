use Rattle.std.proofs.Common.{◌≡◌, true, false, length, ◌-◌, ◌<◌, ◌≤◌, ℕ, take, drop, get_or}
use Rattle.std.specs.List.{AllByRecursion}
use Rattle.mysql_digests.specs.Digest.{is_word_byte}
use Rattle.mysql_queries.specs.Alone.{begins_dollar_quote}
use Rattle.mysql_digests.proofs.lexemes.word_end.Given as goal

abbrev pub invariant-loop-i : goal.invariant-loop-i
invariant-loop-i l = record {
  some : 0 < l.i;
  in_range : l.i ≤ length l.text;
  run : AllByRecursion (λ b. is_word_byte b ≡ true) (take l.i l.text);
  calm : (k : ℕ) → 0 < k → k < l.i → begins_dollar_quote (get_or l.text (k - 1) 0) (drop k l.text) ≡ false;
}

abbrev pub decreases-loop-i : goal.decreases-loop-i
decreases-loop-i l = length l.text - l.i

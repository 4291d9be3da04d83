use Rattle.std.proofs.Common.{◌≡◌, ◌≤◌, ◌-◌, drop, length}
use Rattle.mysql_session_modes.specs.Texts as texts
use Rattle.mysql_session_modes.proofs.words.has_word.Given as goal

abbrev pub invariant-loop-at : goal.invariant-loop-at
invariant-loop-at l =
    (l.at ≤ length l.fn.text)
    × (texts.has_word l.fn.word (drop l.at l.fn.text) ≡ texts.has_word l.fn.word l.fn.text)

abbrev pub decreases-loop-at : goal.decreases-loop-at
decreases-loop-at l = length l.fn.text - l.at

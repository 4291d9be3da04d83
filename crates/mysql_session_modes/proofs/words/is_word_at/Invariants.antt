use Rattle.std.proofs.Common.{◌≡◌, length}
use Rattle.mysql_session_modes.specs.Texts as texts
use Rattle.mysql_session_modes.proofs.words.is_word_at.Given as goal

abbrev pub invariant-loop-letter : goal.invariant-loop-letter
invariant-loop-letter l = texts.is_word_at l.letters l.rest ≡ texts.is_word_at l.fn.word l.fn.text

abbrev pub decreases-loop-letter : goal.decreases-loop-letter
decreases-loop-letter l = length l.letters

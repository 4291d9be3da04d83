use Rattle.std.proofs.Common.{◌∙◌, ap, sym, false, true, ◌∷◌}
use Rattle.mysql_session_modes.specs.Texts.{is_word_at}
use Rattle.mysql_session_modes.proofs.TextSteps.{no_text, no_word, other_letter, same_letter}
use Rattle.mysql_session_modes.proofs.words.is_word_at.Goals as goal

pub returns-in_default-split_first : goal.returns-in_default-split_first
returns-in_default-split_first c =
    sym (no_text c.in-Some.letter.now c.in-Some.further.now c.loop-letter.rest.now
    c.in_default-split_first.ensures.cases)
    ∙ ap (λ l. is_word_at l c.loop-letter.rest.now) (sym c.in-Some.ensures.cases.0) ∙ c.loop-letter.invariant

pub returns-then-to_ascii_lowercase-letter : goal.returns-then-to_ascii_lowercase-letter
returns-then-to_ascii_lowercase-letter c =
    sym (other_letter c.in-Some.letter.now c.in-Some-split_first.byte.now
    c.to_ascii_lowercase.result c.in-Some.further.now c.in-Some-split_first.behind.now
    c.to_ascii_lowercase.ensures.value c.if-to_ascii_lowercase-letter.true)
    ∙ ap (λ t. is_word_at (c.in-Some.letter.now ∷ c.in-Some.further.now) t) (sym c.in-Some-split_first.ensures.cases.0)
    ∙ ap (λ l. is_word_at l c.loop-letter.rest.now) (sym c.in-Some.ensures.cases.0) ∙ c.loop-letter.invariant

pub loop-letter-preserved : goal.loop-letter-preserved
loop-letter-preserved c =
    sym (same_letter c.in-Some.letter.now c.in-Some-split_first.byte.now c.to_ascii_lowercase.result
    c.in-Some.further.now c.in-Some-split_first.behind.now c.to_ascii_lowercase.ensures.value
    c.if-to_ascii_lowercase-letter.false)
    ∙ ap (λ t. is_word_at (c.in-Some.letter.now ∷ c.in-Some.further.now) t) (sym c.in-Some-split_first.ensures.cases.0)
    ∙ ap (λ l. is_word_at l c.loop-letter.rest.now) (sym c.in-Some.ensures.cases.0) ∙ c.loop-letter.invariant

pub returns : goal.returns
returns c = sym (no_word c.loop-letter.letters.now c.loop-letter.rest.now
    c.in_default.ensures.cases) ∙ c.loop-letter.invariant

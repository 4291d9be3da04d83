use Rattle.std.proofs.Common.{◌∙◌, ◌+◌, ◌-◌, ◌%◌, drop, length, slice_index, sym, refl, arith, length-drop}
use Rattle.mysql_session_modes.proofs.Skipping.{at_rest, found, goes_on, one_on, too_short, within_at}
use Rattle.mysql_session_modes.proofs.words.has_word.Goals as goal

pub loop-at-preserved-then-step-gt0 : goal.loop-at-preserved-then-step-gt0
loop-at-preserved-then-step-gt0 c =
    let some = c.requires.some in
    let before = c.loop-at-test.true in
    let bound = within_at c.args.steps.now c.args.word.now
    (slice_index c.args.text.now (c.loop-at.at + (length c.args.word.now - 1)) % 32)
    c.requires.within in (
      omega arith,
      goes_on c.args.word.now c.args.steps.now c.args.text.now (length c.args.word.now - 1)
          (omega arith) c.requires.within c.requires.short c.loop-at.at
          (slice_index c.args.steps.now
          (slice_index c.args.text.now (c.loop-at.at + (length c.args.word.now - 1)) % 32)) refl
          ∙ c.loop-at.invariant.1,
    )

pub returns-then-is_word_at : goal.returns-then-is_word_at
returns-then-is_word_at c =
    sym (found c.args.word.now (drop c.loop-at.at c.args.text.now) c.requires.some
    (at_rest c.args.word.now c.args.text.now c.loop-at.at ∙ sym c.is_word_at.ensures ∙ c.if-is_word_at.true))
    ∙ c.loop-at.invariant.1

pub loop-at-preserved : goal.loop-at-preserved
loop-at-preserved c =
    let some = c.requires.some in
    let before = c.loop-at-test.true in (
      omega arith,
      one_on c.args.word.now c.args.text.now c.loop-at.at
          (at_rest c.args.word.now c.args.text.now c.loop-at.at ∙ sym c.is_word_at.ensures ∙ c.if-is_word_at.false)
          ∙ c.loop-at.invariant.1,
    )

pub returns : goal.returns
returns c =
    let some = c.requires.some in
    let within = c.loop-at.invariant.0 in
    let behind = c.loop-at-test.false in
    let left = length-drop c.loop-at.at c.args.text.now in
    sym (too_short c.args.word.now (drop c.loop-at.at c.args.text.now) (omega arith)) ∙ c.loop-at.invariant.1

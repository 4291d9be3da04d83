use Rattle.std.proofs.Common.{◌≡◌, ℕ, ◌+◌, ◌-◌, ◌<◌, true, false, length, take, drop, get_or, inl, inr, ◌⊎◌, sym, ap}
use Rattle.std.proofs.Common.{◌∙◌, arith, subst}
use Rattle.std.specs.List.{AllByRecursion}
use Rattle.std.proofs.lemmas.Bool.Decides.{nat_tests}
use Rattle.std.proofs.lemmas.List.{take_more, take_rest}
use Rattle.mysql_queries.specs.Alone.{begins_dollar_quote}
use Rattle.mysql_queries.proofs.Cuts.{all_more}
use Rattle.mysql_digests.specs.Digest.{is_word_byte}
use Rattle.mysql_digests.proofs.Lexing.{before_or_here}
use Rattle.mysql_digests.proofs.lexemes.word_end.Goals as goal

pub loop-i-preserved : goal.loop-i-preserved
loop-i-preserved c =
    let text = c.args.text.now in
    let i = c.loop-i.i in
    let here : begins_dollar_quote (get_or text (i - 1) 0) (drop i text) ≡ false =
    sym (ap (begins_dollar_quote (get_or text (i - 1) 0)) (take_rest text i)) ∙
    sym c.dollar_first.ensures ∙ c.if-dollar_first.false in
    record {
      some = omega arith;
      in_range = omega (arith, c.loop-i-test.true);
      run = subst (AllByRecursion (λ b. is_word_byte b ≡ true)) (sym (take_more text i 0 c.loop-i-test.true))
          (all_more (λ b. is_word_byte b ≡ true) (take i text) (get_or text i 0)
          c.loop-i.invariant.run (sym c.if-word_byte.ensures));
      calm = λ k some below. elim (before_or_here k i below) [
        | inl e ↦ c.loop-i.invariant.calm k some e
        | inr e ↦ subst (λ n. begins_dollar_quote (get_or text (n - 1) 0) (drop n text) ≡ false) (sym e) here
      ];
    }

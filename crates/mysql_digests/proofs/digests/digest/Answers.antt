use Rattle.std.proofs.Common.{◌≡◌, true, false, ◌-◌, length, length-drop, take, drop, get_or, sym, ap, ◌∙◌, arith}
use Rattle.std.proofs.lemmas.Grind.{common_steps}
use Rattle.std.proofs.lemmas.List.{take_rest}
use Rattle.mysql_digests.specs.Lexemes.{begins_disputed}
use Rattle.mysql_queries.proofs.Readings.{some_tokens}
use Rattle.mysql_digests.proofs.Reading.{come_all, come_on, come_to}
use Rattle.mysql_digests.proofs.digests.digest.Goals as goal
use Rattle.mysql_digests.proofs.digests.digest.Goals.{then-not-leaves_out+in_ok-add, else-not-leaves_out}

pub loop-at-preserved : goal.loop-at-preserved
loop-at-preserved c =
    let n = c.lexeme_at-found.result.1 in
    let rest = take (length c.args.text.now - c.loop-at.at) (drop c.loop-at.at c.args.text.now) in
    let agreed : begins_disputed c.loop-at.last rest ≡ false = sym c.disputed.ensures ∙ c.if-disputed.false in
    let begins = c.lexeme_at-found.ensures.lexeme c.loop-at.last agreed in
    record {
      in_range = omega (
        arith,
        c.lexeme_at-found.ensures.in_range,
        c.loop-at-test.true,
        length-drop c.loop-at.at c.args.text.now,
        ap length (take_rest c.args.text.now c.loop-at.at),
      );
      come = elim c.if-not-leaves_out.branch [
        | then-not-leaves_out+in_ok-add w ↦ come_on c.args.mode c.args.text.now c.loop-at.at n
            c.loop-at.last (get_or rest (n - 1) 0) c.loop-at.before c.next-before.result false
            c.lexeme_at-found.result.0 c.loop-at.pieces w.add.new.self c.if-not-leaves_out.pieces
            rest _ _
            c.loop-at.invariant.come begins (λ j tokens h. w.if-not-leaves_out.ensures j tokens h)
            (λ j tokens h. c.next-before.ensures j tokens h) w.in_ok-add.ensures w.pieces-is
            (take_rest c.args.text.now c.loop-at.at) (grind (arith, common_steps))
            (take_rest rest n)
        | else-not-leaves_out w ↦ come_on c.args.mode c.args.text.now c.loop-at.at n c.loop-at.last
            (get_or rest (n - 1) 0) c.loop-at.before c.next-before.result true
            c.lexeme_at-found.result.0 c.loop-at.pieces c.loop-at.pieces c.if-not-leaves_out.pieces
            rest _ _
            c.loop-at.invariant.come begins (λ j tokens h. w.if-not-leaves_out.ensures j tokens h)
            (λ j tokens h. c.next-before.ensures j tokens h) (λ pieces h. h) w.pieces-is
            (take_rest c.args.text.now c.loop-at.at) (grind (arith, common_steps))
            (take_rest rest n)
      ];
    }

pub returns : goal.returns
returns c = come_all c.args.mode c.args.text.now c.loop-at.at c.loop-at.last c.loop-at.before
    c.loop-at.pieces c.into_text-2.result.items c.loop-at-test.false c.loop-at.invariant.come
    c.into_text-2.ensures

pub returns-then-disputed : goal.returns-then-disputed
returns-then-disputed c =
    let text = c.args.text.now in
    let disputed : begins_disputed c.loop-at.last (drop c.loop-at.at text) ≡ true =
    ap (begins_disputed c.loop-at.last) (sym (take_rest text c.loop-at.at)) ∙
    sym c.disputed.ensures ∙ c.if-disputed.true in
    come_to some_tokens c.args.mode text c.loop-at.at c.loop-at.last c.loop-at.before
    c.loop-at.pieces c.add_rest.new.self c.into_text.result.items c.loop-at-test.true
    c.loop-at.invariant.come disputed c.in_ok-add_rest.ensures c.into_text.ensures

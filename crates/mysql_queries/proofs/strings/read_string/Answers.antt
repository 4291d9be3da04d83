use Rattle.std.proofs.Common.{◌≡◌, ◌+◌, ◌-◌, ◌++◌, ◌≤◌, [], length, take, drop, arith, subst, sym, ap, ◌∙◌}
use Rattle.mysql_queries.specs.Literals.{inside_content}
use Rattle.mysql_queries.specs.Scanning.{part_view}
use Rattle.mysql_queries.specs.Tokens.{inside_bytes, single_quote}
use Rattle.mysql_queries.proofs.StringParts.{StringTo, string_cut, string_first, string_more, string_on, string_open}
use Rattle.mysql_queries.proofs.strings.read_string.Goals as goal

pub loop-i-init : goal.loop-i-init
loop-i-init c =
    let text = c.args.text.now in
    let run = string_on c.args.escapes text 1 [] c.push_run.new.out.items c.in_ok-i.field-0
    (string_first c.args.escapes text c.requires.some c.requires.begins) c.requires.some
    c.in_ok-i.ensures.in_range c.in_ok-i.ensures.run
    (c.in_ok-i.ensures.ok ∙ ap (λ y. y ++
    take c.in_ok-i.field-0 (take (length text - 1) (drop 1 text))) c.clear.ensures.items) in
    record {
      in_range = run.0;
      room = omega (arith, c.in_ok-i.ensures.len, c.clear.ensures.len);
      capacity = omega (arith, c.clear.ensures.capacity, c.in_ok-i.ensures.capacity);
      front = run.1;
    }

pub loop-i-preserved : goal.loop-i-preserved
loop-i-preserved c =
    let text = c.args.text.now in
    let i = c.loop-i.i in
    let part = part_view c.in-Some.part in
    let n : length (inside_bytes single_quote part) ≡ c.part_len.result = sym c.part_len.ensures in
    let pushed : StringTo c.args.escapes text (i + c.part_len.result) c.push_content.new.out.items =
    subst (λ y. StringTo c.args.escapes text (i + c.part_len.result) y) (sym c.in_ok-push_content-in-Some.ensures.ok)
    (subst (λ k. StringTo c.args.escapes text (i + k) (c.loop-i.buf.items ++ inside_content part)) n
    (string_more c.args.escapes text i c.loop-i.buf.items part c.loop-i.invariant.front
    c.in-Some.ensures.part)) in
    let there : i + c.part_len.result ≤ length text = subst (λ k. i + k ≤ length text) n c.in-Some.ensures.part.2 in
    let run = string_on c.args.escapes text (i + c.part_len.result) c.push_content.new.out.items
    c.push_run-in-Some.new.out.items c.in_ok-i-in-Some.field-0 pushed there
    c.in_ok-i-in-Some.ensures.in_range c.in_ok-i-in-Some.ensures.run
    c.in_ok-i-in-Some.ensures.ok in
    record {
      in_range = run.0;
      room = omega (
        arith,
        c.loop-i.invariant.room,
        c.in_ok-push_content-in-Some.ensures.len,
        c.part_len.ensures,
        c.in_ok-i-in-Some.ensures.len,
      );
      capacity = omega (
        arith,
        c.loop-i.invariant.capacity,
        c.in_ok-push_content-in-Some.ensures.capacity,
        c.in_ok-i-in-Some.ensures.capacity,
      );
      front = run.1;
    }

pub returns-in-None-clause-none : goal.returns-in-None-clause-none
returns-in-None-clause-none c =
    string_cut c.args.escapes c.args.text.now c.loop-i.i c.loop-i.buf.items c.loop-i.invariant.front
    c.loop-i-test.true c.if-text-i-eq39.false c.in-None.ensures.closed

pub returns-clause-none : goal.returns-clause-none
returns-clause-none c = string_open c.args.escapes c.args.text.now c.loop-i.i c.loop-i.buf.items
    c.loop-i.invariant.front c.loop-i-test.false

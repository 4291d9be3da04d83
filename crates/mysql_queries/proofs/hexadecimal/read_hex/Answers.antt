use Rattle.std.proofs.Common.{◌≡◌, ◌+◌, ◌*◌, ◌<◌, true, false, length, slice_range, get_or, arith, subst, sym, ◌∙◌}
use Rattle.mysql_queries.specs.Literals.{is_hex, hex_value, SpellsInHex}
use Rattle.mysql_queries.proofs.HexDigits.{spells_more, ends_at, hex_run, hex_read, hex_odd}
use Rattle.mysql_queries.proofs.hexadecimal.read_hex.Goals as goal
use Rattle.mysql_queries.proofs.hexadecimal.read_hex.Goals.{then-loop-i-test+then-hex+else-hex-2}
use Rattle.mysql_queries.proofs.hexadecimal.read_hex.Goals.{then-loop-i-test+else-hex, else-loop-i-test}
use Rattle.mysql_queries.proofs.hexadecimal.read_hex.Goals.{else-i-text-via-then-i-text+else-hex-3}
use Rattle.mysql_queries.proofs.hexadecimal.read_hex.Goals.{else-i-text-via-else-i-text}

pub loop-i-preserved : goal.loop-i-preserved
loop-i-preserved c = record {
  from = omega (arith, c.loop-i.invariant.from);
  in_range = omega (arith, c.loop-i-test.true);
  room = omega (arith, c.loop-i.invariant.room, c.in_ok-push.ensures.len);
  capacity = omega (arith, c.loop-i.invariant.capacity, c.in_ok-push.ensures.capacity);
  spells = subst (SpellsInHex (slice_range c.args.text.now 2 (c.loop-i.i + 2))) (sym c.in_ok-push.ensures.items)
      (spells_more c.args.text.now c.loop-i.buf.items c.loop-i.i
      (c.value_of.result * 16 + c.value_of-in-loop-i.result) c.loop-i.invariant.from
      c.loop-i-test.true c.loop-i.invariant.spells (sym c.if-hex.ensures)
      (sym c.if-hex-2.ensures)
      (let m : c.value_of.result ≡ hex_value (get_or c.args.text.now c.loop-i.i 0) = c.value_of.ensures.value in
      let n : c.value_of-in-loop-i.result ≡ hex_value (get_or c.args.text.now (c.loop-i.i + 1) 0) =
      c.value_of-in-loop-i.ensures.value in
      omega (arith, m, n)));
}

pub returns-then-hex-3-clause-none : goal.returns-then-hex-3-clause-none
returns-then-hex-3-clause-none c =
    let next : c.loop-i.i + 1 < length c.args.text.now →
    is_hex (get_or c.args.text.now (c.loop-i.i + 1) 0) ≡ false =
    λ l. elim c.loop-i-test.branch [
      | then-loop-i-test+then-hex+else-hex-2 w ↦ sym w.if-hex-2.ensures
      | then-loop-i-test+else-hex w ↦ absurd (let f : true ≡ false = c.if-hex-3.ensures ∙ sym w.if-hex.ensures in cc)
      | else-loop-i-test w ↦ absurd (omega (arith, w.loop-i-test.false, l))
    ] in
    hex_odd c.args.text.now c.loop-i.buf.items c.loop-i.i c.requires c.loop-i.invariant.from
    c.if-i-text.true (sym c.if-hex-3.ensures) (ends_at c.args.text.now (c.loop-i.i + 1) next)
    c.loop-i.invariant.spells

pub returns-else-i-eq2-clause-run : goal.returns-else-i-eq2-clause-run
returns-else-i-eq2-clause-run c =
    let here : c.loop-i.i < length c.args.text.now → is_hex (get_or c.args.text.now c.loop-i.i 0) ≡
    false = λ l. elim c.else-i-text.branch [
      | else-i-text-via-then-i-text+else-hex-3 w ↦ sym w.if-hex-3.ensures
      | else-i-text-via-else-i-text w ↦ absurd (omega (arith, w.if-i-text.false, l))
    ] in
    hex_run c.args.text.now c.loop-i.buf.items c.loop-i.i c.requires c.loop-i.invariant.from
    c.loop-i.invariant.spells (ends_at c.args.text.now c.loop-i.i here)

pub returns-else-i-eq2-clause-content : goal.returns-else-i-eq2-clause-content
returns-else-i-eq2-clause-content c =
    hex_read c.args.text.now c.loop-i.buf.items c.loop-i.i c.requires c.loop-i.invariant.from
    c.loop-i.invariant.in_range c.if-i-eq2.false c.loop-i.invariant.spells

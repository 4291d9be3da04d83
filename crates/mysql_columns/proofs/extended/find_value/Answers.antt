use Rattle.std.proofs.Common.{◌≡◌, ◌+◌, ◌-◌, length, ap, sym, ◌∙◌, arith}
use Rattle.mysql_columns.specs.Extended.{first_of_kind}
use Rattle.mysql_columns.proofs.Values.{its_value, no_more, no_value, other_value}
use Rattle.mysql_columns.proofs.extended.find_value.Goals as goal

pub returns-in_default : goal.returns-in_default
returns-in_default c =
    sym (no_value c.args.kind (length c.args.metadata.now - c.loop-passed._passed)
    c.loop-passed.rest.0.now c.in_default.field-0 c.in_default.ensures)
    ∙ c.loop-passed.invariant

pub returns-then-own-kind : goal.returns-then-own-kind
returns-then-own-kind c =
    sym (its_value c.args.kind (length c.args.metadata.now - c.loop-passed._passed) c.in-Ok.own
    c.in-Ok.text.now c.loop-passed.rest.0.now c.next_value.new.buf.0.now (omega arith)
    c.if-own-kind.true c.in-Ok.ensures)
    ∙ c.loop-passed.invariant

pub loop-passed-preserved : goal.loop-passed-preserved
loop-passed-preserved c =
    let left : length c.args.metadata.now - (c.loop-passed._passed + 1) ≡
    length c.args.metadata.now - c.loop-passed._passed - 1 = omega arith in
    ap (λ k. first_of_kind c.args.kind k c.next_value.new.buf.0.now) left
    ∙ sym (other_value c.args.kind (length c.args.metadata.now - c.loop-passed._passed) c.in-Ok.own
    c.in-Ok.text.now c.loop-passed.rest.0.now c.next_value.new.buf.0.now (omega arith)
    c.if-own-kind.false c.in-Ok.ensures)
    ∙ c.loop-passed.invariant

pub returns : goal.returns
returns c =
    sym (no_more c.args.kind (length c.args.metadata.now - c.loop-passed._passed)
    c.loop-passed.rest.0.now (omega arith))
    ∙ c.loop-passed.invariant

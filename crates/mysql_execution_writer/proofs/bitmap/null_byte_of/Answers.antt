use Rattle.std.proofs.Common.{◌+◌, ◌-◌, ap, ◌∙◌, drop, Bool, arith}
use Rattle.std.specs.Prelude.{if◌then◌else◌}
use Rattle.mysql_execution_writer.proofs.Bits.{none_left, one_bit, one_more, small}
use Rattle.mysql_execution_writer.proofs.bitmap.null_byte_of.Goals as goal

pub loop-done-init : goal.loop-done-init
loop-done-init c = none_left c.args.first c.min-count.result c.args.values.now
    (omega (arith, c.min-count.ensures, c.saturating_sub.ensures))

pub overflow_mul-byte : goal.overflow_mul-byte
overflow_mul-byte c = omega (
  arith,
  small c.loop-done.byte c.loop-done.done
      (drop (c.args.first + (8 - c.loop-done.done)) c.args.values.now) (omega arith)
      c.loop-done.invariant,
)

pub overflow_add-byte : goal.overflow_add-byte
overflow_add-byte c = omega (
  arith,
  small c.loop-done.byte c.loop-done.done
      (drop (c.args.first + (8 - c.loop-done.done)) c.args.values.now) (omega arith)
      c.loop-done.invariant,
  c.bit.ensures,
  one_bit c.is_null_in.result,
)

pub loop-done-preserved : goal.loop-done-preserved
loop-done-preserved c =
    one_more c.loop-done.byte c.bit.result c.args.first c.loop-done.done c.args.values.now
    (omega arith) c.loop-done.invariant
    (c.bit.ensures ∙ ap (λ (b : Bool). if b then 1 else 0) c.is_null_in.ensures)

pub overflow_cast-result : goal.overflow_cast-result
overflow_cast-result c = omega (
  arith,
  small c.loop-done.byte c.loop-done.done
      (drop (c.args.first + (8 - c.loop-done.done)) c.args.values.now) (omega arith)
      c.loop-done.invariant,
)

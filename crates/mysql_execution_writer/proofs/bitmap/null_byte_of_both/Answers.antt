use Rattle.std.proofs.Common.{◌+◌, ◌-◌, ◌++◌, ap, ◌∙◌, drop, Bool, arith}
use Rattle.std.specs.Prelude.{if◌then◌else◌}
use Rattle.mysql_execution_writer.specs.Written.{values_of}
use Rattle.mysql_execution_writer.proofs.Bits.{none_yet, one_bit, one_more, small}
use Rattle.mysql_execution_writer.proofs.bitmap.null_byte_of_both.Goals as goal

pub loop-done-init : goal.loop-done-init
loop-done-init c = none_yet (drop (c.args.first + 8) (c.args.parameters.now ++ values_of c.args.attributes.now))

pub overflow_mul-byte : goal.overflow_mul-byte
overflow_mul-byte c = omega (
  arith,
  small c.loop-done.byte c.loop-done.done
      (drop (c.args.first + (8 - c.loop-done.done)) (c.args.parameters.now ++
      values_of c.args.attributes.now)) (omega arith) c.loop-done.invariant,
)

pub overflow_add-byte : goal.overflow_add-byte
overflow_add-byte c = omega (
  arith,
  small c.loop-done.byte c.loop-done.done
      (drop (c.args.first + (8 - c.loop-done.done)) (c.args.parameters.now ++
      values_of c.args.attributes.now)) (omega arith) c.loop-done.invariant,
  c.bit.ensures,
  one_bit c.is_null_at.result,
)

pub loop-done-preserved : goal.loop-done-preserved
loop-done-preserved c =
    one_more c.loop-done.byte c.bit.result c.args.first c.loop-done.done (c.args.parameters.now ++
    values_of c.args.attributes.now) (omega arith) c.loop-done.invariant
    (c.bit.ensures ∙ ap (λ (b : Bool). if b then 1 else 0) c.is_null_at.ensures)

pub overflow_cast-result : goal.overflow_cast-result
overflow_cast-result c = omega (
  arith,
  small c.loop-done.byte c.loop-done.done
      (drop (c.args.first + (8 - c.loop-done.done)) (c.args.parameters.now ++
      values_of c.args.attributes.now)) (omega arith) c.loop-done.invariant,
)

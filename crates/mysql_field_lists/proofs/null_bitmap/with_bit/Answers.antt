-- The other bits of the byte stay.
use Rattle.mysql_field_lists.proofs.null_bitmap.with_bit.Goals as goal
use Rattle.mysql_field_lists.proofs.Bits.{set_bit, clear_bit}

pub returns-then-value : goal.returns-then-value
returns-then-value c = λ other small. search (set_bit c.args.byte c.args.bit other c.requires, c.if-value.true)

pub returns-else-value : goal.returns-else-value
returns-else-value c = λ other small. search (clear_bit c.args.byte c.args.bit other c.requires small, c.if-value.false)

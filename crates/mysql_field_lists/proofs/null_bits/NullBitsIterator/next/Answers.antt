-- The mask and the byte are those of the next bit.
use Rattle.std.proofs.Common.{◌<◌, arith}
use Rattle.mysql_field_lists.proofs.null_bits.NullBitsIterator.next.Goals as goal
use Rattle.mysql_field_lists.proofs.Bits.{next_bit, mask_returns, mask_moves, byte_stays}

pub invariant_of-self : goal.invariant_of-self
invariant_of-self c =
    let s = c.args.self.now in
    record {
      in_order = omega (arith, s.in_order, c.if-self.false);
      inside = s.inside;
      byte_is = λ more. c.byte_of-self.ensures (omega (arith, more, s.inside));
      mask_is = mask_returns s.mask s.next s.mask_is c.if-self-2.true;
    }

pub invariant_of-self-else-self-2 : goal.invariant_of-self-else-self-2
invariant_of-self-else-self-2 c =
    let s = c.args.self.now in
    record {
      in_order = omega (arith, s.in_order, c.if-self.false);
      inside = s.inside;
      byte_is = λ more. rw (byte_stays s.mask s.next s.mask_is c.if-self-2.false) (s.byte_is (omega (arith, more)));
      mask_is = mask_moves s.mask s.next s.mask_is c.if-self-2.false;
    }

pub returns-then-self-2-clause-steps : goal.returns-then-self-2-clause-steps
returns-then-self-2-clause-steps c =
    let s = c.args.self.now in
    let some : s.next < s.end = omega (arith, s.in_order, c.if-self.false) in
    next_bit s.bytes.now s.next s.end s.byte s.mask some (s.byte_is some) s.mask_is

pub returns-else-self-2-clause-steps : goal.returns-else-self-2-clause-steps
returns-else-self-2-clause-steps c =
    let s = c.args.self.now in
    let some : s.next < s.end = omega (arith, s.in_order, c.if-self.false) in
    next_bit s.bytes.now s.next s.end s.byte s.mask some (s.byte_is some) s.mask_is

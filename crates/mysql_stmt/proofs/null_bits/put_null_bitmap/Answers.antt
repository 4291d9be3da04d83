use Rattle.std.proofs.Common.{arith, ◌∙◌}
use Rattle.mysql_stmt.proofs.Bitmaps.{all_bytes, one_more_byte}
use Rattle.mysql_stmt.proofs.null_bits.put_null_bitmap.Goals as goal

pub loop-k-preserved : goal.loop-k-preserved
loop-k-preserved g c =
    one_more_byte g.V.HasValue.value c.args.values.now c.args.out.now.items
    c.make_room.new.out.items c.push_reserved.new.self.items c.loop-k.k c.null_byte.result
    (c.make_room.ensures.items ∙ c.loop-k.invariant) c.null_byte.ensures
    c.push_reserved.ensures.items

pub returns-clause-ok : goal.returns-clause-ok
returns-clause-ok g c = all_bytes g.V.HasValue.value c.args.values.now c.args.out.now.items
    c.loop-k.out.items c.loop-k.k c.loop-k.invariant (omega arith)

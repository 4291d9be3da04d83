use Rattle.std.proofs.Common.{◌++◌, ◌*◌, ◌+◌, drop, length, arith}
use Rattle.mysql_stmt.specs.Executions.{null_bits}
use Rattle.mysql_execution_writer.specs.Written.{values_of}
use Rattle.mysql_execution_writer.proofs.Bits.{all_length, bitmap_whole, bytes_more}
use Rattle.mysql_execution_writer.proofs.bitmap.put_bitmap.Goals as goal

pub loop-k-preserved : goal.loop-k-preserved
loop-k-preserved c =
    bytes_more (λ k. null_bits 8
    (drop (8 * k) (c.args.parameters.now ++ values_of c.args.attributes.now)))
    c.args.out.now.items c.loop-k.out.items c.push.new.self.items c.loop-k.k c.null_byte.result
    c.loop-k.invariant c.null_byte.ensures c.in_default.ensures.items

pub returns : goal.returns
returns c =
    bitmap_whole (c.args.parameters.now ++ values_of c.args.attributes.now) c.args.out.now.items
    c.loop-k.out.items c.loop-k.k (length c.args.parameters.now + length c.args.attributes.now)
    (all_length c.args.parameters.now (λ a. a.value) c.args.attributes.now) (omega arith)
    (omega arith) c.loop-k.invariant

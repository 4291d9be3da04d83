use Rattle.std.proofs.Common.{arith}
use Rattle.mysql_reply_writer.proofs.writer.ReplyWriter.error_number.Goals as goal

pub overflow_add-result : goal.overflow_add-result
overflow_add-result c = let h = rw c.in-Some.is at c.self.invariant in omega (arith, h)

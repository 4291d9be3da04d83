use Rattle.std.proofs.Common.{arith}
use Rattle.mysql_wire.proofs.Joins.{may_lack_memory}
use Rattle.mysql_wire.proofs.packet.first_packet.Goals as goal

pub returns-in_err-join-clause-err : goal.returns-in_err-join-clause-err
returns-in_err-join-clause-err c =
    may_lack_memory c.from_residual.result _ c.in-Whole.full c.in-Whole.last c.in-Whole.next c.args.bytes.now
    (omega arith) c.in-Whole.ensures.stands c.in-Whole.ensures.found

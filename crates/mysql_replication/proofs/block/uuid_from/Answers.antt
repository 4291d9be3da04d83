use Rattle.mysql_replication.proofs.Blocks.{taken_len}
use Rattle.mysql_replication.proofs.block.uuid_from.Goals as goal

pub returns-in-Err : goal.returns-in-Err
returns-in-Err c =
    let len = taken_len 16 c.args.rest.now.0.now c.in_ok-uuid.uuid.now c.parse.new.self.0.now c.in_ok-uuid.ensures in
    absurd (c.in-Err.ensures.1 len)

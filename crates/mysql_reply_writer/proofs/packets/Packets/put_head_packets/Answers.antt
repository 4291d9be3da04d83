use Rattle.mysql_reply_writer.proofs.Joined.{kept_on}
use Rattle.mysql_reply_writer.proofs.Putting.{front_put}
use Rattle.mysql_reply_writer.proofs.packets.Packets.put_head_packets.Goals as goal

pub returns-clause-kept : goal.returns-clause-kept
returns-clause-kept c =
    kept_on c.args.out.now.items c.put_made.new.out.items c.put_group.new.out.items
    (front_put _ _ _ _ _ _ c.in_ok-put_made.ensures.ok) c.put_group.ensures.kept

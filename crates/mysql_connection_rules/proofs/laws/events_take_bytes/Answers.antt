use Rattle.mysql_connection_rules.proofs.Within.{events_take_bytes}
use Rattle.mysql_connection_rules.proofs.laws.events_take_bytes.Goals as goal

pub returns : goal.returns
returns c = events_take_bytes
    (record {
      stay = c.packets_stay.ensures;
      take = c.packets_take_bytes.ensures;
      follow =
          c.rests_follow.ensures;
    })

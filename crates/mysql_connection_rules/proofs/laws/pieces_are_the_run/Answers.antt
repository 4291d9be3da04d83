use Rattle.mysql_connection_rules.proofs.Running.{pieces_are_the_run}
use Rattle.mysql_connection_rules.proofs.laws.pieces_are_the_run.Goals as goal

pub returns : goal.returns
returns c = pieces_are_the_run
    (record {
      stay = c.packets_stay.ensures;
      take = c.packets_take_bytes.ensures;
      follow =
          c.rests_follow.ensures;
    })

use Rattle.mysql_connection_rules.proofs.Within.{events_stay_within_limits, fresh_is_within_limits, held_stays}
use Rattle.mysql_connection_rules.proofs.Within.{pieces_stay_within_limits}
use Rattle.mysql_connection_rules.proofs.laws.held_stays.Goals as goal

pub returns-clause-fresh : goal.returns-clause-fresh
returns-clause-fresh c = fresh_is_within_limits

pub returns-clause-pieces : goal.returns-clause-pieces
returns-clause-pieces c = pieces_stay_within_limits

pub returns-clause-events : goal.returns-clause-events
returns-clause-events c =
    events_stay_within_limits
    (record {
      stay = c.packets_stay.ensures;
      take = c.packets_take_bytes.ensures;
      follow =
          c.rests_follow.ensures;
    })

pub returns-clause-held : goal.returns-clause-held
returns-clause-held c = held_stays

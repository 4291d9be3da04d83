-- A put by hand: a client pings.
-- MySQL: Client/Server Protocol, "Command Phase", "COM_PING".
use Rattle.std.specs.Prelude.{◌≡◌, ◌≤◌, true, [], ◌∷◌, None}
use Rattle.mysql_commands.specs.Commands.{Ping}
use Rattle.mysql_reply_events.specs.declared.context.ReplyKind.TheVariants as kinds
use Rattle.mysql_connection_rules.specs.declared.side.Side.TheVariants.{Client}
use Rattle.mysql_connection_rules.specs.Events.Event.{Asked}
use Rattle.mysql_connection_rules.specs.Standing.{kept}
use Rattle.mysql_connection_rules.specs.Standing.About.{Nothing}
use Rattle.mysql_connection_rules.specs.Standing.Phase.{Command}
use Rattle.mysql_connection_rules.specs.Steps.{reply_due}
use Rattle.mysql_connection_rules.specs.Streams.{World, room_to_keep}
use Rattle.mysql_connection_rules.specs.PuttingMachines.{Puts}
use Rattle.mysql_connection_rules.specs.Puts.{is_free, put_on}

-- A command is due, in a packet that is numbered from 0, and nothing of the client's open stream
-- waits unread.
pub record AwaitsCommand (w : World) : Type 0 where
  pub phase : w.standing.phase ≡ Command
  pub number : w.standing.number ≡ 0
  pub free : is_free w.unread.client ≡ true
  pub limit : 1 ≤ w.limits.client
  pub room : kept w.standing ≤ room_to_keep w.limits

-- A ping is five bytes, and a plain reply is due behind it.
abbrev pub PingIsPut : Type 0
PingIsPut = (w : World) → AwaitsCommand w →
    Puts w (Asked Ping) Client (1 ∷ 0 ∷ 0 ∷ 0 ∷ 14 ∷ [])
    (put_on w (Asked Ping) (14 ∷ []) (reply_due kinds.Plain None Nothing w.standing))

-- A client pings.
use Rattle.std.proofs.Common.{◌≡◌, ℕ, ◌≤◌, List, [], ◌∷◌, None, Ok, refl, ap, subst, ◌∙◌, arith}
use Rattle.std.specs.Prelude.{◌&&◌}
use Rattle.mysql_commands.specs.Commands.{Ping}
use Rattle.mysql_wire.specs.FirstPacketLaws.{FramingsAreFound}
use Rattle.mysql_reply_events.specs.declared.context.ReplyKind.TheVariants as kinds
use Rattle.mysql_wire.specs.Framing.{chunks, framing}
use Rattle.mysql_connection_rules.specs.declared.side.Side.TheVariants.{Client}
use Rattle.mysql_connection_rules.specs.Events.Event.{Asked}
use Rattle.mysql_connection_rules.specs.Standing.{Phase, Standing, kept}
use Rattle.mysql_connection_rules.specs.Standing.About.{Nothing}
use Rattle.mysql_connection_rules.specs.Standing.Phase.{Command}
use Rattle.mysql_connection_rules.specs.Steps.{in_turn, reply_due, step, turn}
use Rattle.mysql_connection_rules.specs.Streams.{room_to_keep}
use Rattle.mysql_connection_rules.specs.Examples.{PingIsPut}
use Rattle.mysql_connection_rules.specs.PuttingMachines.{Puts}
use Rattle.mysql_connection_rules.specs.Puts.{is_turn, put_on}
use Rattle.mysql_connection_rules.proofs.Putting.{puts_are_read}

says_ping : (s : Standing) → s.phase ≡ Command → step s (14 ∷ []) ≡
    Ok (Asked Ping, reply_due kinds.Plain None Nothing s)
unfolding step
says_ping s e = ap (λ (p : Phase). in_turn p s (14 ∷ [])) e

framed : framing (14 ∷ []) 0 ≡ 1 ∷ 0 ∷ 0 ∷ 0 ∷ 14 ∷ []
unfolding framing chunks
framed = refl

keeps_ping : (s : Standing) (room : ℕ) → kept s ≤ room → kept (reply_due kinds.Plain None Nothing s) ≤ room
keeps_ping s room h = omega arith

pub ping_is_put : FramingsAreFound → PingIsPut
ping_is_put found w awaits =
    let after = reply_due kinds.Plain None Nothing w.standing in
    let bytes : framing (14 ∷ []) w.standing.number ≡ 1 ∷ 0 ∷ 0 ∷ 0 ∷ 14 ∷ [] =
    ap (framing (14 ∷ [])) awaits.number ∙ framed in
    subst (λ (l : List ℕ). Puts w (Asked Ping) Client l (put_on w (Asked Ping) (14 ∷ []) after)) bytes
    (puts_are_read found w (Asked Ping) (14 ∷ []) after (let e = awaits.number in omega arith) (record {
      due = λ i. awaits.free i && is_turn Client (turn (awaits.phase i));
      says = says_ping w.standing awaits.phase;
      within = awaits.limit;
      keeps = keeps_ping w.standing (room_to_keep w.limits) awaits.room;
    }))

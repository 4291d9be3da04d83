-- An event is of the side whose payload is due, or the server's last words.
use Rattle.std.proofs.Common.{◌≡◌, ℕ, Bool, true, false, List, ◌⊎◌, inl, inr, Option, Some, None, Result, Ok, Err}
use Rattle.std.proofs.Common.{refl, ap, subst}
use Rattle.std.specs.Prelude.{slice_index_or, nat_le}
use Rattle.mysql_wire.specs.FirstPacket.{Found, Short, TooLarge, OutOfSync, Whole, first_packet}
use Rattle.mysql_fields.specs.Wire.{Reading}
use Rattle.mysql_server_packets.specs.Packets.{ServerError}
use Rattle.mysql_authentication.specs.Readings.{early_error_at}
use Rattle.mysql_connection_rules.specs.declared.fault.Fault.{Fault}
use Rattle.mysql_connection_rules.specs.declared.fault.Fault.TheVariants as faults
use Rattle.mysql_connection_rules.specs.declared.reason.Reason.TheVariants as reasons
use Rattle.mysql_connection_rules.specs.declared.side.Side.{Side}
use Rattle.mysql_connection_rules.specs.declared.side.Side.TheVariants.{Client, Server}
use Rattle.mysql_connection_rules.specs.Events.{Event, Farewell, side_of}
use Rattle.mysql_connection_rules.specs.Standing.{Standing, kept}
use Rattle.mysql_connection_rules.specs.Steps.{over, step, turn}
use Rattle.mysql_connection_rules.specs.Streams.{World, Next, Waits, Says, Fails}
use Rattle.mysql_connection_rules.specs.Streams.{begins_error, client_by, farewell, has_number, is_early, moved}
use Rattle.mysql_connection_rules.specs.Streams.{next_by, numbered, room_to_keep, said_by, server_by, words, words_by}
use Rattle.mysql_connection_rules.specs.Laws.{EventsAreInTurn}
use Rattle.mysql_connection_rules.proofs.OneStep.{by_room, by_error, by_number, by_early, by_end}
use Rattle.mysql_connection_rules.proofs.Sides.{SaidBy, step_side}

abbrev IsNamed : Side → Event → Type 0
IsNamed own event = (own ≡ side_of event) ⊎ ((error : ServerError) × (event ≡ Farewell error))

abbrev InTurn : Side → Next → Type 0
InTurn own Waits = Unit {0}
InTurn own (Says event mid) = IsNamed own event
InTurn own (Fails failure) = Unit {0}

room_turn : (fits : Bool) (w : World) (own side : Side) (event : Event) (mid : World) →
    IsNamed side event → InTurn side (by_room fits w own event mid)
room_turn true w own side event mid h = h
room_turn false w own side event mid h = tt

said_turn : (w : World) (own : Side) (number : ℕ) (rest : List ℕ)
    (said : Result (Event × Standing) Fault) → SaidBy own said →
    InTurn own (said_by w own number rest said)
said_turn w own number rest (Ok said) h =
    room_turn (nat_le (kept (numbered own number said.1)) (room_to_keep w.limits)) w own own said.0
    (moved w own number rest said.1) (inl h)
said_turn w own number rest (Err fault) h = tt

farewell_turn : (w : World) (side : Side) (number : ℕ) (rest : List ℕ)
    (error : Reading ServerError) → InTurn side (farewell w number rest error)
farewell_turn w side number rest (Ok error) =
    let s = over reasons.Farewell w.standing in
    room_turn (nat_le (kept (numbered Server number s)) (room_to_keep w.limits)) w Server side
    (Farewell error.0) (moved w Server number rest s) (inr (error.0, refl))
farewell_turn w side number rest (Err e) = tt

error_turn : (begins : Bool) (w : World) (side : Side) (fault : Fault) (number : ℕ) (rest : List ℕ)
    (error : Reading ServerError)
    → InTurn side (by_error begins w fault number rest error)
error_turn true w side fault number rest error = farewell_turn w side number rest error
error_turn false w side fault number rest error = tt

words_turn : (w : World) (side : Side) (found : Found) → InTurn side (words_by w found)
words_turn w side Short = tt
words_turn w side TooLarge = tt
words_turn w side (OutOfSync number) = tt
words_turn w side (Whole payload number rest) =
    error_turn (begins_error payload) w side faults.Unasked number rest (early_error_at payload)

number_turn : (w : World) (side : Side) (due : Bool) (found : Found) → InTurn side (by_number due w found)
number_turn w side true found = words_turn w side found
number_turn w side false found = tt

end_turn : (w : World) (ended : Bool) → InTurn Client (by_end ended w)
end_turn w true =
    let n = w.standing.number in
    let bytes = w.unread.server.bytes in
    number_turn w Client (has_number n bytes) (first_packet w.limits.server n bytes)
end_turn w false = tt

client_turn : (w : World) (found : Found) → turn w.standing.phase ≡ Some Client → InTurn Client (client_by w found)
client_turn w Short e = end_turn w w.unread.client.closed
client_turn w TooLarge e = tt
client_turn w (OutOfSync number) e = tt
client_turn w (Whole payload number rest) e =
    said_turn w Client number rest (step w.standing payload) (step_side w.standing payload Client e)

server_turn : (w : World) (found : Found) → turn w.standing.phase ≡ Some Server → InTurn Server (server_by w found)
server_turn w Short e = tt
server_turn w TooLarge e = tt
server_turn w (OutOfSync number) e = tt
server_turn w (Whole payload number rest) e =
    said_turn w Server number rest (step w.standing payload) (step_side w.standing payload Server e)

either_turn : (w : World) (early : Bool) (found due : Found) → turn w.standing.phase ≡ Some Server →
    InTurn Server (by_early early w found due)
either_turn w true found due e = words_turn w Server found
either_turn w false found due e = server_turn w due e

abbrev TurnSaid : Option Side → Next → Type 0
TurnSaid None Waits = Unit {0}
TurnSaid None (Says event mid) = ⊥
TurnSaid None (Fails failure) = ⊥
TurnSaid (Some own) n = InTurn own n

turn_said : (w : World) (its : Option Side) → turn w.standing.phase ≡ its → TurnSaid its (next_by w its)
turn_said w None e = tt
turn_said w (Some Client) e = client_turn w (first_packet w.limits.client w.standing.number w.unread.client.bytes) e
turn_said w (Some Server) e =
    let s = w.standing in
    let limit = w.limits.server in
    let bytes = w.unread.server.bytes in
    either_turn w (is_early s bytes) (first_packet limit (slice_index_or bytes 3 0) bytes)
    (first_packet limit s.number bytes) e

by_its : (its : Option Side) (event : Event) (mid : World) → TurnSaid its (Says event mid) →
    (its ≡ Some (side_of event)) ⊎ ((error : ServerError) × (event ≡ Farewell error))
by_its None event mid h = absurd h
by_its (Some own) event mid (inl e) = inl (ap (λ (s : Side). Some s) e)
by_its (Some own) event mid (inr words) = inr words

pub events_are_in_turn : EventsAreInTurn
events_are_in_turn old new event e =
    let its = turn old.standing.phase in
    by_its its event new (subst (TurnSaid its) e (turn_said old its refl))

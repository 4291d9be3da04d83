-- What the end of a stream changes where bytes are waited for; and that who is waited for has room.
use Rattle.std.proofs.Common.{◌≡◌, ℕ, ◌<◌, Bool, true, false, List, ◌⊎◌, inl, inr, Option, Some, None, Result, Ok, Err}
use Rattle.std.proofs.Common.{length}
use Rattle.std.proofs.Common.{refl, sym, ap, subst, ◌∙◌}
use Rattle.std.specs.Prelude.{slice_index_or, nat_le}
use Rattle.mysql_wire.specs.FirstPacket.{Found, Short, TooLarge, OutOfSync, Whole, first_packet, framed}
use Rattle.mysql_wire.specs.FirstPacketLaws.{RoomIsEnough}
use Rattle.mysql_fields.specs.Wire.{Reading}
use Rattle.mysql_server_packets.specs.Packets.{ServerError}
use Rattle.mysql_authentication.specs.Readings.{early_error_at}
use Rattle.mysql_connection_rules.specs.declared.fault.Fault.{Fault}
use Rattle.mysql_connection_rules.specs.declared.fault.Fault.TheVariants as faults
use Rattle.mysql_connection_rules.specs.declared.reason.Reason.TheVariants as reasons
use Rattle.mysql_connection_rules.specs.declared.side.Side.{Side}
use Rattle.mysql_connection_rules.specs.declared.side.Side.TheVariants.{Client, Server}
use Rattle.mysql_connection_rules.specs.Events.{Event, Farewell}
use Rattle.mysql_connection_rules.specs.Standing.{Standing, kept}
use Rattle.mysql_connection_rules.specs.Steps.{over, step, turn}
use Rattle.mysql_connection_rules.specs.Streams.{End, World, Next, Waits, Says, Fails, come, next, stream_of}
use Rattle.mysql_connection_rules.specs.Streams.{begins_error, client_by, farewell, has_number, is_early, moved}
use Rattle.mysql_connection_rules.specs.Streams.{next_by, numbered, of_server, room, room_to_keep, said_by, server_by}
use Rattle.mysql_connection_rules.specs.Streams.{words_by}
use Rattle.mysql_connection_rules.specs.Laws.{TurnCanCome}
use Rattle.mysql_connection_rules.proofs.OneStep.{by_room, by_error, by_number, by_early, by_end}

-- ---- who waits goes on waiting

abbrev pub Still : Next → Next → Type 0
Still Waits new = new ≡ Waits
Still (Says event mid) new = Unit {0}
Still (Fails failure) new = Unit {0}

room_still : (fits : Bool) (w : World) (own : Side) (event : Event) (mid : World) (new : Next) →
    Still (by_room fits w own event mid) new
room_still true w own event mid new = tt
room_still false w own event mid new = tt

said_still : (w : World) (own : Side) (number : ℕ) (rest : List ℕ)
    (said : Result (Event × Standing) Fault) (new : Next) →
    Still (said_by w own number rest said) new
said_still w own number rest (Ok said) new =
    room_still (nat_le (kept (numbered own number said.1)) (room_to_keep w.limits)) w own said.0
    (moved w own number rest said.1) new
said_still w own number rest (Err fault) new = tt

farewell_still : (w : World) (number : ℕ) (rest : List ℕ) (error : Reading ServerError)
    (new : Next) → Still (farewell w number rest error) new
farewell_still w number rest (Ok error) new =
    let s = over reasons.Farewell w.standing in
    room_still (nat_le (kept (numbered Server number s)) (room_to_keep w.limits)) w Server
    (Farewell error.0) (moved w Server number rest s) new
farewell_still w number rest (Err e) new = tt

error_still : (begins : Bool) (w : World) (fault : Fault) (number : ℕ) (rest : List ℕ)
    (error : Reading ServerError) (new : Next)
    → Still (by_error begins w fault number rest error) new
error_still true w fault number rest error new = farewell_still w number rest error new
error_still false w fault number rest error new = tt

words_still : (w v : World) (found : Found) → Still (words_by w found) (words_by v found)
words_still w v Short = refl
words_still w v TooLarge = tt
words_still w v (OutOfSync number) = tt
words_still w v (Whole payload number rest) =
    error_still (begins_error payload) w faults.Unasked number rest (early_error_at payload)
    (words_by v (Whole payload number rest))

number_still : (w v : World) (due : Bool) (found : Found) → Still (by_number due w found) (by_number due v found)
number_still w v true found = words_still w v found
number_still w v false found = refl

server_still : (w v : World) (found : Found) → Still (server_by w found) (server_by v found)
server_still w v Short = refl
server_still w v TooLarge = tt
server_still w v (OutOfSync number) = tt
server_still w v (Whole payload number rest) =
    said_still w Server number rest (step w.standing payload)
    (server_by v (Whole payload number rest))

either_still : (w v : World) (early : Bool) (found due : Found) →
    Still (by_early early w found due) (by_early early v found due)
either_still w v true found due = words_still w v found
either_still w v false found due = server_still w v due

of_server-still : (w : World) (side : Side) (bytes : List ℕ) →
    Still (of_server w bytes) (of_server (come side End w) bytes)
of_server-still w side bytes =
    either_still w (come side End w) (is_early w.standing bytes)
    (first_packet w.limits.server (slice_index_or bytes 3 0) bytes)
    (first_packet w.limits.server w.standing.number bytes)

end_still : (w : World) (ended : Bool) → Still (by_end ended w) (by_end ended (come Server End w))
end_still w true =
    let n = w.standing.number in
    let bytes = w.unread.server.bytes in
    number_still w (come Server End w) (has_number n bytes) (first_packet w.limits.server n bytes)
end_still w false = refl

client_still : (w : World) (found : Found) → Still (client_by w found) (client_by (come Server End w) found)
client_still w Short = end_still w w.unread.client.closed
client_still w TooLarge = tt
client_still w (OutOfSync number) = tt
client_still w (Whole payload number rest) =
    said_still w Client number rest (step w.standing payload)
    (client_by (come Server End w) (Whole payload number rest))

turn_still : (w : World) (its : Option Side) → Still (next_by w its) (next_by (come Server End w) its)
turn_still w None = refl
turn_still w (Some Client) = client_still w (first_packet w.limits.client w.standing.number w.unread.client.bytes)
turn_still w (Some Server) = of_server-still w Server w.unread.server.bytes

-- where bytes are waited for they are so too once the server's stream has ended
pub next_still : (w : World) → next w ≡ Waits → next (come Server End w) ≡ Waits
next_still w e = subst (λ (v : Next). Still v (next (come Server End w))) e (turn_still w (turn w.standing.phase))

-- ---- the end of the client's stream

abbrev pub EndsBy : Next → Type 0
EndsBy Waits = Unit {0}
EndsBy (Says event mid) = (error : ServerError) × (event ≡ Farewell error) × (next mid ≡ Waits)
EndsBy (Fails failure) = Unit {0}

room_ends : (fits : Bool) (w : World) (number : ℕ) (rest : List ℕ) (error : ServerError)
    → EndsBy (by_room fits w Server (Farewell error) (moved w Server number rest (over reasons.Farewell w.standing)))
room_ends true w number rest error = (error, refl, refl)
room_ends false w number rest error = tt

farewell_ends : (w : World) (number : ℕ) (rest : List ℕ) (error : Reading ServerError) →
    EndsBy (farewell w number rest error)
farewell_ends w number rest (Ok error) =
    room_ends (nat_le (kept (numbered Server number (over reasons.Farewell w.standing)))
    (room_to_keep w.limits)) w number rest error.0
farewell_ends w number rest (Err e) = tt

error_ends : (begins : Bool) (w : World) (fault : Fault) (number : ℕ) (rest : List ℕ)
    (error : Reading ServerError) → EndsBy (by_error begins w fault number rest error)
error_ends true w fault number rest error = farewell_ends w number rest error
error_ends false w fault number rest error = tt

words_end : (w : World) (found : Found) → EndsBy (words_by w found)
words_end w Short = tt
words_end w TooLarge = tt
words_end w (OutOfSync number) = tt
words_end w (Whole payload number rest) =
    error_ends (begins_error payload) w faults.Unasked number rest (early_error_at payload)

number_ends : (w : World) (due : Bool) (found : Found) → EndsBy (by_number due w found)
number_ends w true found = words_end w found
number_ends w false found = tt

waits_end : (old new : Next) → old ≡ Waits → Still old new → EndsBy new
waits_end old new e h = subst EndsBy (sym (subst (λ (v : Next). Still v new) e h)) tt

said_ends : (w : World) (own : Side) (number : ℕ) (rest : List ℕ)
    (said : Result (Event × Standing) Fault) (new : Next) → said_by w own number rest said ≡ Waits →
    EndsBy new
said_ends w own number rest said new e =
    waits_end (said_by w own number rest said) new e (said_still w own number rest said new)

client_ends : (w : World) (found : Found) → client_by w found ≡ Waits → EndsBy (client_by (come Client End w) found)
client_ends w Short e =
    let n = w.standing.number in
    let bytes = w.unread.server.bytes in
    number_ends (come Client End w) (has_number n bytes) (first_packet w.limits.server n bytes)
client_ends w TooLarge e = tt
client_ends w (OutOfSync number) e = tt
client_ends w (Whole payload number rest) e =
    said_ends w Client number rest (step w.standing payload)
    (client_by (come Client End w) (Whole payload number rest)) e

turn_ends : (w : World) (its : Option Side) → next_by w its ≡ Waits → EndsBy (next_by (come Client End w) its)
turn_ends w None e = tt
turn_ends w (Some Client) e = client_ends w (first_packet w.limits.client w.standing.number w.unread.client.bytes) e
turn_ends w (Some Server) e =
    waits_end (of_server w w.unread.server.bytes)
    (of_server (come Client End w) w.unread.server.bytes) e
    (of_server-still w Client w.unread.server.bytes)

-- where bytes are waited for, the end of the client's stream brings last words at most, and nothing behind them
pub next_ends : (w : World) → next w ≡ Waits → EndsBy (next (come Client End w))
next_ends w e = turn_ends w (turn w.standing.phase) e

-- ---- who waits has room

-- what stays with whatever comes is no waiting
never_waits : (n : Next) → ((new : Next) → Still n new) → n ≡ Waits → ⊥
never_waits n h e =
    let fault : Next = Fails (record { side = Client; byte = 0; fault = faults.Unasked }) in
    cc (subst (λ (v : Next). Still v fault) e (h fault))

client_short : (w : World) (found : Found) → client_by w found ≡ Waits → found ≡ Short
client_short w Short e = refl
client_short w TooLarge e = absurd (cc e)
client_short w (OutOfSync number) e = absurd (cc e)
client_short w (Whole payload number rest) e =
    absurd (never_waits (client_by w (Whole payload number rest))
    (said_still w Client number rest (step w.standing payload)) e)

server_short : (w : World) (found : Found) → server_by w found ≡ Waits → found ≡ Short
server_short w Short e = refl
server_short w TooLarge e = absurd (cc e)
server_short w (OutOfSync number) e = absurd (cc e)
server_short w (Whole payload number rest) e =
    absurd (never_waits (server_by w (Whole payload number rest))
    (said_still w Server number rest (step w.standing payload)) e)

words_short : (w : World) (found : Found) → words_by w found ≡ Waits → found ≡ Short
words_short w Short e = refl
words_short w TooLarge e = absurd (cc e)
words_short w (OutOfSync number) e = absurd (cc e)
words_short w (Whole payload number rest) e =
    absurd (never_waits (words_by w (Whole payload number rest))
    (error_still (begins_error payload) w faults.Unasked number rest (early_error_at payload))
    e)

either_short : (w : World) (early : Bool) (found due : Found) → by_early early w found due ≡ Waits →
    (found ≡ Short) ⊎ (due ≡ Short)
either_short w true found due e = inl (words_short w found e)
either_short w false found due e = inr (server_short w due e)

server_room : RoomIsEnough → (limit early number : ℕ) (bytes : List ℕ) →
    (first_packet limit early bytes ≡ Short) ⊎ (first_packet limit number bytes ≡ Short)
    → length bytes < framed limit
server_room enough limit early number bytes (inl e) = enough limit early bytes e
server_room enough limit early number bytes (inr e) = enough limit number bytes e

turn_room : RoomIsEnough → (w : World) (side : Side) → next_by w (Some side) ≡ Waits →
    length (stream_of side w.unread).bytes < room side w.limits
turn_room enough w Client e =
    let n = w.standing.number in
    let bytes = w.unread.client.bytes in
    enough w.limits.client n bytes (client_short w (first_packet w.limits.client n bytes) e)
turn_room enough w Server e =
    let s = w.standing in
    let limit = w.limits.server in
    let bytes = w.unread.server.bytes in
    let early = slice_index_or bytes 3 0 in
    server_room enough limit early s.number bytes
    (either_short w (is_early s bytes) (first_packet limit early bytes)
    (first_packet limit s.number bytes) e)

pub turn_can_come : RoomIsEnough → TurnCanCome
turn_can_come enough w side waits e = turn_room enough w side (sym (ap (next_by w) e) ∙ waits)

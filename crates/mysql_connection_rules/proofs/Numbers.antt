-- The number that is due is a byte, whatever a machine had.
use Rattle.std.proofs.Common.{ℕ, zero, suc, ◌+◌, ◌<◌, Bool, true, false, List, [], ◌∷◌, Option, Some, None, Result, Ok}
use Rattle.std.proofs.Common.{Err, length, take, drop, sym, subst, arith}
use Rattle.std.specs.Prelude.{nat_le, nat_lt, slice_index_or, ◌==◌}
use Rattle.mysql_authentication.specs.Readings.{early_error_at}
use Rattle.mysql_wire.specs.FirstPacket.{Found, Short, TooLarge, OutOfSync, Whole, announced, by_tests, first_packet}
use Rattle.mysql_wire.specs.FirstPacket.{most_chunks, next_number, packet_by, with_chunk}
use Rattle.mysql_fields.specs.Wire.{Reading}
use Rattle.mysql_server_packets.specs.Packets.{ServerError}
use Rattle.mysql_wire.specs.Framing.{max_payload_len}
use Rattle.mysql_connection_rules.specs.declared.fault.Fault.{Fault}
use Rattle.mysql_connection_rules.specs.declared.fault.Fault.TheVariants as faults
use Rattle.mysql_connection_rules.specs.declared.reason.Reason.TheVariants as reasons
use Rattle.mysql_connection_rules.specs.declared.side.Side.{Side}
use Rattle.mysql_connection_rules.specs.declared.side.Side.TheVariants.{Client, Server}
use Rattle.mysql_connection_rules.specs.Events.{Event}
use Rattle.mysql_connection_rules.specs.Events.Event.{Farewell}
use Rattle.mysql_connection_rules.specs.Machines.{Had, fresh, comes, takes}
use Rattle.mysql_connection_rules.specs.Standing.{Phase, Standing, kept}
use Rattle.mysql_connection_rules.specs.Standing as phases
use Rattle.mysql_connection_rules.specs.Steps.{over, step, turn}
use Rattle.mysql_connection_rules.specs.Streams.{Beginning, World, Streams, Next, Waits, Says, Fails, next}
use Rattle.mysql_connection_rules.specs.Streams.{begins_error, client_by, farewell, has_number, is_early, moved}
use Rattle.mysql_connection_rules.specs.Streams.{number_in}
use Rattle.mysql_connection_rules.specs.Streams.{next_by, numbered, room_to_keep, said_by, server_by, words_by}
use Rattle.mysql_connection_rules.proofs.OneStep.{by_room, by_error, by_number, by_early, by_end}
use Rattle.mysql_connection_rules.specs.AgreementLaws.{NumbersAreBytes}
use Rattle.mysql_connection_rules.proofs.Agreeing.{had_too}

-- ---- behind a packet

abbrev IsByte : Found → Type 0
IsByte Short = Unit {0}
IsByte TooLarge = Unit {0}
IsByte (OutOfSync number) = Unit {0}
IsByte (Whole payload next rest) = next < 256

chunk_byte : (bytes : List ℕ) (found : Found) → IsByte found → IsByte (with_chunk bytes found)
chunk_byte bytes Short h = tt
chunk_byte bytes TooLarge h = tt
chunk_byte bytes (OutOfSync number) h = tt
chunk_byte bytes (Whole payload next rest) h = h

tests_byte : (long whole due full : Bool) (number : ℕ) (bytes : List ℕ) (next : ℕ) (rest : List ℕ)
    (more : Found) → next < 256 → IsByte more
    → IsByte (by_tests long whole due full number bytes next rest more)
tests_byte true whole due full number bytes next rest more h k = tt
tests_byte false false due full number bytes next rest more h k = tt
tests_byte false true false full number bytes next rest more h k = tt
tests_byte false true true true number bytes next rest more h k = chunk_byte bytes more k
tests_byte false true true false number bytes next rest more h k = h

next_byte : (number : ℕ) → next_number number < 256
next_byte number = omega arith

packet_byte : (chunks limit before number : ℕ) (bytes : List ℕ) → IsByte (packet_by chunks limit before number bytes)
packet_byte zero limit before number bytes = tt
packet_byte (suc chunks) limit before number [] = tt
packet_byte (suc chunks) limit before number (a ∷ []) = tt
packet_byte (suc chunks) limit before number (a ∷ b ∷ []) = tt
packet_byte (suc chunks) limit before number (a ∷ b ∷ c ∷ []) = tt
packet_byte (suc chunks) limit before number (a ∷ b ∷ c ∷ d ∷ bytes) =
    let n = announced a b c in
    tests_byte (nat_lt limit (before + n)) (nat_le n (length bytes)) (d == number)
    (n == max_payload_len) d (take n bytes) (next_number number) (drop n bytes)
    (packet_by chunks limit (before + n) (next_number number) (drop n bytes)) (next_byte number)
    (packet_byte chunks limit (before + n) (next_number number) (drop n bytes))

found_byte : (limit number : ℕ) (bytes : List ℕ) → IsByte (first_packet limit number bytes)
found_byte limit number bytes = packet_byte (most_chunks limit) limit 0 number bytes

-- ---- behind an event

abbrev Numbered : Next → Type 0
Numbered Waits = Unit {0}
Numbered (Says event mid) = mid.standing.number < 256
Numbered (Fails failure) = Unit {0}

in_byte : (phase : Phase) (number : ℕ) → number < 256 → number_in phase number < 256
in_byte phases.Command number h = omega arith
in_byte phases.Greeting number h = h
in_byte phases.Response number h = h
in_byte (phases.Authentication exchange) number h = h
in_byte (phases.Answer exchange) number h = h
in_byte (phases.Reply r) number h = h
in_byte (phases.Over reason) number h = h

room_byte : (fits : Bool) (w : World) (side : Side) (event : Event) (mid : World) →
    mid.standing.number < 256 → Numbered (by_room fits w side event mid)
room_byte true w side event mid h = h
room_byte false w side event mid h = tt

event_byte : (w : World) (side : Side) (number : ℕ) (rest : List ℕ) (event : Event) (s : Standing) → number < 256
    → Numbered (by_room (nat_le (kept (numbered side number s)) (room_to_keep w.limits)) w side
    event (moved w side number rest s))
event_byte w side number rest event s h =
    room_byte (nat_le (kept (numbered side number s)) (room_to_keep w.limits)) w side event
    (moved w side number rest s) (in_byte s.phase number h)

said_byte : (w : World) (side : Side) (number : ℕ) (rest : List ℕ)
    (said : Result (Event × Standing) Fault) → number < 256 →
    Numbered (said_by w side number rest said)
said_byte w side number rest (Ok said) h = event_byte w side number rest said.0 said.1 h
said_byte w side number rest (Err fault) h = tt

farewell_byte : (w : World) (number : ℕ) (rest : List ℕ) (error : Reading ServerError) →
    number < 256 → Numbered (farewell w number rest error)
farewell_byte w number rest (Ok error) h =
    event_byte w Server number rest (Farewell error.0) (over reasons.Farewell w.standing) h
farewell_byte w number rest (Err e) h = tt

error_byte : (begins : Bool) (w : World) (fault : Fault) (number : ℕ) (rest : List ℕ)
    (error : Reading ServerError) → number < 256
    → Numbered (by_error begins w fault number rest error)
error_byte true w fault number rest error h = farewell_byte w number rest error h
error_byte false w fault number rest error h = tt

words_byte : (w : World) (found : Found) → IsByte found → Numbered (words_by w found)
words_byte w Short h = tt
words_byte w TooLarge h = tt
words_byte w (OutOfSync number) h = tt
words_byte w (Whole payload number rest) h =
    error_byte (begins_error payload) w faults.Unasked number rest (early_error_at payload) h

number_byte : (w : World) (due : Bool) (found : Found) → IsByte found → Numbered (by_number due w found)
number_byte w true found h = words_byte w found h
number_byte w false found h = tt

end_byte : (w : World) (ended : Bool) → Numbered (by_end ended w)
end_byte w true =
    let n = w.standing.number in
    let bytes = w.unread.server.bytes in
    number_byte w (has_number n bytes) (first_packet w.limits.server n bytes) (found_byte w.limits.server n bytes)
end_byte w false = tt

client_byte : (w : World) (found : Found) → IsByte found → Numbered (client_by w found)
client_byte w Short h = end_byte w w.unread.client.closed
client_byte w TooLarge h = tt
client_byte w (OutOfSync number) h = tt
client_byte w (Whole payload number rest) h = said_byte w Client number rest (step w.standing payload) h

server_byte : (w : World) (found : Found) → IsByte found → Numbered (server_by w found)
server_byte w Short h = tt
server_byte w TooLarge h = tt
server_byte w (OutOfSync number) h = tt
server_byte w (Whole payload number rest) h = said_byte w Server number rest (step w.standing payload) h

either_byte : (w : World) (early : Bool) (found due : Found) → IsByte found → IsByte due →
    Numbered (by_early early w found due)
either_byte w true found due h k = words_byte w found h
either_byte w false found due h k = server_byte w due k

turn_byte : (w : World) (its : Option Side) → Numbered (next_by w its)
turn_byte w None = tt
turn_byte w (Some Client) =
    let n = w.standing.number in
    let bytes = w.unread.client.bytes in
    client_byte w (first_packet w.limits.client n bytes) (found_byte w.limits.client n bytes)
turn_byte w (Some Server) =
    let s = w.standing in
    let limit = w.limits.server in
    let bytes = w.unread.server.bytes in
    let early = slice_index_or bytes 3 0 in
    either_byte w (is_early s bytes) (first_packet limit early bytes)
    (first_packet limit s.number bytes) (found_byte limit early bytes)
    (found_byte limit s.number bytes)

had_byte : (begun : Beginning) (streams : Streams) (events : List Event) (held : World) →
    begun.first.number < 256 → Had begun streams events held → held.standing.number < 256
had_byte begun streams events held first fresh = first
had_byte begun streams events held first (comes {streams = before} {old = old} side coming had is_open e) =
    subst (λ (w : World). w.standing.number < 256) (sym e) (had_byte begun before events old first had)
had_byte begun streams events held first (takes {events = front} {old = old} had e) =
    subst Numbered e (turn_byte old (turn old.standing.phase))

pub numbers_are_bytes : NumbersAreBytes
numbers_are_bytes begun streams events held first had =
    had_byte begun streams events held first (had_too begun streams events held had)

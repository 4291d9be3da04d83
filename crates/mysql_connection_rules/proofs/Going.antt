-- What an event takes of the streams, and that what is kept stays within its room.
use Rattle.std.proofs.Common.{◌≡◌, ℕ, ◌+◌, ◌-◌, ◌≤◌, Bool, true, false, List, [], ◌++◌, Option, Some, None, Result, Ok}
use Rattle.std.proofs.Common.{Err, length}
use Rattle.std.proofs.Common.{refl, subst, arith}
use Rattle.std.specs.Prelude.{nat_le, slice_index_or}
use Rattle.std.proofs.lemmas.Bool.Decides.{nat_tests}
use Rattle.std.proofs.lemmas.Grind.{common_steps}
use Rattle.mysql_wire.specs.FirstPacket.{Found, Short, TooLarge, OutOfSync, Whole, first_packet}
use Rattle.mysql_wire.specs.FirstPacketLaws.{TakesBytes, FollowsBy}
use Rattle.mysql_fields.specs.Wire.{Reading}
use Rattle.mysql_server_packets.specs.Packets.{ServerError}
use Rattle.mysql_authentication.specs.Readings.{early_error_at}
use Rattle.mysql_connection_rules.specs.declared.fault.Fault.{Fault}
use Rattle.mysql_connection_rules.specs.declared.fault.Fault.TheVariants as faults
use Rattle.mysql_connection_rules.specs.declared.reason.Reason.TheVariants as reasons
use Rattle.mysql_connection_rules.specs.declared.side.Side.{Side}
use Rattle.mysql_connection_rules.specs.declared.side.Side.TheVariants.{Client, Server}
use Rattle.mysql_connection_rules.specs.Events.{Event, Farewell}
use Rattle.mysql_connection_rules.specs.Standing.{Standing, kept}
use Rattle.mysql_connection_rules.specs.Steps.{over, step, turn}
use Rattle.mysql_connection_rules.specs.Streams.{Failure, Stream, World, Next, Waits, Says, Fails, stream_of, next}
use Rattle.mysql_connection_rules.specs.Streams.{behind, begins_error, client_by, farewell, has_number, is_early}
use Rattle.mysql_connection_rules.specs.Streams.{leads_on, moved}
use Rattle.mysql_connection_rules.specs.Streams.{next_by, numbered, room_to_keep, said_by, server_by, words_by}
use Rattle.mysql_connection_rules.specs.Laws.{HasRead, unread_length}
use Rattle.mysql_connection_rules.proofs.Packets.{PacketLaws}
use Rattle.mysql_connection_rules.proofs.OneStep.{by_room, by_error, by_number, by_early, by_end}

pub record Went (old new : World) : Type 0 where
  pub limits : new.limits ≡ old.limits
  pub keeps : kept new.standing ≤ room_to_keep old.limits
  pub takes : unread_length new + 4 ≤ unread_length old
  pub streams : (side : Side) → HasRead (stream_of side old.unread) (stream_of side new.unread)

abbrev pub Goes : World → Next → Type 0
Goes w Waits = Unit {0}
Goes w (Says event mid) = Went w mid
Goes w (Fails failure) = failure.byte ≡ (stream_of failure.side w.unread).read

-- a packet was taken off the front
pub record TakenOff (bytes rest : List ℕ) : Type 0 where
  pub front : List ℕ
  pub joined : front ++ rest ≡ bytes
  pub header : 4 ≤ length front

abbrev pub IsTaken : List ℕ → Found → Type 0
IsTaken bytes Short = Unit {0}
IsTaken bytes TooLarge = Unit {0}
IsTaken bytes (OutOfSync number) = Unit {0}
IsTaken bytes (Whole payload number rest) = TakenOff bytes rest

four_more : (front rest bytes payload : List ℕ) → front ++ rest ≡ bytes →
    length rest + length payload + 4 ≤ length bytes → 4 ≤ length front
four_more front rest bytes payload e h = grind (arith, common_steps)

taken_by : (bytes : List ℕ) (found : Found) → TakesBytes bytes found → FollowsBy bytes found → IsTaken bytes found
taken_by bytes Short h k = tt
taken_by bytes TooLarge h k = tt
taken_by bytes (OutOfSync number) h k = tt
taken_by bytes (Whole payload number rest) h k =
    record { front = k.0; joined = k.1; header = four_more k.0 rest bytes payload k.1 h }

is_taken : PacketLaws → (limit number : ℕ) (bytes : List ℕ) → IsTaken bytes (first_packet limit number bytes)
is_taken packets limit number bytes =
    taken_by bytes (first_packet limit number bytes) (packets.take limit number bytes)
    (packets.follow limit number bytes)

-- ---- streams

read_since : (read : ℕ) (front rest bytes : List ℕ) → front ++ rest ≡ bytes →
    read + (length bytes - length rest) ≡ read + length front
read_since read front rest bytes e = grind (arith, common_steps)

pub same_read : (stream : Stream) → HasRead stream stream
same_read stream = record { since = []; bytes = refl; read = omega arith; closed = refl }

behind_read : (stream : Stream) (rest : List ℕ) → TakenOff stream.bytes rest → HasRead stream (behind rest stream)
behind_read stream rest off =
    record {
      since = off.front;
      bytes = off.joined;
      read =
          read_since stream.read off.front rest stream.bytes off.joined;
      closed = refl;
    }

moved_streams : (w : World) (own : Side) (number : ℕ) (rest : List ℕ) (s : Standing) →
    TakenOff (stream_of own w.unread).bytes rest → (side : Side)
    → HasRead (stream_of side w.unread) (stream_of side (moved w own number rest s).unread)
moved_streams w Client number rest s off Client = behind_read w.unread.client rest off
moved_streams w Client number rest s off Server = same_read w.unread.server
moved_streams w Server number rest s off Client = same_read w.unread.client
moved_streams w Server number rest s off Server = behind_read w.unread.server rest off

four_less : (bytes rest : List ℕ) → TakenOff bytes rest → length rest + 4 ≤ length bytes
four_less bytes rest off = let e = off.joined in let h = off.header in grind (arith, common_steps)

moved_takes : (w : World) (own : Side) (number : ℕ) (rest : List ℕ) (s : Standing) →
    TakenOff (stream_of own w.unread).bytes rest
    → unread_length (moved w own number rest s) + 4 ≤ unread_length w
moved_takes w Client number rest s off = let h = four_less w.unread.client.bytes rest off in omega arith
moved_takes w Server number rest s off = let h = four_less w.unread.server.bytes rest off in omega arith

-- ---- whichever is due

fits_in : (a b : ℕ) → nat_le a b ≡ true → a ≤ b
fits_in a b h = grind (arith, nat_tests)

room_goes : (w : World) (own : Side) (number : ℕ) (rest : List ℕ) (event : Event) (s : Standing)
    (fits : Bool) → nat_le (kept (numbered own number s)) (room_to_keep w.limits) ≡ fits
    → TakenOff (stream_of own w.unread).bytes rest → Goes w (by_room fits w own event (moved w own number rest s))
room_goes w own number rest event s true e off = record {
  limits = refl;
  keeps = fits_in (kept (numbered own number s)) (room_to_keep w.limits) e;
  takes = moved_takes w own number rest s off;
  streams = moved_streams w own number rest s off;
}
room_goes w own number rest event s false e off = refl

event_goes : (w : World) (own : Side) (number : ℕ) (rest : List ℕ) (event : Event) (s : Standing) →
    TakenOff (stream_of own w.unread).bytes rest
    → Goes w (leads_on w own event (moved w own number rest s))
event_goes w own number rest event s off =
    room_goes w own number rest event s
    (nat_le (kept (numbered own number s)) (room_to_keep w.limits)) refl off

said_goes : (w : World) (own : Side) (number : ℕ) (rest : List ℕ)
    (said : Result (Event × Standing) Fault) → TakenOff (stream_of own w.unread).bytes rest
    → Goes w (said_by w own number rest said)
said_goes w own number rest (Ok said) off = event_goes w own number rest said.0 said.1 off
said_goes w own number rest (Err fault) off = refl

farewell_goes : (w : World) (number : ℕ) (rest : List ℕ) (error : Reading ServerError) →
    TakenOff w.unread.server.bytes rest → Goes w (farewell w number rest error)
farewell_goes w number rest (Ok error) off =
    event_goes w Server number rest (Farewell error.0) (over reasons.Farewell w.standing) off
farewell_goes w number rest (Err e) off = refl

error_goes : (w : World) (fault : Fault) (number : ℕ) (rest : List ℕ) (error : Reading ServerError)
    (begins : Bool) → TakenOff w.unread.server.bytes rest
    → Goes w (by_error begins w fault number rest error)
error_goes w fault number rest error true off = farewell_goes w number rest error off
error_goes w fault number rest error false off = refl

words_go : (w : World) (found : Found) → IsTaken w.unread.server.bytes found → Goes w (words_by w found)
words_go w Short h = tt
words_go w TooLarge h = refl
words_go w (OutOfSync number) h = refl
words_go w (Whole payload number rest) h =
    error_goes w faults.Unasked number rest (early_error_at payload) (begins_error payload) h

number_goes : (w : World) (found : Found) (due : Bool) → IsTaken w.unread.server.bytes found →
    Goes w (by_number due w found)
number_goes w found true h = words_go w found h
number_goes w found false h = tt

end_goes : PacketLaws → (w : World) (ended : Bool) → Goes w (by_end ended w)
end_goes packets w true =
    let n = w.standing.number in
    let bytes = w.unread.server.bytes in
    number_goes w (first_packet w.limits.server n bytes) (has_number n bytes) (is_taken packets w.limits.server n bytes)
end_goes packets w false = tt

client_goes : PacketLaws → (w : World) (found : Found) → IsTaken w.unread.client.bytes found →
    Goes w (client_by w found)
client_goes packets w Short h = end_goes packets w w.unread.client.closed
client_goes packets w TooLarge h = refl
client_goes packets w (OutOfSync number) h = refl
client_goes packets w (Whole payload number rest) h = said_goes w Client number rest (step w.standing payload) h

server_goes : (w : World) (found : Found) → IsTaken w.unread.server.bytes found → Goes w (server_by w found)
server_goes w Short h = tt
server_goes w TooLarge h = refl
server_goes w (OutOfSync number) h = refl
server_goes w (Whole payload number rest) h = said_goes w Server number rest (step w.standing payload) h

either_goes : (w : World) (early : Bool) (found due : Found) → IsTaken w.unread.server.bytes found →
    IsTaken w.unread.server.bytes due → Goes w (by_early early w found due)
either_goes w true found due h k = words_go w found h
either_goes w false found due h k = server_goes w due k

turn_goes : PacketLaws → (w : World) (its : Option Side) → Goes w (next_by w its)
turn_goes packets w None = tt
turn_goes packets w (Some Client) =
    client_goes packets w (first_packet w.limits.client w.standing.number w.unread.client.bytes)
    (is_taken packets w.limits.client w.standing.number w.unread.client.bytes)
turn_goes packets w (Some Server) =
    let s = w.standing in
    let limit = w.limits.server in
    let bytes = w.unread.server.bytes in
    let early = slice_index_or bytes 3 0 in
    either_goes w (is_early s bytes) (first_packet limit early bytes)
    (first_packet limit s.number bytes) (is_taken packets limit early bytes)
    (is_taken packets limit s.number bytes)

pub next_goes : PacketLaws → (w : World) (event : Event) (mid : World) → next w ≡ Says event mid → Went w mid
next_goes packets w event mid q = subst (Goes w) q (turn_goes packets w (turn w.standing.phase))

pub next_goes-fails : PacketLaws → (w : World) (failure : Failure) → next w ≡ Fails failure →
    failure.byte ≡ (stream_of failure.side w.unread).read
next_goes-fails packets w failure q = subst (Goes w) q (turn_goes packets w (turn w.standing.phase))

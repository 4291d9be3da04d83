-- Which events may be put on a connection, in which packets, and what stands then.
-- MySQL: Client/Server Protocol, "Connection Lifecycle", "MySQL Packets" and "Sequence ID".
use Rattle.std.specs.Prelude.{◌≡◌, ℕ, ◌+◌, ◌≤◌, Bool, true, false, not, ◌&&◌, nat_lt, if◌then◌else◌}
use Rattle.std.specs.Prelude.{List, [], ◌∷◌, length, Option, Some, None, Ok, Err}
use Rattle.mysql_authentication.specs.Readings.{early_error_at}
use Rattle.mysql_wire.specs.FirstPacket.{first_packet, is_short}
use Rattle.mysql_fields.specs.Wire.{Reading}
use Rattle.mysql_server_packets.specs.Packets.{ServerError}
use Rattle.mysql_wire.specs.Framing.{framing, number_after}
use Rattle.mysql_connection_rules.specs.declared.fault.Fault.TheVariants as faults
use Rattle.mysql_connection_rules.specs.declared.reason.Reason.TheVariants as reasons
use Rattle.mysql_connection_rules.specs.declared.side.Side.{Side}
use Rattle.mysql_connection_rules.specs.declared.side.Side.TheVariants.{Client, Server}
use Rattle.mysql_connection_rules.specs.Events.{Event, side_of}
use Rattle.mysql_connection_rules.specs.Events.Event.{Farewell}
use Rattle.mysql_connection_rules.specs.Standing.{Standing, kept}
use Rattle.mysql_connection_rules.specs.Steps.{Step, over, step, turn}
use Rattle.mysql_connection_rules.specs.Streams.{Stream, World, begins_error, limit_of, numbered}
use Rattle.mysql_connection_rules.specs.Streams.{room_to_keep, stream_of, with_stream}

-- WHOSE AN EVENT IS

abbrev pub same_side : Side → Side → Bool
same_side Client Client = true
same_side Client Server = false
same_side Server Client = false
same_side Server Server = true

abbrev pub is_of : Side → Event → Bool
is_of side event = same_side side (side_of event)

-- WHETHER AN EVENT IS DUE

-- Nothing waits unread.
abbrev pub is_none : List ℕ → Bool
is_none [] = true
is_none (byte ∷ bytes) = false

-- The stream is open, and nothing of it waits unread: that would come first.
abbrev pub is_free : Stream → Bool
is_free stream = not stream.closed && is_none stream.bytes

abbrev pub is_turn : Side → Option Side → Bool
is_turn side None = false
is_turn side (Some its) = same_side side its

-- The client's stream has ended without a whole payload.
abbrev pub has_ended : World → Bool
has_ended w = w.unread.client.closed &&
    is_short (first_packet w.limits.client w.standing.number w.unread.client.bytes)

-- The server may say its last words: in place of an answer to the client's payload, whose packets
-- left a number below the one that is due; and where the client's payload won't come.
abbrev pub may_end : World → Option Side → Bool
may_end w None = false
may_end w (Some Client) = has_ended w
may_end w (Some Server) = w.standing.answers && nat_lt 0 w.standing.number

abbrev pub has_place : World → Event → Bool
has_place w (Farewell error) = may_end w (turn w.standing.phase)
has_place w event = is_turn (side_of event) (turn w.standing.phase)

abbrev pub is_due : World → Event → Bool
is_due w event = is_free (stream_of (side_of event) w.unread) && has_place w event

-- BY WHICH PAYLOAD AND PACKETS

abbrev pub words_at : Standing → Reading ServerError → Step
words_at s (Ok error) = Ok (Farewell error.0, over reasons.Farewell s)
words_at s (Err e) = Err faults.Unasked

abbrev pub words_step : Standing → List ℕ → Step
words_step s payload =
    if begins_error payload then words_at s (early_error_at payload) else Err faults.Unasked

-- What a payload says that is put for an event: last words as an error that nothing asked for, all
-- else by the table.
abbrev pub step_for : Event → Standing → List ℕ → Step
step_for (Farewell error) s payload = words_step s payload
step_for event s payload = step s payload

-- Last words in place of an answer are numbered from 0.
abbrev pub words_number : ℕ → Option Side → ℕ
words_number number (Some Server) = 0
words_number number its = number

-- The number of the first packet; all but last words goes on from the one that is due.
abbrev pub number_for : Event → Standing → ℕ
number_for (Farewell error) s = words_number s.number (turn s.phase)
number_for event s = s.number

-- The packets of the payload of an event that is put.
abbrev pub packets_for : Event → Standing → List ℕ → List ℕ
packets_for event s payload = framing payload (number_for event s)

-- A payload says an event that is due, it is within the limit of its side, and what is kept behind
-- it within its room.
pub record MayBePut (w : World) (event : Event) (payload : List ℕ) (after : Standing) : Type 0 where
  pub due : is_due w event ≡ true
  pub says : step_for event w.standing payload ≡ Ok (event, after)
  pub within : length payload ≤ limit_of (side_of event) w.limits
  pub keeps : kept after ≤ room_to_keep w.limits

-- WHAT A PUT LEAVES

-- So many bytes more of the stream were read.
abbrev pub passed : ℕ → Stream → Stream
passed count stream =
    record { read = stream.read + count; bytes = stream.bytes; closed = stream.closed }

-- The connection goes on behind these bytes of the side, behind which this number is due.
abbrev pub past : World → Side → ℕ → List ℕ → Standing → World
past w side number bytes after = record {
  limits = w.limits;
  standing = numbered side number after;
  unread = with_stream side (passed (length bytes) (stream_of side w.unread)) w.unread;
}

abbrev pub put_on : World → Event → List ℕ → Standing → World
put_on w event payload after =
    past w (side_of event) (number_after payload (number_for event w.standing))
    (packets_for event w.standing payload) after

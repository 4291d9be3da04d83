-- Two streams of packets, either of which may have ended, and the next event of them.
-- MySQL: Client/Server Protocol, "MySQL Packets", "Sequence ID" and "Connection Lifecycle".
use Rattle.std.specs.Prelude.{ℕ, ◌+◌, ◌-◌, Bool, true, false, not, ◌&&◌, ◌==◌, nat_le, nat_lt}
use Rattle.std.specs.Prelude.{if◌then◌else◌, bytes_eq, Option, Some, None, Result, Ok, Err}
use Rattle.std.specs.Prelude.{List, [], ◌∷◌, ◌++◌, length, slice_index_or, take}
use Rattle.mysql_authentication.specs.Readings.{early_error_at}
use Rattle.mysql_wire.specs.FirstPacket.{Found, OutOfSync, Short, TooLarge, Whole}
use Rattle.mysql_wire.specs.FirstPacket.{first_packet, framed}
use Rattle.mysql_const.specs.declared.capabilities.Capabilities.{Capabilities}
use Rattle.mysql_fields.specs.Wire.{Reading}
use Rattle.mysql_reply_events.specs.declared.fault.ReplyFault.TheVariants.{BadError}
use Rattle.mysql_server_packets.specs.Packets.{ServerError}
use Rattle.mysql_connection_rules.specs.declared.fault.Fault.{Fault}
use Rattle.mysql_connection_rules.specs.declared.fault.Fault.TheVariants as faults
use Rattle.mysql_connection_rules.specs.declared.limits.Limits.{Limits}
use Rattle.mysql_connection_rules.specs.declared.reason.Reason.TheVariants as reasons
use Rattle.mysql_connection_rules.specs.declared.side.Side.{Side}
use Rattle.mysql_connection_rules.specs.declared.side.Side.TheVariants.{Client, Server}
use Rattle.mysql_connection_rules.specs.Events.{Event}
use Rattle.mysql_connection_rules.specs.Events.Event.{Farewell}
use Rattle.mysql_connection_rules.specs.Standing.{Phase, Standing, at_first, kept, logged_in}
use Rattle.mysql_connection_rules.specs.Standing.Phase.{Command}
use Rattle.mysql_connection_rules.specs.Steps.{over, step, turn}

-- STREAMS

-- What is unread of a stream, behind so many bytes that were read; and whether no more comes.
pub record Stream : Type 0 where
  pub read : ℕ
  pub bytes : List ℕ
  pub closed : Bool

pub record Streams : Type 0 where
  pub client : Stream
  pub server : Stream

abbrev pub nothing_came : Stream
nothing_came = record { read = 0; bytes = []; closed = false }

abbrev pub no_bytes : Streams
no_bytes = record { client = nothing_came; server = nothing_came }

abbrev pub stream_of : Side → Streams → Stream
stream_of Client streams = streams.client
stream_of Server streams = streams.server

abbrev pub with_stream : Side → Stream → Streams → Streams
with_stream Client stream streams = record { client = stream; server = streams.server }
with_stream Server stream streams = record { client = streams.client; server = stream }

-- What may come of a stream.
pub data Coming : Type 0 where
  Piece : List ℕ → Coming
  End : Coming

abbrev pub grown : Coming → Stream → Stream
grown (Piece piece) stream =
    record { read = stream.read; bytes = stream.bytes ++ piece; closed = stream.closed }
grown End stream = record { read = stream.read; bytes = stream.bytes; closed = true }

abbrev pub grow : Side → Coming → Streams → Streams
grow side coming streams = with_stream side (grown coming (stream_of side streams)) streams

-- LIMITS

abbrev pub limit_of : Side → Limits → ℕ
limit_of Client limits = limits.client
limit_of Server limits = limits.server

-- Of a stream as much is held unread as the longest payload takes with its headers; what the limit
-- leaves beside both is for what is kept.
abbrev pub room : Side → Limits → ℕ
room side limits = framed (limit_of side limits)

abbrev pub room_to_keep : Limits → ℕ
room_to_keep limits = limits.held - (room Client limits + room Server limits)

-- THE WORLD OF A CONNECTION

-- The limits, what stands, and what is unread of both streams.
pub record World : Type 0 where
  pub limits : Limits
  pub standing : Standing
  pub unread : Streams

-- How a connection begins to be read: under these limits, where this stands.
pub record Beginning : Type 0 where
  pub limits : Limits
  pub first : Standing

-- From its first byte on.
abbrev pub from_greeting : Limits → Beginning
from_greeting limits = record { limits = limits; first = at_first }

-- Behind a login that was read or made elsewhere, by which these capabilities are in force.
abbrev pub from_login : Limits → Capabilities → Beginning
from_login limits capabilities = record { limits = limits; first = logged_in capabilities }

abbrev pub start : Beginning → Streams → World
start begun streams = record { limits = begun.limits; standing = begun.first; unread = streams }

abbrev pub come : Side → Coming → World → World
come side coming w =
    record { limits = w.limits; standing = w.standing; unread = grow side coming w.unread }

-- What is held: the unread bytes of both streams, and what is kept.
abbrev pub held : World → ℕ
held w = length w.unread.client.bytes + (length w.unread.server.bytes + kept w.standing)

-- THE NEXT EVENT

-- A fault, of a packet of this side that begins at this byte of its stream.
pub record Failure : Type 0 where
  pub side : Side
  pub byte : ℕ
  pub fault : Fault

-- Nothing yet, an event and what is left behind it, or a fault.
pub data Next : Type 0 where
  Waits : Next
  Says : Event → World → Next
  Fails : Failure → Next

abbrev pub fails : World → Side → Fault → Next
fails w side fault =
    Fails (record { side = side; byte = (stream_of side w.unread).read; fault = fault })

-- Of a stream these bytes are left.
abbrev pub behind : List ℕ → Stream → Stream
behind rest stream = record {
  read = stream.read + (length stream.bytes - length rest);
  bytes = rest;
  closed = stream.closed;
}

-- A command's packets are numbered from 0; whoever speaks next goes on from the number where the
-- other stopped.
abbrev pub number_in : Phase → ℕ → ℕ
number_in Command number = 0
number_in phase number = number

-- Who spoke last.
abbrev pub is_client : Side → Bool
is_client Client = true
is_client Server = false

abbrev pub numbered : Side → ℕ → Standing → Standing
numbered side number s = record s { number = number_in s.phase number; answers = is_client side }

-- Behind a packet of the side, behind which this number is due and these bytes are left.
abbrev pub moved : World → Side → ℕ → List ℕ → Standing → World
moved w side number rest s = record {
  limits = w.limits;
  standing = numbered side number s;
  unread = with_stream side (behind rest (stream_of side w.unread)) w.unread;
}

-- An event leads on where what is kept is within its room.
abbrev pub leads_on : World → Side → Event → World → Next
leads_on w side event new =
    if nat_le (kept new.standing) (room_to_keep w.limits) then Says event new
    else fails w side faults.Held

abbrev pub said_by : World → Side → ℕ → List ℕ → Result (Event × Standing) Fault → Next
said_by w side number rest (Ok said) = leads_on w side said.0 (moved w side number rest said.1)
said_by w side number rest (Err fault) = fails w side fault

-- LAST WORDS

abbrev pub begins_error : List ℕ → Bool
begins_error payload = slice_index_or payload 0 0 == 255

-- An error without a question ends the connection.
abbrev pub farewell : World → ℕ → List ℕ → Reading ServerError → Next
farewell w number rest (Ok error) =
    leads_on w Server (Farewell error.0)
    (moved w Server number rest (over reasons.Farewell w.standing))
farewell w number rest (Err e) = fails w Server (faults.BadReply BadError)

-- Its last words, or this fault.
abbrev pub words_or : World → Fault → List ℕ → ℕ → List ℕ → Next
words_or w fault payload number rest =
    if begins_error payload then farewell w number rest (early_error_at payload)
    else fails w Server fault

-- The server says an error where nothing asked for it, or what has no place.
abbrev pub words_by : World → Found → Next
words_by w Short = Waits
words_by w TooLarge = fails w Server faults.TooLarge
words_by w (OutOfSync number) = fails w Server (faults.OutOfSync number)
words_by w (Whole payload number rest) = words_or w faults.Unasked payload number rest

-- Behind the end of the client's stream: words with the number that was due of the client. Another
-- number answers what the client's stream lacks.
abbrev pub has_number : ℕ → List ℕ → Bool
has_number number bytes = nat_lt 3 (length bytes) && (slice_index_or bytes 3 0 == number)

abbrev pub words : World → Next
words w =
    if has_number w.standing.number w.unread.server.bytes
    then words_by w (first_packet w.limits.server w.standing.number w.unread.server.bytes)
    else Waits

-- A packet's first chunk has a byte, and it is ff.
abbrev pub has_no_bytes : List ℕ → Bool
has_no_bytes bytes = bytes_eq (take 3 bytes) (0 ∷ 0 ∷ 0 ∷ [])

abbrev pub carries_error : List ℕ → Bool
carries_error bytes = nat_lt 4 (length bytes) &&
    (not (has_no_bytes bytes) && (slice_index_or bytes 4 0 == 255))

-- In place of an answer: an error whose number is below the one that is due.
abbrev pub is_early : Standing → List ℕ → Bool
is_early s bytes = s.answers && (carries_error bytes && nat_lt (slice_index_or bytes 3 0) s.number)

-- BY WHOSE PAYLOAD IS DUE

abbrev pub server_by : World → Found → Next
server_by w Short = Waits
server_by w TooLarge = fails w Server faults.TooLarge
server_by w (OutOfSync number) = fails w Server (faults.OutOfSync number)
server_by w (Whole payload number rest) = said_by w Server number rest (step w.standing payload)

abbrev pub of_server : World → List ℕ → Next
of_server w bytes =
    if is_early w.standing bytes
    then words_by w (first_packet w.limits.server (slice_index_or bytes 3 0) bytes)
    else server_by w (first_packet w.limits.server w.standing.number bytes)

abbrev pub client_by : World → Found → Next
client_by w Short = if w.unread.client.closed then words w else Waits
client_by w TooLarge = fails w Client faults.TooLarge
client_by w (OutOfSync number) = fails w Client (faults.OutOfSync number)
client_by w (Whole payload number rest) = said_by w Client number rest (step w.standing payload)

abbrev pub next_by : World → Option Side → Next
next_by w None = Waits
next_by w (Some Client) =
    client_by w (first_packet w.limits.client w.standing.number w.unread.client.bytes)
next_by w (Some Server) = of_server w w.unread.server.bytes

abbrev pub next : World → Next
next w = next_by w (turn w.standing.phase)

-- The laws. Each is the contract of a function in src/laws.rt.
-- MySQL: Client/Server Protocol, "Connection Lifecycle", "MySQL Packets" and "Sequence ID".
use Rattle.std.specs.Prelude.{◌≡◌, ◌≤◌, ◌<◌, ℕ, ◌+◌, true, false, List, [], ◌∷◌, ◌++◌, ◌⊎◌, length}
use Rattle.std.specs.Prelude.{Some}
use Rattle.mysql_connection_rules.specs.declared.fault.Fault.TheVariants as faults
use Rattle.mysql_connection_rules.specs.declared.side.Side.{Side}
use Rattle.mysql_connection_rules.specs.declared.side.Side.TheVariants.{Client, Server}
use Rattle.mysql_connection_rules.specs.Events.{Event, side_of}
use Rattle.mysql_connection_rules.specs.Events.Event.{Farewell}
use Rattle.mysql_connection_rules.specs.Machines.{Had}
use Rattle.mysql_connection_rules.specs.Runs.{HasCome, IsFront, IsLast, IsRun, Runs}
use Rattle.mysql_server_packets.specs.Packets.{ServerError}
use Rattle.mysql_connection_rules.specs.Standing.{kept}
use Rattle.mysql_connection_rules.specs.Steps.{turn}
use Rattle.mysql_connection_rules.specs.Streams.{Beginning, End, Fails, Failure, Piece, Says, Stream, Streams}
use Rattle.mysql_connection_rules.specs.Streams.{Waits, World, come, grow, held, next, no_bytes}
use Rattle.mysql_connection_rules.specs.Streams.{room}
use Rattle.mysql_connection_rules.specs.Streams.{room_to_keep, start, stream_of}

-- ONE RUN

-- Any two streams have a run, and no other.
abbrev pub RunExists : Type 0
RunExists = (begun : Beginning) (streams : Streams) →
    (events : List Event) × (last : World) × IsRun begun streams events last

abbrev pub RunIsOne : Type 0
RunIsOne = (begun : Beginning) (streams : Streams) (events others : List Event) (last end : World) →
    IsRun begun streams events last → IsRun begun streams others end →
    (events ≡ others) × (last ≡ end)

-- Whatever pieces and ends of two streams came to a machine, in whatever order, and whenever events
-- were taken: those that were taken and those that are still there to take are the events of the
-- one run over the two streams, and end where it ends, a fault too.
abbrev pub PiecesAreTheRun : Type 0
PiecesAreTheRun = (begun : Beginning) (streams : Streams) (taken left events : List Event)
    (now last end : World) → Had begun streams taken now → Runs now left last →
    IsLast (next last) →
    IsRun begun streams events end → (taken ++ left ≡ events) × (last ≡ end)

-- FRONTS AND ENDS

-- The events of fronts of the streams are a front of the events; a fault of them is the whole
-- streams' fault, behind the same events.
abbrev pub FrontsReadOn : Type 0
FrontsReadOn = (begun : Beginning) (front whole : Streams) (events all : List Event)
    (last end : World) →
    HasCome front whole → IsRun begun front events last → IsRun begun whole all end →
    IsFront events all ×
    ((failure : Failure) → next last ≡ Fails failure →
    (events ≡ all) × (next end ≡ Fails failure))

-- The end of the client's stream adds last words of the server at most.
abbrev pub EndAddsLastWords : Type 0
EndAddsLastWords = (begun : Beginning) (streams : Streams) (events all : List Event)
    (last end : World) →
    streams.client.closed ≡ false → IsRun begun streams events last →
    IsRun begun (grow Client End streams) all end →
    (events ≡ all) ⊎ ((error : ServerError) × (all ≡ events ++ Farewell error ∷ []))

-- The end of the server's stream changes nothing.
abbrev pub ServersEndChangesNothing : Type 0
ServersEndChangesNothing = (begun : Beginning) (streams : Streams) (events all : List Event)
    (last end : World) → IsRun begun streams events last →
    IsRun begun (grow Server End streams) all end → (events ≡ all) × (come Server End last ≡ end)

-- Behind the server's last words nothing more is said.
abbrev pub LastWordsAreLast : Type 0
LastWordsAreLast = (old new : World) (error : ServerError) → next old ≡ Says (Farewell error) new →
    next new ≡ Waits

-- The server says what nothing asked for only once the client's stream has ended where the client's
-- payload is due.
abbrev pub UnaskedIsBehindTheEnd : Type 0
UnaskedIsBehindTheEnd = (w : World) (failure : Failure) → next w ≡ Fails failure →
    failure.fault ≡ faults.Unasked →
    (turn w.standing.phase ≡ Some Client) × (w.unread.client.closed ≡ true)

-- WHAT AN EVENT TAKES AND LEAVES

-- So many bytes of both streams are unread.
abbrev pub unread_length : World → ℕ
unread_length w = length w.unread.client.bytes + length w.unread.server.bytes

-- An event takes a header at least.
abbrev pub EventsTakeBytes : Type 0
EventsTakeBytes = (old new : World) (event : Event) → next old ≡ Says event new →
    unread_length new + 4 ≤ unread_length old

-- What was unread of a stream is what was read since, and what is unread now.
pub record HasRead (old new : Stream) : Type 0 where
  pub since : List ℕ
  pub bytes : since ++ new.bytes ≡ old.bytes
  pub read : new.read ≡ old.read + length since
  pub closed : new.closed ≡ old.closed

-- No byte is lost or read twice, and the count of bytes that were read is the place in the stream.
abbrev pub PositionsStay : Type 0
PositionsStay = (old new : World) (events : List Event) → Runs old events new → (side : Side) →
    HasRead (stream_of side old.unread) (stream_of side new.unread)

-- A fault is of the byte at which what is unread of its side begins.
abbrev pub FaultsAreOfTheirBytes : Type 0
FaultsAreOfTheirBytes = (w : World) (failure : Failure) → next w ≡ Fails failure →
    failure.byte ≡ (stream_of failure.side w.unread).read

-- LIMITS

-- Of each side no more is unread than it has room, and what is kept is within its own.
pub record WithinLimits (w : World) : Type 0 where
  pub client : length w.unread.client.bytes ≤ room Client w.limits
  pub server : length w.unread.server.bytes ≤ room Server w.limits
  pub kept : kept w.standing ≤ room_to_keep w.limits

-- At first no more is held than what is kept where it begins.
abbrev pub FreshIsWithinLimits : Type 0
FreshIsWithinLimits = (begun : Beginning) → kept begun.first ≤ room_to_keep begun.limits →
    WithinLimits (start begun no_bytes)

-- A piece that has room beside what is unread of its side leaves all within the limits.
abbrev pub PiecesStayWithinLimits : Type 0
PiecesStayWithinLimits = (w : World) (side : Side) (piece : List ℕ) → WithinLimits w →
    length (stream_of side w.unread).bytes + length piece ≤ room side w.limits →
    WithinLimits (come side (Piece piece) w)

-- So does the next event.
abbrev pub EventsStayWithinLimits : Type 0
EventsStayWithinLimits = (old new : World) (event : Event) → next old ≡ Says event new →
    WithinLimits old → WithinLimits new

-- Within the limits no more is held than they say, where this is the room of both sides at least.
abbrev pub HeldStays : Type 0
HeldStays = (w : World) → room Client w.limits + room Server w.limits ≤ w.limits.held →
    WithinLimits w → held w ≤ w.limits.held

-- TURNS

-- Where a side's payload is due and isn't there whole, there is room for more bytes of it.
abbrev pub TurnCanCome : Type 0
TurnCanCome = (w : World) (side : Side) → next w ≡ Waits → turn w.standing.phase ≡ Some side →
    length (stream_of side w.unread).bytes < room side w.limits

-- An event is of the side whose payload is due, or the server's last words.
abbrev pub EventsAreInTurn : Type 0
EventsAreInTurn = (old new : World) (event : Event) → next old ≡ Says event new →
    (turn old.standing.phase ≡ Some (side_of event)) ⊎
    ((error : ServerError) × (event ≡ Farewell error))

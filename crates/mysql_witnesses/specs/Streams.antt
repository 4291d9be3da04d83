-- What the definitions of a connection's streams exclude: its packets, their numbers, the limits, whose turn
-- it is, its faults and its end. MySQL: Client/Server Protocol, "MySQL Packets", "Sending More Than 16Mb",
-- "Sequence ID", "Connection Lifecycle", "Text Resultset Row", "COM_STATISTICS".
use Rattle.std.specs.Prelude.{◌≡◌, ◌+◌, ◌≤◌, ℕ, true, false, List, [], ◌∷◌, length, None, Some, Err}
use Rattle.mysql_commands.specs.Commands.{Ping}
use Rattle.mysql_connection_machine.specs.Endings.{ending_of}
use Rattle.mysql_connection_machine.specs.Endings.Ending.{Unread}
use Rattle.mysql_session_modes.specs.SessionModes.{unknown_mode}
use Rattle.mysql_connection_machine.specs.Machines.{Feeds, Machine, both_ended, failure_in, failure_view}
use Rattle.mysql_connection_machine.specs.Machines.{length_with, turn_in}
use Rattle.mysql_connection_machine.specs.declared.fault.ConnectionFault.{ConnectionFault}
use Rattle.mysql_connection_machine.specs.declared.fault.FeedRefusal.TheVariants as refusals
use Rattle.mysql_wire.specs.FirstPacket.{OutOfSync, Short, Whole, first_packet, packet_by}
use Rattle.mysql_connection_rules.specs.Events.{Event}
use Rattle.mysql_connection_rules.specs.Events.Event.{Asked}
use Rattle.mysql_connection_rules.specs.Standing as phases
use Rattle.mysql_connection_rules.specs.Standing.{InReply, Standing, logged_in}
use Rattle.mysql_connection_rules.specs.Standing.About.{Nothing}
use Rattle.mysql_connection_rules.specs.Steps.{reply_due}
use Rattle.mysql_connection_rules.specs.Streams.{Fails, Says, Stream, World, leads_on, next, nothing_came, numbered}
use Rattle.mysql_connection_rules.specs.Streams.{room}
use Rattle.mysql_connection_rules.specs.declared.fault.Fault.TheVariants.{Held}
use Rattle.mysql_connection_rules.specs.declared.side.Side.{Side}
use Rattle.mysql_connection_rules.specs.declared.side.Side.TheVariants.{Client}
use Rattle.mysql_connection_state.specs.declared.event.Event.{Event as HeldEvent}
use Rattle.mysql_handshake.specs.Capabilities.{both_words}
use Rattle.mysql_reply_events.specs.declared.context.ReplyKind.TheVariants.{Line}
use Rattle.mysql_wire.specs.Framing.{max_payload_len}

-- PACKETS

-- A payload stands behind the four bytes of its header, and the number behind its packet is one more.
-- Excluded: a row that is lent with a byte of its header, and one that stays at its number.
-- MySQL: Client/Server Protocol, "MySQL Packets" and "Sequence ID".
abbrev pub PayloadsStandBehindHeaders : Type 0
PayloadsStandBehindHeaders =
    first_packet 16 3 (2 ∷ 0 ∷ 0 ∷ 3 ∷ 1 ∷ 0x61 ∷ []) ≡ Whole (1 ∷ 0x61 ∷ []) 4 []

-- Behind a first chunk of 16777215 bytes the next one has the number 1. Excluded: a chunk whose number isn't
-- looked at. MySQL: Client/Server Protocol, "Sequence ID".
abbrev pub LaterChunksAreNumberedOn : Type 0
LaterChunksAreNumberedOn = packet_by 2 33554430 max_payload_len 1 (1 ∷ 0 ∷ 0 ∷ 5 ∷ 0x61 ∷ []) ≡ OutOfSync 5

-- A chunk of 16777215 bytes alone is less than a whole packet. Excluded: a packet that ends there, without
-- its empty last chunk. MySQL: Client/Server Protocol, "Sending More Than 16Mb".
abbrev pub FullChunksGoOn : Type 0
FullChunksGoOn = (bytes : List ℕ) → length bytes ≡ max_payload_len →
    first_packet max_payload_len 0 (255 ∷ 255 ∷ 255 ∷ 0 ∷ bytes) ≡ Short

-- NUMBERS

-- Whoever speaks behind a packet goes on from the number behind it, here 2 behind a payload of two chunks.
-- Excluded: a reply that is numbered from 1. MySQL: Client/Server Protocol, "Sequence ID".
abbrev pub RepliesAreNumberedOn : Type 0
RepliesAreNumberedOn = (s : Standing) (r : InReply) →
    (numbered Client 2 (record s { phase = phases.Reply r })).number ≡ 2

-- LIMITS

-- a world with this many bytes for what is kept
abbrev pub world_with : (kept : ℕ) → Standing → Stream → World
world_with kept s client = record {
  limits = record { client = 1; server = 1; held = 10 + kept };
  standing = s;
  unread = record { client = client; server = nothing_came };
}

-- a connection behind its login, on which this much is kept of statements
abbrev pub keeping : (size : ℕ) → Standing
keeping size = record (logged_in (both_words 0 0)) { statements = record { by_id = []; last = None; stored = size } }

-- Where one byte more is kept than the limit leaves, the connection fails there. Excluded: one that goes on.
-- MySQL: Client/Server Protocol, "Prepared Statements".
abbrev pub NoMoreIsKeptThanTheLimit : Type 0
NoMoreIsKeptThanTheLimit = (event : Event) →
    leads_on (world_with 0 (keeping 0) nothing_came) Client event (world_with 0 (keeping 1) nothing_came)
    ≡ Fails (record { side = Client; byte = 0; fault = Held })

-- A piece by which its side just fills its room isn't refused for want of room. Excluded: a feed that
-- answers Held there. MySQL: Client/Server Protocol, "MySQL Packets".
abbrev pub WhatFitsIsTaken : Type 0
WhatFitsIsTaken = (old new : Machine) (side : Side) (piece : List ℕ) →
    length_with side piece old ≤ room side old.world.limits → Feeds old side piece (Err refusals.Held) new → ⊥

-- EVENTS

-- a ping's packet
abbrev pub ping : List ℕ
ping = 1 ∷ 0 ∷ 0 ∷ 0 ∷ 0x0e ∷ []

-- what is unread of the client, behind so many bytes
abbrev pub client_unread : (read : ℕ) → List ℕ → Stream
client_unread read bytes = record { read = read; bytes = bytes; closed = false }

-- Of two commands that came together the second waits, unread. Excluded: a reader that loses it with the first.
-- MySQL: Client/Server Protocol, "Command Phase" and "Sequence ID".
abbrev pub PipelinedCommandsWait : Type 0
PipelinedCommandsWait = (new : World) →
    next (world_with 0 (keeping 0) (client_unread 0 (1 ∷ 0 ∷ 0 ∷ 0 ∷ 0x0e ∷ ping))) ≡ Says (Asked Ping) new →
    new.unread.client ≡ client_unread 5 ping

-- The turn goes by the fault and by what is due alone. Excluded: turns by what was fed, where it is the
-- server's as soon as a byte of the server waits. MySQL: Client/Server Protocol, "Connection Lifecycle".
abbrev pub TurnsAreOfPhases : Type 0
TurnsAreOfPhases = (m other : Machine) → m.failure ≡ other.failure →
    m.world.standing.phase ≡ other.world.standing.phase → turn_in m ≡ turn_in other

-- A fault that is answered is kept, of either side. Excluded: one of the server that is forgotten, behind
-- which later calls go on. MySQL: Client/Server Protocol, "Sequence ID".
abbrev pub FaultsAreKept : Type 0
FaultsAreKept = (fault : ConnectionFault) → failure_in {X = HeldEvent} (Err fault) ≡ Some (failure_view fault)

-- ENDS

-- the same world, of which these bytes of the server are unread
abbrev pub with_server : List ℕ → World → World
with_server bytes w = record w {
  unread = record { client = w.unread.client; server = record { read = 0; bytes = bytes; closed = false } };
}

-- where a client asked for a line
abbrev pub line_due : Standing
line_due = record (reply_due Line None Nothing (keeping 0)) { number = 1; answers = true }

-- Where both streams end behind a line that was asked for, and came, the line is unread. Excluded: an end that
-- says, as the client spoke last, that the server's packet isn't whole.
-- MySQL: Client/Server Protocol, "COM_STATISTICS".
abbrev pub WhatComesNextIsUnread : Type 0
WhatComesNextIsUnread = ending_of (both_ended (record {
  world = with_server (1 ∷ 0 ∷ 0 ∷ 1 ∷ 0x61 ∷ []) (world_with 0 line_due nothing_came);
  failure = None;
  row = None;
  mode = unknown_mode;
})) ≡ Unread

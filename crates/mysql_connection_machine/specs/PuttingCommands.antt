-- Commands that are put by their payloads, of which no event is made: words of the code's own.
-- MySQL: Client/Server Protocol, "Command Phase" and "MySQL Packets".
use Rattle.std.specs.Prelude.{◌≡◌, ◌≤◌, ℕ, true, List, drop, length, take, Option, Some, None, Ok}
use Rattle.mysql_connection_rules.specs.Puts.{is_free}
use Rattle.mysql_wire.specs.FirstPacket.{Whole}
use Rattle.mysql_connection_modes.specs.Modes.{is_plain}
use Rattle.mysql_connection_rules.specs.Events.{Event}
use Rattle.mysql_connection_rules.specs.Events.Event.{Asked}
use Rattle.mysql_connection_rules.specs.Standing as phases
use Rattle.mysql_connection_rules.specs.Standing.{Standing}
use Rattle.mysql_connection_rules.specs.Streams.{World}
use Rattle.mysql_connection_rules.specs.declared.side.Side.{Side}
use Rattle.mysql_connection_rules.specs.declared.side.Side.TheVariants.{Client}
use Rattle.mysql_connection_state.specs.Follows.{command_said}
use Rattle.mysql_connection_machine.specs.Machines.{LendingWorld}
use Rattle.mysql_connection_machine.specs.PuttingPackets.{first_of}
use Rattle.mysql_connection_machine.specs.PuttingPayloads.{PutsWithoutEvent}

-- What the payload of a command says.
abbrev pub command_event : Standing → List ℕ → Event
command_event s payload = Asked (command_said s payload)

-- A command is due, and the side is the one that says it.
pub record AwaitsCommandOf (w : World) (side : Side) : Type 0 where
  pub its : side ≡ Client
  pub free : is_free w.unread.client ≡ true
  pub phase : w.standing.phase ≡ phases.Command

-- So it is, and the payload holds no query that may have attributes.
abbrev pub IsPlainCommand : World → Side → List ℕ → Type 0
IsPlainCommand w side payload = AwaitsCommandOf w side × (is_plain w.standing payload ≡ true)

-- The command that stands first of packets was put, and so many bytes are its; or nothing has changed.
pub record PutsCommandBy (old : LendingWorld) (packets before : List ℕ) (used : ℕ) (new : LendingWorld)
    (behind : List ℕ) : Type 0 where
  pub payload : List ℕ
  pub number : ℕ
  pub found : first_of old.world.limits.client packets ≡ Whole payload number (drop used packets)
  pub header : 4 ≤ used
  pub within : used ≤ length packets
  pub stands : payload ≡ drop 4 (take used packets)
  pub phase : old.world.standing.phase ≡ phases.Command
  pub plain : is_plain old.world.standing payload ≡ true
  pub puts : PutsWithoutEvent old Client payload before (Ok tt) new behind

abbrev pub PutsFirstCommand : LendingWorld → List ℕ → (before : List ℕ) → Option ℕ → LendingWorld →
    (behind : List ℕ) → Type 0
PutsFirstCommand old packets before (Some used) new behind = PutsCommandBy old packets before used new behind
PutsFirstCommand old packets before None new behind = (old ≡ new) × (before ≡ behind)

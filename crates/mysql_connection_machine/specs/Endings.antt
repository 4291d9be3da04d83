-- How a connection stands once both of its streams have ended.
-- MySQL: Client/Server Protocol, "Connection Lifecycle".
use Rattle.std.specs.Prelude.{ℕ, Bool, true, false, ◌&&◌, ◌==◌, List, length, Option, Some, None}
use Rattle.std.specs.Prelude.{if◌then◌else◌, slice_index_or}
use Rattle.mysql_connection_rules.specs.declared.fault.Fault.TheVariants.{AfterQuit}
use Rattle.mysql_connection_rules.specs.declared.reason.Reason.{Reason}
use Rattle.mysql_connection_rules.specs.declared.reason.Reason.TheVariants as reasons
use Rattle.mysql_connection_rules.specs.declared.side.Side.{Side}
use Rattle.mysql_connection_rules.specs.declared.side.Side.TheVariants.{Client}
use Rattle.mysql_connection_rules.specs.Standing.{Standing}
use Rattle.mysql_connection_rules.specs.Steps.{turn}
use Rattle.mysql_connection_rules.specs.Streams.{Fails, Failure, Next, Says, Waits, World, is_early}
use Rattle.mysql_connection_rules.specs.Streams.{next}
use Rattle.mysql_connection_state.specs.Views.{plain_phase}
use Rattle.mysql_connection_state.specs.declared.phase.Phase.{Phase}
use Rattle.mysql_connection_state.specs.declared.phase.Phase.TheVariants as due
use Rattle.mysql_connection_machine.specs.Machines.{Machine, failure_view}
use Rattle.mysql_connection_machine.specs.declared.end.End.{End}
use Rattle.mysql_connection_machine.specs.declared.end.End.TheVariants as held

pub data Ending : Type 0 where
  -- What follows isn't read here.
  Over : Reason → Ending
  -- A command is due, and no byte is unread.
  Whole : Ending
  -- A packet of the side is due, and isn't whole.
  Unfinished : Side → Ending
  -- A fault was found.
  Failed : Failure → Ending
  -- An event or a fault comes next.
  Unread : Ending

abbrev pub end_view : End → Ending
end_view (held.Over reason) = Over reason
end_view held.Whole = Whole
end_view (held.Unfinished side) = Unfinished side
end_view (held.Fault fault) = Failed (failure_view fault)
end_view held.Unread = Unread

abbrev pub is_empty : List ℕ → Bool
is_empty bytes = length bytes == 0

-- Behind a quit the client says no more.
abbrev pub over_ending : World → Reason → Ending
over_ending w reasons.Quit =
    if is_empty w.unread.client.bytes then Over reasons.Quit
    else Failed (record { side = Client; byte = w.unread.client.read; fault = AfterQuit })
over_ending w reason = Over reason

-- Somebody's payload is due where the connection isn't over.
abbrev pub unfinished : Option Side → Ending
unfinished (Some side) = Unfinished side
unfinished None = Whole

-- A connection that waits, by what is due and of whom.
abbrev pub waiting_ending : World → Phase → Option Side → Ending
waiting_ending w (due.Over reason) side = over_ending w reason
waiting_ending w due.Command side =
    if is_empty w.unread.client.bytes && is_empty w.unread.server.bytes then Whole
    else unfinished side
waiting_ending w phase side = unfinished side

abbrev pub is_waiting : Next → Bool
is_waiting Waits = true
is_waiting (Says event new) = false
is_waiting (Fails failure) = false

-- The number that the server's packet is read by: last words have their own.
abbrev pub server_number : Standing → List ℕ → ℕ
server_number s bytes = if is_early s bytes then slice_index_or bytes 3 0 else s.number

abbrev pub ending_by : World → Bool → Ending
ending_by w true = waiting_ending w (plain_phase w.standing.phase) (turn w.standing.phase)
ending_by w false = Unread

abbrev pub ending_with : World → Option Failure → Ending
ending_with w (Some failure) = Failed failure
ending_with w None = ending_by w (is_waiting (next w))

-- The ending of a machine whose streams have ended.
abbrev pub ending_of : Machine → Ending
ending_of m = ending_with m.world m.failure

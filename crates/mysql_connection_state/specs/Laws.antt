-- The law. It is the contract of a function in src/laws.rt.
-- MySQL: Client/Server Protocol, "Connection Lifecycle".
use Rattle.std.specs.Prelude.{◌≡◌, ℕ, List, Some, Ok, true}
use Rattle.mysql_connection_rules.specs.Puts.{has_place, step_for}
use Rattle.mysql_connection_rules.specs.Events.{Event, side_of}
use Rattle.mysql_connection_rules.specs.Standing.{Standing}
use Rattle.mysql_connection_rules.specs.Steps.{step, turn}
use Rattle.mysql_connection_rules.specs.Streams.{World}

-- An event is of the side whose turn it is, has its place there, and is put by the payload as it is read: it
-- is no last words.
pub record IsInTurn (w : World) (payload : List ℕ) (event : Event) (after : Standing) : Type 0 where
  pub its_turn : turn w.standing.phase ≡ Some (side_of event)
  pub place : has_place w event ≡ true
  pub put : step_for event w.standing payload ≡ Ok (event, after)

-- So is what the payload says that is due.
abbrev pub PayloadsAreInTurn : Type 0
PayloadsAreInTurn = (w : World) (payload : List ℕ) (event : Event) (after : Standing) →
    step w.standing payload ≡ Ok (event, after) → IsInTurn w payload event after

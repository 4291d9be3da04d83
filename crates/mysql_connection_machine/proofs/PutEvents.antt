-- What is put, by what was written of it.
use Rattle.std.proofs.Common.{◌<◌, ℕ, List, OnOk, Option, Some, None, Result, Ok, Err, refl, subst, sym}
use Rattle.mysql_connection_rules.specs.AgreementLaws.{PutsAreRead}
use Rattle.mysql_connection_rules.specs.PuttingMachines.{Puts}
use Rattle.mysql_connection_rules.specs.Puts.{packets_for}
use Rattle.mysql_connection_rules.specs.Refusals.{IsUnsaid, Written}
use Rattle.mysql_connection_rules.specs.Events.{Event, side_of}
use Rattle.mysql_connection_rules.specs.Streams.{World}
use Rattle.mysql_connection_writer.specs.Writes.{IsUnread, Says}
use Rattle.mysql_connection_machine.specs.Machines.{LendingWorld}
use Rattle.mysql_connection_machine.specs.Writing.{AppendsEvent, IsReadFrom, PutsEvent}
use Rattle.mysql_connection_machine.specs.declared.put_refusal.PutRefusal.{PutRefusal}

-- an event that isn't written says nothing there
pub unread_unsaid : (w : World) (event : Event) (found : Option (List ℕ)) →
    IsUnread (Says w.standing event) found → IsUnsaid w event found
unread_unsaid w event None unread = tt
unread_unsaid w event (Some payload) unread = λ after e. unread payload refl (after, e)

-- what was written is read, by the law
pub read_written : PutsAreRead → (old new : World) (event : Event) (payload before behind : List ℕ) →
    old.standing.number < 256 → Written old event payload new before behind →
    IsReadFrom old event before behind new
read_written law old new event payload before behind byte written =
    let bytes = packets_for event old.standing payload in (
      bytes,
      written.appended,
      subst (λ (w : World). Puts old event (side_of event) bytes w) (sym written.goes)
          (law old event payload written.after byte written.may),
    )

-- so is what was appended
pub read_from : PutsAreRead → (old new : World) (event : Event) (before behind : List ℕ) →
    old.standing.number < 256 → AppendsEvent old event new before behind →
    IsReadFrom old event before behind new
read_from law old new event before behind byte appends =
    read_written law old new event appends.0 before behind byte appends.2

-- so is what was put, by what the call answers
pub read_put : PutsAreRead → (old new : LendingWorld) (event : Event) (before behind : List ℕ)
    (result : Result (Unit {0}) PutRefusal) → old.world.standing.number < 256 →
    PutsEvent old event before result new behind →
    OnOk result (IsReadFrom old.world event before behind new.world)
read_put law old new event before behind (Ok done) byte puts =
    read_from law old.world new.world event before behind byte puts.0
read_put law old new event before behind (Err cause) byte puts = tt

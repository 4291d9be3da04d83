-- What is known behind a call, by what its last step told.
use Rattle.std.proofs.Common.{◌≡◌, Option, Result, Ok, Err, subst}
use Rattle.mysql_connection_rules.specs.Events.{Event}
use Rattle.mysql_connection_rules.specs.Events.Event.{Replied}
use Rattle.mysql_connection_rules.specs.Standing.{Standing}
use Rattle.mysql_reply_events.specs.Events.Event.{RowEvent}
use Rattle.mysql_rows.specs.Rows.{Row}
use Rattle.mysql_session_modes.specs.declared.session_mode.SessionMode.{SessionMode}
use Rattle.mysql_connection_machine.specs.Modes.{ModeTaken, event_put}
use Rattle.mysql_connection_machine.specs.declared.put_refusal.PutRefusal.{PutRefusal}

pub taken_known : (s held : Standing) (old mode new : SessionMode) (event : Option Event) → mode ≡ old → held ≡ s →
    ModeTaken held event mode new → ModeTaken s event old new
taken_known s held old mode new event e f h =
    subst (λ (m : SessionMode). ModeTaken s event m new) e (subst (λ (x : Standing). ModeTaken x event mode new) f h)

-- a row changes nothing of it
pub row_known : (s : Standing) (row : Row) (result : Result (Unit {0}) PutRefusal) (old new : SessionMode) → new ≡ old →
    ModeTaken s (event_put (Replied (RowEvent row)) result) old new
row_known s row (Ok done) old new e = e
row_known s row (Err cause) old new e = e

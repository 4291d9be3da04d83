-- Executions of values that a client puts by `put_execution`, and what its events show of them. The law is the
-- contract of a function in src/delivery_laws.rt. MySQL: Client/Server Protocol, "COM_STMT_EXECUTE"; MariaDB:
-- "COM_STMT_EXECUTE" ('Statement id').
use Rattle.std.specs.Prelude.{◌≡◌, ◌<◌, ℕ, Bool, true, false, not, ◌==◌, ◌||◌, if◌then◌else◌, List, [], ◌∷◌, ◌++◌}
use Rattle.std.specs.Prelude.{map, Ok}
use Rattle.std.specs.List.{flat_map, list_all}
use Rattle.mysql_cells.specs.declared.value.Value.{Value}
use Rattle.mysql_connection_contents.specs.Calls.{Call, Calls, Done, PutExecution, events_in}
use Rattle.mysql_connection_contents.specs.Contents.{is_id}
use Rattle.mysql_connection_contents.specs.Shown.{executed_in, executes}
use Rattle.mysql_connection_machine.specs.Machines.{Machine}
use Rattle.mysql_connection_rules.specs.Events.{Event}
use Rattle.mysql_connection_rules.specs.Events.Event.{Asked}
use Rattle.mysql_connection_rules.specs.Runs.{IsFront}
use Rattle.mysql_connection_statements.specs.Statements.{last_prepared}
use Rattle.mysql_values.specs.Values.{content_of}

-- The values that a call put of the statement of this id: one set, or none.
abbrev pub values_put : ℕ → Call → List (List Value)
values_put id (PutExecution own values (Ok done)) = if own == id then values ∷ [] else []
values_put id call = []

-- All values that calls put so.
abbrev pub values_in : ℕ → List Done → List (List Value)
values_in id calls = flat_map (λ done. values_put id done.call) calls

-- An event executes the statement of this id, or whichever was prepared last.
abbrev pub names : ℕ → Event → Bool
names id (Asked command) = is_id (executes command) id || is_id (executes command) last_prepared
names id event = false

abbrev pub is_by_values : ℕ → Call → Bool
is_by_values id (PutExecution own values answer) = own == id
is_by_values id call = false

-- By `put_execution` alone a call executes the statement, if it does so at all.
abbrev pub executes_values : ℕ → Done → Bool
executes_values id done =
    is_by_values id done.call || list_all (λ event. not (names id event)) (done.took ++ done.put)

-- Where calls execute a statement by `put_execution` alone, its executions have the contents of the values:
-- all of them, in order, and nothing between.
abbrev pub PutValuesAreExecuted : Type 0
PutValuesAreExecuted = (old new : Machine) (calls : List Done) (before : List Event) (id : ℕ) →
    Calls old calls new → id < last_prepared → list_all (executes_values id) calls ≡ true →
    executed_in id before (events_in calls) ≡ map (map content_of) (values_in id calls)

-- So it is in a list of events, where the calls' events begin it: of each span of calls.
abbrev pub ShowsValues : List Done → List Event → Type 0
ShowsValues calls events = (before span rest : List Done) (id : ℕ) → calls ≡ before ++ (span ++ rest) →
    id < last_prepared → list_all (executes_values id) span ≡ true →
    IsFront (events_in before ++ events_in span) events ×
    (executed_in id (events_in before) (events_in span) ≡ map (map content_of) (values_in id span))

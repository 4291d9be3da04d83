-- What a call that puts packets of a query's sets answers.
-- MySQL: Client/Server Protocol, "COM_STMT_PREPARE Response" (num_params), "COM_STMT_EXECUTE".
use Rattle.std.specs.Prelude.{◌≡◌, ◌≢◌, ℕ, List, Option, Some, None, Result, Ok, Err}
use Rattle.std.specs.Option.{option_map}
use Rattle.mysql_connection_rules.specs.declared.side.Side.TheVariants.{Client}
use Rattle.mysql_connection_machine.specs.Machines.{Machine, statement_meant}
use Rattle.mysql_connection_machine.specs.PuttingPackets.{PutsPackets}
use Rattle.mysql_connection_machine.specs.declared.sets_refusal.SetsRefusal.{SetsRefusal}
use Rattle.mysql_connection_machine.specs.declared.sets_refusal.SetsRefusal.TheVariants as refusals

-- How many parameters the server counted of the statement that an id stands for.
abbrev pub parameters_counted : Machine → (id : ℕ) → Option ℕ
parameters_counted m id = option_map (λ s. s.parameters.count) (statement_meant m.world.standing.statements id)

-- Nothing changes, and nothing is appended.
abbrev pub AllStays : Machine → (before : List ℕ) → Machine → (behind : List ℕ) → Type 0
AllStays old before new behind = (new ≡ old) × (behind ≡ before)

-- Packets of sets are put, where the server counted as many parameters as the query has places; else all stays.
abbrev pub PutsSets : Machine → (id places : ℕ) → List ℕ → (before : List ℕ) → Result ℕ SetsRefusal → Machine →
    (behind : List ℕ) → Type 0
PutsSets old id places packets before (Ok used) new behind =
    (parameters_counted old id ≡ Some places) × PutsPackets old Client packets before (Ok used) new behind
PutsSets old id places packets before (Err refusals.UnknownStatement) new behind =
    (parameters_counted old id ≡ None) × AllStays old before new behind
PutsSets old id places packets before (Err (refusals.WrongCount count)) new behind =
    (parameters_counted old id ≡ Some count) × (count ≢ places) × AllStays old before new behind
PutsSets old id places packets before (Err (refusals.Packets refusal)) new behind =
    (parameters_counted old id ≡ Some places) × PutsPackets old Client packets before (Err refusal) new behind

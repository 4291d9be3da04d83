-- Executions: what the steps of sending promise.
-- MySQL: Client/Server Protocol, "COM_STMT_SEND_LONG_DATA", "COM_STMT_EXECUTE".
use Rattle.std.specs.Prelude.{◌≡◌, ◌⊎◌, ◌-◌, ℕ, false, List, [], ◌∷◌, ◌++◌, length, map, Some, None, Ok}
use Rattle.std.specs.Prelude.{if◌then◌else◌}
use Rattle.std.specs.List.{AllByRecursion, flat_map}
use Rattle.mysql_wire.specs.Stream.{framings}
use Rattle.mysql_wire.specs.Stream.Numbering.{EachFromZero}
use Rattle.mysql_values.specs.Values.{FitsFields}
use Rattle.mysql_values.specs.Value.{Value}
use Rattle.mysql_values.specs.declared.params.ParamsError.{ParamsError}
use Rattle.mysql_values.specs.declared.params.ParamsError.TheVariants as params_error
use Rattle.mysql_values.specs.declared.params.SetError.TheVariants as set_error
use Rattle.mysql_values.specs.Place.{Place}
use Rattle.mysql_stmt.specs.Executions.{execute_command, needs_long_data}
use Rattle.mysql_command_rules.specs.declared.refusal.Refusal.{Refusal}
use Rattle.mysql_command_rules.specs.declared.refusal.Refusal.TheVariants as refusals
use Rattle.mysql_command_rules.specs.Commands.{pieces_from}
use Rattle.mysql_command_rules.specs.Cause.{first_of_sets, set_cause}

-- the refusal of a set that gives no values
abbrev pub refusal_of : ℕ → ParamsError → Refusal
refusal_of set params_error.Memory = refusals.Memory
refusal_of set (params_error.Missing name) = refusals.Params set (set_error.Params (params_error.Missing name))
refusal_of set (params_error.Confusion confusion) =
    refusals.Params set (set_error.Params (params_error.Confusion confusion))

-- what a set has to meet: so many placeholders, and payloads of at most so many bytes
pub record Limits : Type 0 where
  pub places : ℕ
  pub bytes : ℕ

-- the limits for a query with these placeholders: a packet has four bytes beside its payload
abbrev pub limits_of : List Place → ℕ → Limits
limits_of places limit = record { places = length places; bytes = limit - 4 }

-- an execution that holds all cells, by which the set's size counts
abbrev pub whole_execution : ℕ → List Value → List ℕ
whole_execution id values = execute_command id values false

-- what is sent of a set as an execution: before it, where it would exceed one packet's most bytes, its byte strings
abbrev pub execution_payloads : ℕ → List Value → List (List ℕ)
execution_payloads id values = (if needs_long_data values then pieces_from id 0 values else []) ++
    execute_command id values (needs_long_data values) ∷ []

-- the execution of the set of this number is appended: nothing speaks against its values, whose
-- numbers fit their fields
pub record AppendsExecution (id : ℕ) (limits : Limits) (set : ℕ) (values : List Value)
    (old new : List ℕ) : Type 0 where
  pub none : set_cause (whole_execution id) limits.places limits.bytes set (Ok values) ≡ None
  pub fit : AllByRecursion (λ value. FitsFields value) values
  pub appended : new ≡ old ++ framings (execution_payloads id values) EachFromZero

-- Memory, or the first cause that speaks against these values
abbrev pub RefusesExecution : ℕ → Limits → ℕ → List Value → Refusal → Type 0
RefusesExecution id limits set values refusal = (refusal ≡ refusals.Memory) ⊎
    (set_cause (whole_execution id) limits.places limits.bytes set (Ok values) ≡ Some refusal)

-- the executions of sets of values are appended, of which the first has this number: nothing speaks
-- against any, and the numbers of all values fit their fields
pub record AppendsMore (id : ℕ) (limits : Limits) (first : ℕ) (sets : List (List Value))
    (old new : List ℕ) : Type 0 where
  pub none : first_of_sets (set_cause (whole_execution id) limits.places limits.bytes) first (map Ok sets) ≡ None
  pub fit : AllByRecursion (λ set. AllByRecursion (λ value. FitsFields value) set) sets
  pub appended : new ≡ old ++ framings (flat_map (execution_payloads id) sets) EachFromZero

-- Memory, or the first cause that speaks against one of them
abbrev pub RefusesMore : ℕ → Limits → ℕ → List (List Value) → Refusal → Type 0
RefusesMore id limits first sets refusal = (refusal ≡ refusals.Memory) ⊎
    (first_of_sets (set_cause (whole_execution id) limits.places limits.bytes) first (map Ok sets) ≡
    Some refusal)

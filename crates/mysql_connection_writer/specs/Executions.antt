-- Executions of values: with types where those in force won't do.
-- MySQL: Client/Server Protocol, "COM_STMT_EXECUTE" (new_params_bind_flag, parameter_type).
use Rattle.std.specs.Prelude.{◌≡◌, ℕ, Bool, true, false, List, [], ◌++◌, length, map, take, if◌then◌else◌}
use Rattle.std.specs.Prelude.{Option, Some, Result, Ok, Err}
use Rattle.std.specs.declared.alloc.AllocError.{AllocError}
use Rattle.mysql_cells.specs.declared.value.Value.{Value}
use Rattle.mysql_cells.specs.Cells.{is_unsigned, type_of}
use Rattle.mysql_command_writer.specs.Refusals.{can_execute}
use Rattle.mysql_commands.specs.Commands.{Execute}
use Rattle.mysql_connection_rules.specs.Puts.{step_for}
use Rattle.mysql_connection_rules.specs.Events.{Event}
use Rattle.mysql_connection_rules.specs.Events.Event.{Asked}
use Rattle.mysql_connection_rules.specs.Standing.{Standing}
use Rattle.mysql_connection_statements.specs.Statements.{Statement}
use Rattle.mysql_connection_state.specs.Follows.{after_settled}
use Rattle.mysql_const.specs.declared.capabilities.Capabilities.{Capabilities}
use Rattle.mysql_execution_writer.specs.Cells.{as_read}
use Rattle.mysql_execution_writer.specs.InForce.{without_types}
use Rattle.mysql_executions.specs.Executions.{Execution}
use Rattle.mysql_executions.specs.InForce.{InForce}
use Rattle.mysql_executions.specs.declared.types.BoundType.{BoundType}
use Rattle.mysql_executions.specs.declared.types.ParameterType.{ParameterType}
use Rattle.mysql_connection_writer.specs.Commands.{parameters_of}
use Rattle.mysql_connection_writer.specs.Payloads.{Payload, payload_of}

-- THE TYPE THAT A VALUE HAS ITSELF

abbrev pub own_type : Value → ParameterType
own_type value = record { column_type = type_of value; unsigned = is_unsigned value }

-- Of a parameter without a name.
abbrev pub bound_to : Value → BoundType
bound_to value = record { parameter_type = own_type value; name = [] }

-- THE EXECUTION OF VALUES, each as it is read: by the types in force where each has a cell by them,
-- else with their own.
abbrev pub execution_by : Capabilities → Option InForce → (id : ℕ) → List Value → Execution
execution_by capabilities parameters id values =
    let e = without_types id (map as_read values) in
    if can_execute capabilities parameters e then e else record e { types = Some (map bound_to values) }

abbrev pub execution_said : Standing → (id : ℕ) → List Value → Event
execution_said s id values =
    Asked (Execute (execution_by s.capabilities (parameters_of s.statements (Some id)) id values))

-- The payload of an execution of values was appended, which says it, and behind which only its reply
-- is due; or nothing is said of the values, and what stood before stands in front.
abbrev pub WritesExecution : Standing → Statement → (id : ℕ) → List Value → (old new : List ℕ) →
    Result Bool AllocError → Type 0
WritesExecution s statement id values old new (Ok true) = (payload : Payload) ×
    (payload_of s (execution_said s id values) ≡ Some payload) × (new ≡ old ++ payload) ×
    (step_for (execution_said s id values) s payload ≡
    Ok (execution_said s id values, after_settled id statement.columns s))
WritesExecution s statement id values old new (Ok false) = take (length old) new ≡ old
WritesExecution s statement id values old new (Err refused) = take (length old) new ≡ old

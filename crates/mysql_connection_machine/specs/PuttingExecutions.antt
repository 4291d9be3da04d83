-- Executions of values that are put.
-- MySQL: Client/Server Protocol, "COM_STMT_EXECUTE".
use Rattle.std.specs.Prelude.{◌≡◌, ◌≤◌, ℕ, List, ◌++◌, length, take, Option, Some, None, Result, Ok, Err}
use Rattle.std.specs.Option.{option_map}
use Rattle.std.specs.declared.alloc.AllocError.{AllocError}
use Rattle.mysql_cells.specs.declared.value.Value.{Value}
use Rattle.mysql_connection_rules.specs.Puts.{step_for}
use Rattle.mysql_connection_rules.specs.Standing.{Standing}
use Rattle.mysql_connection_state.specs.Follows.{after_settled}
use Rattle.mysql_connection_writer.specs.Executions.{execution_said}
use Rattle.mysql_connection_writer.specs.Payloads.{payload_of}
use Rattle.mysql_rows.specs.Views.{shared_columns}
use Rattle.mysql_wire.specs.Framing.{framing, number_after}
use Rattle.mysql_connection_machine.specs.Machines.{Machine}
use Rattle.mysql_connection_machine.specs.Writing.{PutsOn}
use Rattle.mysql_connection_machine.specs.declared.put_refusal.PutRefusal.{PutRefusal}
use Rattle.mysql_connection_machine.specs.declared.putting_executions.Executed.{Executed}

-- The packets of an execution of values were appended, behind which all stands as it did, but that its reply is due, by
-- these columns, and this number; or the buffer begins as it did.
abbrev pub AppendsExecution : Standing → (limit id : ℕ) → List Value → List ℕ →
    Result (Option Executed) AllocError → List ℕ → Type 0
AppendsExecution s limit id values before (Ok (Some executed)) behind = (payload : List ℕ) ×
    (payload_of s (execution_said s id values) ≡ Some payload) ×
    (step_for (execution_said s id values) s payload ≡
    Ok (execution_said s id values, after_settled id (option_map shared_columns executed.columns) s)) ×
    (length payload ≤ limit) × (behind ≡ before ++ framing payload s.number) ×
    (executed.next ≡ number_after payload s.number)
AppendsExecution s limit id values before (Ok None) behind = take (length before) behind ≡ before
AppendsExecution s limit id values before (Err refused) behind = take (length before) behind ≡ before

-- An execution of values is put on a machine that has found no fault.
abbrev pub PutsExecutionOn : Machine → (id : ℕ) → List Value → List ℕ → Result (Unit {0}) PutRefusal →
    Machine → List ℕ → Type 0
PutsExecutionOn old id values before result new behind =
    PutsOn old (execution_said old.world.standing id values) before result new behind

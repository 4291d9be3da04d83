-- What a call says that appends the payload of an execution of a set's values.
-- MySQL: Client/Server Protocol, "COM_STMT_EXECUTE".
use Rattle.std.specs.Prelude.{◌≡◌, ◌⊎◌, ◌<◌, ◌≤◌, ℕ, List, ◌++◌, MatchOption, false, length}
use Rattle.mysql_cells.specs.declared.value.Value.{Value}
use Rattle.mysql_stmt.specs.Executions.{execute_command}
use Rattle.mysql_c_handles.specs.declared.code.Code.TheVariants.{Done, Memory, TooManyPlaces}
use Rattle.mysql_c_handles.specs.declared.object.Object.{Object}
use Rattle.mysql_c_handles.specs.declared.object.Object.TheVariants as object
use Rattle.mysql_c_handles.specs.Bytes.{IsBytes}
use Rattle.mysql_c_handles.specs.Codes.{Stays, code_number}
use Rattle.mysql_c_handles.specs.Sets.{unheld_code, values_held}

-- The execution of the statement with these values stands behind the old bytes. Or these stay: there
-- are more values than an execution has, or memory was refused.
abbrev pub PutsExecution : ℕ → List Value → List ℕ → ℕ → List ℕ → Type 0
PutsExecution id values old number new =
    ((number ≡ code_number Done) × (length values ≤ 65535) × (new ≡ old ++ execute_command id values false))
    ⊎ ((number ≡ code_number Memory) × (length values ≤ 65535) × (new ≡ old))
    ⊎ ((number ≡ code_number TooManyPlaces) × (65535 < length values) × (new ≡ old))

-- the execution is appended to the bytes that a handle stands for, or these stay
abbrev pub PutsExecutionTo : ℕ → List Value → Object → ℕ → Object → Type 0
PutsExecutionTo id values (object.Bytes old) number new = IsBytes new (PutsExecution id values old.items number)
PutsExecutionTo id values held number new = Stays held number new

-- the execution of the set of this number, which the other handle's object holds; or the bytes stay
abbrev pub PutsExecutionFrom : ℕ → Object → ℕ → Object → ℕ → Object → Type 0
PutsExecutionFrom id held set old number new =
    MatchOption (values_held held set) ((number ≡ code_number (unheld_code held)) × (new ≡ old))
    (λ values. PutsExecutionTo id values old number new)

-- Executions of values that carry no types: those in force count.
-- MySQL: Client/Server Protocol, "COM_STMT_EXECUTE" (new_params_bind_flag).
use Rattle.std.specs.Prelude.{◌≡◌, ℕ, Bool, true, false, List, [], ◌∷◌, ◌++◌, length, take, None, Result, Ok, Err}
use Rattle.std.specs.declared.alloc.AllocError.{AllocError}
use Rattle.byteorder.specs.Endian.{little_bytes}
use Rattle.mysql_cells.specs.declared.value.Value.{Value}
use Rattle.mysql_const.specs.declared.capabilities.Capabilities.{Capabilities}
use Rattle.mysql_executions.specs.Executions.{Execution}
use Rattle.mysql_executions.specs.InForce.{InForce}
use Rattle.mysql_execution_writer.specs.Written.{can_be_put, execution_as_read, execution_bytes}

-- An execution without a cursor and without attributes, of one iteration.
abbrev pub without_types : (id : ℕ) → List Value → Execution
without_types id values = record {
  statement = id;
  cursor = record { 0 = 0 };
  count_available = false;
  nameless_flags = 0;
  iterations = 1;
  types = None;
  parameters = values;
  attributes = [];
  rest = [];
}

-- Values are as many as the types in force, of a statement that isn't broken, for which no long data
-- waits.
abbrev pub FitsTypes : InForce → List Value → Type 0
FitsTypes s values = (s.broken ≡ false) × (s.long_data ≡ []) × (length s.types ≡ s.count) × (length values ≡ s.count)

-- What stands in front of its values: the command's number, the statement's id, no flags, one iteration.
abbrev pub head_bytes : (id : ℕ) → List ℕ
head_bytes id = 0x17 ∷ little_bytes 4 id ++ (little_bytes 1 0 ++ little_bytes 4 1)

-- It can be written, each value is read as itself, and its command was appended. Or nothing is said of
-- the values, and what stood before stands in front.
abbrev pub PutsInForce : Capabilities → InForce → (id : ℕ) → List Value → (old new : List ℕ) →
    Result Bool AllocError → Type 0
PutsInForce capabilities s id values old new (Ok true) =
    let e = without_types id values in
    (can_be_put capabilities s e ≡ true) × (execution_as_read e ≡ e) ×
    (new ≡ old ++ 0x17 ∷ execution_bytes capabilities s e)
PutsInForce capabilities s id values old new (Ok false) = take (length old) new ≡ old
PutsInForce capabilities s id values old new (Err refused) = take (length old) new ≡ old

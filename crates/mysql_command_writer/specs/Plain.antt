-- Words of the crate's own body: commands without values, and a query behind attributes.
use Rattle.std.specs.Prelude.{◌≡◌, ◌≢◌, ℕ, true, false, List, ◌∷◌, ◌++◌, Result, Ok, Err}
use Rattle.mysql_commands.specs.Commands.{BulkExecute, Command, Execute, Query}
use Rattle.mysql_execution_writer.specs.Cells.{are_attributes}
use Rattle.mysql_execution_writer.specs.Written.{query_attributes_bytes}
use Rattle.mysql_executions.specs.declared.types.Attribute.{Attribute}
use Rattle.mysql_command_writer.specs.declared.refusal.CommandRefusal.{CommandRefusal}
use Rattle.mysql_command_writer.specs.declared.refusal.CommandRefusal.TheVariants.{Memory, ReadsOtherwise}

-- neither a query, nor an execution
abbrev pub IsPlain : Command → Type 0
IsPlain (Query attributes sql) = ⊥
IsPlain (Execute execution) = ⊥
IsPlain (BulkExecute execution) = ⊥
IsPlain command = Unit {0}

-- a query was appended behind its attributes, which can be written; or nothing was, since they can't or for want of
-- memory
abbrev pub PutsAttributed : List Attribute → List ℕ → List ℕ → List ℕ → Result (Unit {0}) CommandRefusal → Type 0
PutsAttributed attributes sql old new (Ok done) =
    (new ≡ old ++ (3 ∷ query_attributes_bytes attributes ++ sql)) × (are_attributes true attributes ≡ true)
PutsAttributed attributes sql old new (Err e) =
    (new ≡ old) × (e ≢ Memory → (e ≡ ReadsOtherwise) × (are_attributes true attributes ≡ false))

-- What is in force behind executions that are sent.
use Rattle.std.proofs.Common.{◌≡◌, ℕ, Bool, true, List, None, refl}
use Rattle.mysql_values.specs.Value.{Value}
use Rattle.mysql_stmt.specs.Executions.{execute_command, execution}
use Rattle.mysql_receive.specs.InForce.{StatementState, after}
use Rattle.mysql_receive.specs.Query.{Statement}

-- the statement is prepared, and nothing waits for its places
pub record IsReady (s : StatementState) : Type 0 where
  pub prepared : s.prepared ≡ true
  pub none : (place : ℕ) → s.long_data place ≡ None

-- behind an execution nothing waits, and the statement is prepared if it was
pub execution_leaves : (c : Statement) (s : StatementState) (id : ℕ) (values : List Value)
    (apart : Bool) → s.prepared ≡ true → IsReady (after c s (execute_command id values apart))
unfolding execution
execution_leaves c s id values apart prepared = record { prepared = prepared; none = λ place. refl }

-- Statements of which an execution that carries no types leaves all as it is.
-- MySQL: Client/Server Protocol, "COM_STMT_EXECUTE" (new_params_bind_flag).
use Rattle.std.specs.Prelude.{◌≡◌, ℕ, [], Some, None}
use Rattle.mysql_executions.specs.declared.refused.Refused.{Refused}
use Rattle.mysql_connection_statements.specs.Statements.{Statement, Statements, executed, pending_of}
use Rattle.mysql_connection_statements.specs.Statements.{resolved, statement_at}
use Rattle.mysql_connection_statements.specs.Statements.{with_statement}

-- The statement stays as it is, and an error has nothing to take back.
abbrev pub IsSettled : Statement → Type 0
IsSettled statement = (executed [] statement ≡ statement) ×
    ((id : ℕ) (refused : Refused) → pending_of id refused [] statement ≡ None)

-- So it is of the statement of this id, and what is kept of all stays as it is.
abbrev pub IsSettledAt : Statements → ℕ → Statement → Type 0
IsSettledAt s id statement =
    (resolved s id ≡ Some id) × (statement_at s id ≡ Some statement) × IsSettled statement ×
    (with_statement id statement s ≡ s)

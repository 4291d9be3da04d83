-- An execution that was put: what stands behind it, and what is kept then.
use Rattle.std.proofs.Common.{◌≡◌, ℕ, ◌+◌, List, Option, Some, None, sym, ap, ◌∙◌, arith}
use Rattle.std.specs.Option.{option_and_then}
use Rattle.mysql_connection_rules.specs.Standing.{Standing, about_size, kept}
use Rattle.mysql_connection_rules.specs.Steps.{about_execution, after_executing}
use Rattle.mysql_connection_statements.specs.Statements.{Statement, Statements, change_at, changed, executed}
use Rattle.mysql_connection_statements.specs.Statements.{pending_of, statement_at, waiting_size, with_statement}
use Rattle.mysql_connection_statements.specs.declared.pending.Pending.{Pending}
use Rattle.mysql_executions.specs.declared.refused.Refused.{Refused}
use Rattle.mysql_executions.specs.declared.types.BoundType.{BoundType}

by_pending : (s : Statements) (id : ℕ) (pending : Option Pending) →
    s.stored + waiting_size s pending ≡
    s.stored + (0 + (0 + about_size s (about_execution id pending)))
by_pending s id None = omega arith
by_pending s id (Some p) = omega arith

-- that is what is kept behind it
pub kept_executing : (s : Standing) (id : ℕ) (statement : Statement) (refused : Refused)
    (types : List BoundType) → statement_at s.statements id ≡ Some statement →
    kept (after_executing id statement refused types s) ≡
    (change_at id (executed types) s.statements).stored +
    waiting_size (change_at id (executed types) s.statements)
    (option_and_then (pending_of id refused types) (statement_at s.statements id))
kept_executing s id statement refused types known =
    sym (ap (λ (found : Option Statement). (changed (executed types) id found s.statements).stored +
    waiting_size (changed (executed types) id found s.statements)
    (option_and_then (pending_of id refused types) found)) known ∙
    by_pending (with_statement id (executed types statement) s.statements) id
    (pending_of id refused types statement))

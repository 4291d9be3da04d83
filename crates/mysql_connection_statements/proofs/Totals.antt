-- How much is kept for all statements behind a change of one.
use Rattle.std.proofs.Common.{◌≡◌, ℕ, ◌+◌, ◌-◌, Bool, true, false, if◌then◌else◌, List, Option, Some, None, refl, ap}
use Rattle.std.proofs.Common.{◌∙◌, sym, arith, ◌≤◌, OnErr, Result, Ok, Err}
use Rattle.std.specs.Option.{option_and_then}
use Rattle.std.specs.BTreeMap.{insert_entry}
use Rattle.std.specs.Ordering.{nat_cmp}
use Rattle.mysql_executions.specs.declared.refused.Refused.{Refused}
use Rattle.mysql_executions.specs.declared.types.BoundType.{BoundType}
use Rattle.mysql_connection_statements.proofs.Entries.{found_again}
use Rattle.mysql_connection_statements.specs.Statements.{Statement, Statements, change_at, changed, executed}
use Rattle.mysql_connection_statements.specs.Statements.{executing_size, has_nothing, more_before, pending_of}
use Rattle.mysql_connection_statements.specs.Statements.{statement_at, statement_size, stored_size, waiting_size}
use Rattle.mysql_connection_statements.specs.Statements.{with_statement}
use Rattle.mysql_connection_statements.specs.declared.pending.Pending.{Pending}

-- behind a change of a statement that is known
pub changed_stored : (s : Statements) (id : ℕ) (statement : Statement) (change : Statement → Statement) →
    Some statement ≡ statement_at s id →
    (change_at id change s).stored ≡ s.stored - statement_size statement + statement_size (change statement)
changed_stored s id statement change known =
    sym (ap (λ (found : Option Statement). (changed change id found s).stored) known)
    ∙ ap (λ (found : Option Statement). s.stored - stored_size found + statement_size (change statement)) (sym known)

-- behind two changes, of which the first put the statement there
pub changed_twice : (s : Statements) (id : ℕ) (first : Statement) (change : Statement → Statement) (last : Option ℕ) →
    (let put : Statements = record {
      by_id = insert_entry nat_cmp s.by_id id first;
      last =
          last;
      stored = s.stored - stored_size (statement_at s id) + statement_size first;
    } in
    change_at id change put).stored ≡ s.stored - stored_size (statement_at s id) + statement_size (change first)
changed_twice s id first change last =
    let put : Statements = record {
      by_id = insert_entry nat_cmp s.by_id id first;
      last =
          last;
      stored = s.stored - stored_size (statement_at s id) + statement_size first;
    } in
    let once = changed_stored put id first change (sym (found_again s.by_id id first)) in
    omega arith

by_broken : (s : Statements) (id : ℕ) (after : Statement) (p : Pending) (broken : Bool) → p.id ≡ id →
    (with_statement id after s).stored + waiting_size (with_statement id after s) (if broken then None else Some p)
    ≡ s.stored - stored_size (statement_at s id) + executing_size (if broken then None else Some p) after
by_broken s id after p true same = omega arith
by_broken s id after p false same =
    let found : statement_at (with_statement id after s) p.id ≡ Some after =
    ap (λ (n : ℕ). statement_at (with_statement id after s) n) same ∙ found_again s.by_id id after in
    let more = ap (more_before p) found in
    omega arith

-- until an execution is answered
pub executing_stored : (s : Statements) (id : ℕ) (statement : Statement) (refused : Refused) (types : List BoundType) →
    Some statement ≡ statement_at s id →
    (change_at id (executed types) s).stored + waiting_size (change_at id (executed types) s)
    (option_and_then (pending_of id refused types) (statement_at s id))
    ≡ s.stored - statement_size statement + executing_size (pending_of id refused types statement)
    (executed types statement)
executing_stored s id statement refused types known =
    sym (ap (λ (found : Option Statement). (changed (executed types) id found s).stored +
    waiting_size (changed (executed types) id found s) (option_and_then (pending_of id refused types) found)) known)
    ∙ by_broken s id (executed types statement) _ (has_nothing types statement) refl
    ∙ ap (λ (found : Option Statement). s.stored - stored_size found +
    executing_size (pending_of id refused types statement) (executed types statement)) (sym known)

-- behind a change and another one
pub twice_stored : (s : Statements) (id : ℕ) (statement : Statement) (first second : Statement → Statement) →
    Some statement ≡ statement_at s id →
    (change_at id second (change_at id first s)).stored ≡
    s.stored - statement_size statement + statement_size (second (first statement))
twice_stored s id statement first second known =
    sym (ap (λ (found : Option Statement). (change_at id second (changed first id found s)).stored) known)
    ∙ changed_twice s id (first statement) second s.last
    ∙ ap (λ (found : Option Statement). s.stored - stored_size found + statement_size
    (second (first statement))) (sym known)

-- a sum that is refused is too large
pub too_large : {T E : Type 0} (r : Result T E) (s : Statements) (id : ℕ) (statement : Statement)
    (change : Statement → Statement) (most : ℕ) →
    Some statement ≡ statement_at s id →
    most ≤ s.stored - statement_size statement + statement_size (change statement) →
    OnErr r (most ≤ (change_at id change s).stored)
too_large (Ok x) s id statement change most known large = tt
too_large (Err e) s id statement change most known large = rw (changed_stored s id statement change known) large

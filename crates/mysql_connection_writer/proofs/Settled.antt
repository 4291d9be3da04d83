-- Executions of values that are written by the types in force: what they say, and where they lead.
use Rattle.std.proofs.Common.{◌≡◌, ◌<◌, ◌^◌, ◌++◌, ℕ, Bool, true, false, List, [], ◌∷◌, length, map, Option, Some}
use Rattle.std.proofs.Common.{Result, Ok, Err, refl, sym, ap, ◌∙◌, subst, append-nil, lit<}
use Rattle.std.specs.List.{AllByRecursion}
use Rattle.std.specs.Option.{option_and_then, option_map}
use Rattle.std.specs.declared.alloc.AllocError.{AllocError}
use Rattle.mysql_cells.specs.Values.{FitsFields}
use Rattle.mysql_cells.specs.declared.value.Value.{Value}
use Rattle.mysql_const.specs.declared.capabilities.Capabilities.{Capabilities}
use Rattle.mysql_executions.specs.After.{execution_types}
use Rattle.mysql_executions.specs.Executions.{Execution, execution_at}
use Rattle.mysql_executions.specs.InForce.{InForce}
use Rattle.mysql_executions.specs.Laws.{ReadTypesAreCarried}
use Rattle.mysql_executions.specs.declared.refused.Refused.TheVariants as refused
use Rattle.mysql_executions.specs.declared.types.BoundType.{BoundType}
use Rattle.mysql_execution_writer.specs.Cells.{as_read}
use Rattle.mysql_execution_writer.specs.InForce.{PutsInForce, without_types}
use Rattle.mysql_execution_writer.specs.Laws.{ExecutionsReadBack, FitsExecution}
use Rattle.mysql_execution_writer.specs.Written.{can_be_put, execution_as_read, execution_bytes}
use Rattle.mysql_commands.specs.Commands.{Command, Execute, command_at, or_other}
use Rattle.mysql_connection_rules.specs.Puts.{step_for}
use Rattle.mysql_connection_rules.specs.Events.{Event}
use Rattle.mysql_connection_rules.specs.Events.Event.{Asked}
use Rattle.mysql_connection_rules.specs.Standing.{Phase, Standing}
use Rattle.mysql_connection_rules.specs.Standing.About.{OfStatement}
use Rattle.mysql_connection_rules.specs.Standing as phases
use Rattle.mysql_connection_rules.specs.StepLaws.{step_says}
use Rattle.mysql_connection_rules.specs.Steps.{about_execution, after_command, after_executing, execution_of}
use Rattle.mysql_connection_rules.specs.Steps.{id_in_question, in_turn, parameters_in_question, reply_due}
use Rattle.mysql_connection_rules.specs.Steps.{statement_in_question, step, with_statements}
use Rattle.mysql_reply_events.specs.declared.context.ReplyKind.TheVariants as kinds
use Rattle.mysql_connection_statements.specs.Settled.{IsSettledAt}
use Rattle.mysql_connection_statements.specs.Statements.{Statement, Statements, executed, resolved, statement_at}
use Rattle.mysql_connection_statements.specs.Statements.{with_statement}
use Rattle.mysql_connection_statements.specs.declared.pending.Pending.{Pending}
use Rattle.mysql_connection_state.specs.Follows.{after_settled}
use Rattle.mysql_connection_writer.proofs.Named.{named}
use Rattle.mysql_connection_writer.specs.Commands.{command_payload, parameters_of}
use Rattle.mysql_connection_writer.specs.Executions.{WritesExecution, execution_by, execution_said}
use Rattle.mysql_connection_writer.specs.Payloads.{payload_in, payload_of}

-- each number fits its field
fits_all : (id : ℕ) (values : List Value) → id < 2 ^ 32 → length values < 2 ^ 64 →
    AllByRecursion (λ value. FitsFields value) values → FitsExecution (without_types id values)
fits_all id values small few each = record {
  statement = small;
  flags = lit< tt;
  iterations = lit< tt;
  count = rw (append-nil values) few;
  parameters = each;
  attributes = tt;
  names = tt;
  attribute_names = tt;
}

module _ (s : Standing) (id : ℕ) (statement : Statement) (values : List Value)
    (phase : s.phase ≡ phases.Command) (settled : IsSettledAt s.statements id statement) where
  abbrev e : Execution
  e = without_types id values

  abbrev body : List ℕ
  body = execution_bytes s.capabilities statement.parameters e

  -- its parameters are in force
  known : parameters_of s.statements (Some id) ≡ Some statement.parameters
  known = ap (λ (found : Option ℕ). option_map (λ (x : Statement). x.parameters)
      (option_and_then (statement_at s.statements) found)) settled.0
      ∙ ap (λ (found : Option Statement). option_map (λ (x : Statement). x.parameters) found) settled.1

  module _ (can : can_be_put s.capabilities statement.parameters e ≡ true) (own : execution_as_read e ≡ e) where
    -- it is the execution of these values
    its_own : execution_by s.capabilities (parameters_of s.statements (Some id)) id values ≡ e
    its_own =
        let read : map as_read values ≡ values = ap (λ (x : Execution). x.parameters) own in
        rw (known, read, can) refl

    has_payload : command_payload s.capabilities (Some statement.parameters) (Execute e) ≡ Some (0x17 ∷ body)
    has_payload = rw can refl

    module _ (law : ExecutionsReadBack) (fits : FitsExecution e) where
      back : execution_at s.capabilities statement.parameters body ≡ Some e
      back = law s.capabilities statement.parameters e fits can ∙ ap (λ (x : Execution). Some x) own

      reads : command_at s.capabilities (Some statement.parameters) (0x17 ∷ body) ≡ Execute e
      reads = ap (λ (x : Option Execution). or_other (0x17 ∷ body) (option_map Execute x)) back

      module _ (carried : ReadTypesAreCarried) where
        found_id : id_in_question s.statements (0x17 ∷ body) ≡ Some id
        found_id = ap (λ (x : Option ℕ). option_and_then (resolved s.statements) x)
            (named s.capabilities (Some statement.parameters) (Execute e) (0x17 ∷
            body) fits.statement has_payload) ∙ settled.0

        found : statement_in_question s.statements (0x17 ∷ body) ≡ Some statement
        found = ap (λ (x : Option ℕ). option_and_then (statement_at s.statements) x) found_id ∙ settled.1

        in_force : parameters_in_question s.statements (0x17 ∷ body) ≡ Some statement.parameters
        in_force = ap (λ (x : Option Statement). option_map (λ (y : Statement). y.parameters) x) found

        no_types : execution_types s.capabilities statement.parameters.count body ≡ []
        no_types = carried s.capabilities statement.parameters body e back

        leads : after_command s (0x17 ∷ body) (Execute e) ≡ reply_due kinds.Binary statement.columns (OfStatement id) s
        leads =
            ap (λ (x : Option ℕ). execution_of 0x17 body x
            (statement_in_question s.statements (0x17 ∷ body)) s) found_id
            ∙ ap (λ (x : Option Statement). execution_of 0x17 body (Some id) x s) found
            ∙ ap (λ (types : List BoundType). after_executing id statement refused.Execution types s) no_types
            ∙ ap (λ (x : Option Pending). reply_due kinds.Binary statement.columns (about_execution id x)
            (with_statements (with_statement id (executed [] statement) s.statements) s))
            (settled.2.1 id refused.Execution)
            ∙ ap (λ (x : Statement). reply_due kinds.Binary statement.columns (OfStatement id)
            (with_statements (with_statement id x s.statements) s)) settled.2.0
            ∙ ap (λ (x : Statements). reply_due kinds.Binary statement.columns (OfStatement id)
            (with_statements x s)) settled.3

        steps : step s (0x17 ∷ body) ≡ Ok (Asked (Execute e), after_settled id statement.columns s)
        steps =
            step_says s (0x17 ∷ body) (Asked (Execute e)) (reply_due kinds.Binary statement.columns (OfStatement id) s)
            (ap (λ (x : Phase). in_turn x s (0x17 ∷ body)) phase
            ∙ ap (λ (x : Option InForce). let c = command_at s.capabilities x (0x17 ∷ body) in
            Ok (Asked c, after_command s (0x17 ∷ body) c)) in_force
            ∙ ap (λ (x : Command). Ok (Asked x, after_command s (0x17 ∷ body) x)) reads
            ∙ ap (λ (x : Standing). Ok (Asked (Execute e), x)) leads)

        -- it says so, and leads there
        says : (old : List ℕ) → WritesExecution s statement id values old (old ++ 0x17 ∷ body) (Ok true)
        says old =
            let is : execution_said s id values ≡ Asked (Execute e) =
            ap (λ (x : Execution). Asked (Execute x)) its_own in
            let there : payload_of s (Asked (Execute e)) ≡ Some (0x17 ∷ body) =
            ap (λ (x : Phase). payload_in (Asked (Execute e)) s x) phase
            ∙ ap (λ (x : Option InForce). command_payload s.capabilities x (Execute e)) known ∙ has_payload in (
              0x17 ∷ body,
              ap (λ (x : Event). payload_of s x) is ∙ there,
              refl,
              subst (λ (x : Event). step_for x s (0x17 ∷ body) ≡
                  Ok (x, after_settled id statement.columns s)) (sym is) steps,
            )

  pub written : ExecutionsReadBack → ReadTypesAreCarried → id < 2 ^ 32 → length values < 2 ^ 64 →
      AllByRecursion (λ value. FitsFields value) values →
      (capabilities : Capabilities) (parameters : InForce) → capabilities ≡ s.capabilities →
      parameters ≡ statement.parameters →
      (old new : List ℕ) (result : Result Bool AllocError) →
      PutsInForce capabilities parameters id values old new result →
      WritesExecution s statement id values old new result
  written law carried small few each capabilities parameters these its old new (Ok true) puts =
      let told = subst (λ (x : InForce). PutsInForce s.capabilities x id values old new (Ok true)) its
      (subst (λ (x : Capabilities). PutsInForce x parameters id values old new (Ok true)) these puts) in
      subst (λ (x : List ℕ). WritesExecution s statement id values old x (Ok true)) (sym told.2)
      (says told.0 told.1 law (fits_all id values small few each) carried old)
  written law carried small few each capabilities parameters these its old new (Ok false) puts = puts
  written law carried small few each capabilities parameters these its old new (Err refused) puts = puts

-- What stands of one statement behind a part of a reply.
use Rattle.std.proofs.Common.{◌≡◌, ◌≢◌, ℕ, ◌+◌, Bool, true, false, refl, sym, subst, ◌∙◌}
use Rattle.std.specs.Prelude.{◌==◌}
use Rattle.mysql_connection_rules.specs.Standing.{About, InReply, Standing}
use Rattle.mysql_connection_rules.specs.Standing.About.{Executing, OfStatement, Preparing, Resetting, Streaming}
use Rattle.mysql_connection_rules.specs.Standing as phases
use Rattle.mysql_connection_rules.specs.Steps.{after_event, behind_reply, changed_by, in_phase, is_whole, phase_behind}
use Rattle.mysql_connection_rules.specs.Steps.{reply_after, with_columns, with_statements}
use Rattle.mysql_connection_statements.specs.Statements.{Statement, Statements, change_at, changed, having_columns}
use Rattle.mysql_connection_statements.specs.Statements.{prepared_as, taken_back}
use Rattle.mysql_executions.specs.InForce.{InForce}
use Rattle.mysql_reply_events.specs.Events.{Event as ReplySaid, ReplySoFar}
use Rattle.mysql_reply_events.specs.Events.Event.{ErrorEvent, LineEvent, OkEvent, PreparedEvent}
use Rattle.mysql_connection_contents.specs.Contents.{LeavesAll, ReplyLeaves, Stands, is_logged_in, types_at}
use Rattle.mysql_connection_contents.proofs.Commands.{Goes, either, other_id, same_id}
use Rattle.mysql_connection_contents.proofs.Statements.{changed_elsewhere, changed_own, put_elsewhere, put_own}
use Rattle.mysql_connection_contents.proofs.Statements.{refusal_leaves}

-- a change that leaves the parameters of each statement
kept_at : (s : Statements) (id : ℕ) (p : InForce) (other : ℕ) (change : Statement →
    Statement) (test : Bool) → (other == id) ≡ test →
    ((st : Statement) → (change st).parameters ≡ st.parameters) → Stands s id p →
    Stands (change_at other change s) id p
kept_at s id p other change true is keeps stands =
    subst (λ n. Stands (change_at n change s) id p) (sym (same_id other id is))
    (changed_own s id p p change stands (λ st now. keeps st ∙ now))
kept_at s id p other change false is keeps stands = changed_elsewhere s id p other change (other_id other id is) stands

pub columns_leave : (s : Statements) (id : ℕ) (p : InForce) (r : InReply) (about : About) →
    Stands s id p → Stands (with_columns r about s) id p
columns_leave s id p r (OfStatement other) stands =
    kept_at s id p other (having_columns r.so_far.columns r.coming) (other == id) refl (λ st. refl)
    stands
columns_leave s id p r about stands = stands

-- an error answers an execution
taken_own : (s : Statements) (id : ℕ) (p : InForce) (change : Statement →
    Statement) (stands : Stands s id p) → (change stands.statement).parameters ≡
    stands.statement.parameters → Stands (change_at id change s) id p
taken_own s id p change stands keeps =
    subst (λ found. Stands (changed change id found s) id p) (sym stands.found)
    (put_own s id p (change stands.statement) (keeps ∙ stands.parameters))

event_leaves : (s : Statements) (id : ℕ) (p : InForce) (about : About) (more : ℕ)
    (said : ReplySaid) → ReplyLeaves id s about said → Stands s id p →
    Stands (changed_by about more said s) id p
event_leaves s id p (Preparing text size) more (PreparedEvent ok follow) leaves stands =
    let differ : id ≢ ok.statement_id = λ e. leaves (sym e) in
    let put = put_elsewhere s id p ok.statement_id (prepared_as text ok.num_params (size + more)) differ stands in
    record { statement = put.statement; found = put.found; parameters = put.parameters }
event_leaves s id p (Executing pending) more (ErrorEvent error) leaves stands = refused (pending.id == id) refl
  where
    refused : (test : Bool) → (pending.id == id) ≡ test →
        Stands (change_at pending.id (taken_back error.error_code pending) s) id p
    refused true is =
        let same = same_id pending.id id is in
        subst (λ n. Stands (change_at n (taken_back error.error_code pending) s) id p) (sym same)
        (taken_own s id p (taken_back error.error_code pending) stands
        (refusal_leaves error.error_code pending stands.statement
        (subst (λ found. LeavesAll error.error_code (types_at found)) stands.found
        (leaves same))))
    refused false is = changed_elsewhere s id p pending.id (taken_back error.error_code pending)
        (other_id pending.id id is) stands
event_leaves s id p Resetting more (OkEvent ok) leaves stands = absurd leaves
event_leaves s id p about more said leaves stands = stands

pub phase_logged_in : (about : About) (said : ReplySaid) → is_logged_in (phase_behind about said) ≡ true
phase_logged_in (Streaming reason) (LineEvent bytes) = refl
phase_logged_in about said = refl

-- a part of a reply leaves the statement as it stood
pub reply_goes : (s : Standing) (id : ℕ) (p : InForce) (r : InReply) (size : ℕ) (said : ReplySaid)
    (so_far : ReplySoFar) → ReplyLeaves id s.statements r.about said → Stands s.statements id p →
    Goes s id p (after_event r size said so_far s)
reply_goes s id p r size said so_far leaves stands =
    let now = reply_after r size said so_far in
    let changed_so = with_statements (changed_by r.about size said s.statements) s in
    let there = event_leaves s.statements id p r.about size said leaves stands in
    either (Goes s id p) (is_whole now.so_far.awaited)
    (behind_reply now.about said
    (with_statements (with_columns now now.about changed_so.statements) changed_so))
    (in_phase (phases.Reply now) changed_so)
    (λ whole. record {
      stands =
          columns_leave changed_so.statements id p now now.about there;
      capabilities =
          refl;
      logged_in = phase_logged_in now.about said;
    })
    (λ more. record { stands = there; capabilities = refl; logged_in = refl })

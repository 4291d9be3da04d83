-- What stands behind an event of a reply that was put, and what is kept then.
use Rattle.std.proofs.Common.{◌≡◌, ◌<◌, ℕ, ◌+◌, Bool, true, false, if◌then◌else◌, Err, refl, ap, subst, sym, ◌∙◌, arith}
use Rattle.mysql_const.specs.declared.capabilities.Capabilities.{Capabilities}
use Rattle.mysql_reply_events.specs.Behind.{behind}
use Rattle.mysql_reply_events.specs.Events.{Event as ReplySaid, ReplySoFar}
use Rattle.mysql_reply_events.specs.Events.Event.{LineEvent}
use Rattle.mysql_connection_rules.specs.Standing.{About, InReply, Standing, kept, phase_size}
use Rattle.mysql_connection_rules.specs.Standing.About.{Streaming}
use Rattle.mysql_connection_rules.specs.Standing.Phase.{Reply}
use Rattle.mysql_connection_rules.specs.Steps.{after_event, after_part, behind_reply}
use Rattle.mysql_connection_rules.specs.Steps.{context_of, in_phase, is_whole, phase_behind}
use Rattle.mysql_connection_rules.specs.Steps.{with_columns, with_statements}
use Rattle.mysql_connection_statements.specs.Statements.{Statements}
use Rattle.mysql_connection_state.proofs.Parts.{by_whole}
use Rattle.mysql_connection_state.specs.Follows.{Goes, IsPassed, Passes, kept_behind, reply_behind}
use Rattle.mysql_connection_state.specs.Follows.{statements_behind}
use Rattle.mysql_connection_state.specs.Reads.{told}
use Rattle.mysql_connection_state.specs.Views.{ConnectionState, in_reply_view}
use Rattle.mysql_connection_state.specs.declared.following.FollowRefusal.{FollowRefusal}
use Rattle.mysql_connection_state.specs.declared.following.FollowRefusal.TheVariants.{Held, Memory}
use Rattle.mysql_connection_state.specs.declared.due.InReply.{InReply as HeldReply}

-- behind a reply nothing is kept beside statements
nothing_kept : (about : About) (event : ReplySaid) (s : Statements) →
    phase_size s (phase_behind about event) ≡ 0
nothing_kept (Streaming reason) (LineEvent bytes) s = refl
nothing_kept about event s = refl

by_end : (whole : Bool) (r : InReply) (event : ReplySaid) (s : Standing) (these : Statements) →
    kept (if whole then behind_reply r.about event (with_statements (with_columns r r.about these)
    (with_statements these s)) else in_phase (Reply r) (with_statements these s)) ≡
    (if whole then (with_columns r r.about these).stored else these.stored + phase_size these (Reply r))
by_end true r event s these =
    omega (arith, nothing_kept r.about event (with_columns r r.about these))
by_end false r event s these = refl

-- what the table has behind an event is what the reply has
event_is : (old : HeldReply) (s : Standing) (size : ℕ) (event : ReplySaid) →
    old.reader.context.capabilities ≡ s.capabilities →
    after_event (in_reply_view old) size event
    (behind (context_of s (in_reply_view old)) old.reader.so_far event) s ≡
    after_part (reply_behind old size event) event
    (with_statements (statements_behind old size event s.statements) s)
event_is old s size event c =
    ap (λ (capabilities : Capabilities). after_event (in_reply_view old) size event
    (behind (record { kind = old.reader.context.kind; capabilities = capabilities })
    old.reader.so_far event) s) (sym c)

-- a reply that is due, whose next event was put
pub record IsNext (old : HeldReply) (s : Standing) (r : InReply) (event : ReplySaid)
    (next : ReplySoFar) : Type 0 where
  pub reply : in_reply_view old ≡ r
  pub capabilities : old.reader.context.capabilities ≡ s.capabilities
  pub leads : next ≡ behind (context_of s r) r.so_far event

after_is : (old : HeldReply) (s : Standing) (r : InReply) (size : ℕ) (event : ReplySaid)
    (next : ReplySoFar) → IsNext old s r event next →
    after_event r size event next s ≡
    after_part (reply_behind old size event) event
    (with_statements (statements_behind old size event s.statements) s)
after_is old s r size event next is =
    ap (λ (next : ReplySoFar). after_event r size event next s) is.leads ∙
    sym (ap (λ (r : InReply). after_event r size event (behind (context_of s r) r.so_far event) s)
    is.reply) ∙ event_is old s size event is.capabilities

pub reply_keeps : (old : HeldReply) (s : Standing) (r : InReply) (size : ℕ) (event : ReplySaid)
    (next : ReplySoFar) → IsNext old s r event next →
    kept (after_event r size event next s) ≡ kept_behind old size event s.statements
reply_keeps old s r size event next is =
    ap kept (after_is old s r size event next is) ∙
    by_end (is_whole (reply_behind old size event).so_far.awaited) (reply_behind old size event) event
    s (statements_behind old size event s.statements)

pub reply_passes : (old new : HeldReply) (s : Standing) (r : InReply) (size : ℕ) (event : ReplySaid)
    (next : ReplySoFar) (after : Statements) → IsNext old s r event next →
    IsPassed old s.statements size event new after →
    told (in_reply_view new) event (with_statements after s) ≡ after_event r size event next s
reply_passes old new s r size event next after is passed =
    let these = statements_behind old size event s.statements in
    (λ i. told (passed.reply i) event (with_statements (passed.statements i) s)) ∙
    sym (after_is old s r size event next is ∙
    by_whole (is_whole (reply_behind old size event).so_far.awaited) (reply_behind old size event)
    event s these)

-- where the reply doesn't go on, nothing does
pub reply_refused : (refusal : FollowRefusal) (old new : HeldReply) (before after : Statements)
    (size : ℕ) (event : ReplySaid) (room : ℕ) (state other : ConnectionState) (end : Standing) →
    Passes old before size event room (Err refusal) new after →
    (new ≡ old → after ≡ before → other ≡ state) →
    kept end ≡ kept_behind old size event before → Goes state end room (Err refusal) other
reply_refused Held old new before after size event room state other end refused stays keeps = (
  stays refused.0.reply refused.0.statements,
  let P : ℕ → Type 0 = λ (n : ℕ). room < n in subst P (sym keeps) refused.1,
)
reply_refused Memory old new before after size event room state other end refused stays keeps =
    stays refused.reply refused.statements

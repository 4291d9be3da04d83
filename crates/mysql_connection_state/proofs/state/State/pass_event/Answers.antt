use Rattle.std.proofs.Common.{◌≡◌, ◌≤◌, ℕ, Ok, Err, refl, subst, sym}
use Rattle.mysql_reply_events.specs.Behind.{behind}
use Rattle.mysql_reply_events.specs.Views.{event_view as reply_view}
use Rattle.mysql_connection_rules.specs.Standing.{InReply}
use Rattle.mysql_connection_rules.specs.Standing.Phase.{Reply}
use Rattle.mysql_connection_rules.specs.Steps.{after_event, context_of}
use Rattle.mysql_connection_statements.specs.Statements.{Statements}
use Rattle.mysql_connection_state.proofs.Passing.{IsNext, reply_keeps, reply_passes, reply_refused}
use Rattle.mysql_connection_state.specs.Follows.{Passes}
use Rattle.mysql_connection_state.specs.Views.{ReadsBy, in_reply_view}
use Rattle.mysql_connection_state.proofs.state.State.pass_event.Goals as goal

pub returns-in-Err-clause-goes : goal.returns-in-Err-clause-goes
returns-in-Err-clause-goes c = λ (r : InReply) (is : c.args.self.now.standing.phase ≡ Reply r).
    let event = reply_view c.args.event.now in
    let due : c.args.self.now.standing.phase ≡ Reply (in_reply_view c.in-Reply.reply) =
    rw (← c.self.view_is, c.in-Reply.is) refl in
    let same : in_reply_view c.in-Reply.reply ≡ r = cc in
    let by : ReadsBy c.self.inside.capabilities c.in-Reply.reply =
    rw c.in-Reply.is at c.self.invariant in
    let next = behind (context_of c.args.self.now.standing r) r.so_far event in
    let leads : IsNext c.in-Reply.reply c.args.self.now.standing r event next =
    record { reply = same; capabilities = rw (← c.self.view_is) by.context; leads = refl } in
    let these : c.self.inside.statements ≡ c.args.self.now.standing.statements =
    rw (← c.self.view_is) refl in
    let Refused : Statements → Type 0 = λ s. Passes c.in-Reply.reply s c.args.size event c.args.room
    (Err c.in-Err.refusal) c.pass.new.self c.pass.new.statements in
    let refused : Refused c.args.self.now.standing.statements = subst Refused these c.in-Err.ensures in
    reply_refused c.in-Err.refusal c.in-Reply.reply c.pass.new.self c.args.self.now.standing.statements
    c.pass.new.statements c.args.size event c.args.room _ _
    (after_event r c.args.size event next c.args.self.now.standing) refused
    (λ reply statements. rw (reply, statements, ← c.self.view_is, c.in-Reply.is) refl)
    (reply_keeps c.in-Reply.reply c.args.self.now.standing r c.args.size event next leads)

pub returns-in-Ok-clause-goes : goal.returns-in-Ok-clause-goes
returns-in-Ok-clause-goes c = λ (r : InReply) (is : c.args.self.now.standing.phase ≡ Reply r).
    let event = reply_view c.args.event.now in
    let due : c.args.self.now.standing.phase ≡ Reply (in_reply_view c.in-Reply.reply) =
    rw (← c.self.view_is, c.in-Reply.is) refl in
    let same : in_reply_view c.in-Reply.reply ≡ r = cc in
    let by : ReadsBy c.self.inside.capabilities c.in-Reply.reply =
    rw c.in-Reply.is at c.self.invariant in
    let next = behind (context_of c.args.self.now.standing r) r.so_far event in
    let leads : IsNext c.in-Reply.reply c.args.self.now.standing r event next =
    record { reply = same; capabilities = rw (← c.self.view_is) by.context; leads = refl } in
    let these : c.self.inside.statements ≡ c.args.self.now.standing.statements =
    rw (← c.self.view_is) refl in
    let Passed : Statements → Type 0 = λ s. Passes c.in-Reply.reply s c.args.size event c.args.room
    (Ok tt) c.pass.new.self c.pass.new.statements in
    let passed : Passed c.args.self.now.standing.statements = subst Passed these c.in-Ok.ensures in
    let told = c.end_if_whole.ensures (in_reply_view c.pass.new.self) refl in
    let stands = reply_passes c.in-Reply.reply c.pass.new.self c.args.self.now.standing r
    c.args.size event next c.pass.new.statements leads passed.0 in
    let keeps = reply_keeps c.in-Reply.reply c.args.self.now.standing r c.args.size event next leads in (
      rw (told, ← c.self.view_is) (rw (← c.self.view_is) at stands),
      let P : ℕ → Type 0 = λ (n : ℕ). n ≤ c.args.room in subst P (sym keeps) passed.1,
    )

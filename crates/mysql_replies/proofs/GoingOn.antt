-- What stands after some payloads decides what was decided before over them followed by others.
use Rattle.std.proofs.Common.{◌≡◌, List, [], ◌∷◌, ◌++◌, Err, true, refl, ap, sym, ◌∙◌}
use Rattle.mysql_wire.specs.Stream.{Rest}
use Rattle.mysql_reply_events.specs.Events as events
use Rattle.mysql_reply_events.specs.Table.{event_at}
use Rattle.mysql_reply_events.specs.declared.context.Context.{Context}
use Rattle.mysql_reply_events.specs.declared.fault.ReplyFault.TheVariants.{NotDue}
use Rattle.mysql_replies.specs.Reply.{Answer, Answered, IsReply, Payload, PayloadsDecide, PayloadsGoOn, ReplySoFar}
use Rattle.mysql_replies.specs.Reply.{after}
use Rattle.mysql_replies.specs.Reply.{after_all, answer_behind, fresh, is_over, reply_of}

pub after_all-append : (s : ReplySoFar) (came payloads : List Payload) →
    after_all s (came ++ payloads) ≡ after_all (after_all s came) payloads
after_all-append s [] payloads = refl
after_all-append s (payload ∷ came) payloads = after_all-append (after s payload) came payloads

pub goes_on : PayloadsGoOn
goes_on s came payloads rest answer h = h ∙
    ap (λ (t : ReplySoFar). answer_behind t rest) (sym (after_all-append s came payloads))

-- An answer stays what it is.
pub answered_stays : (known : Answer) (payloads : List Payload) → after_all (Answered known) payloads ≡ Answered known
answered_stays known [] = refl
answered_stays known (payload ∷ payloads) = answered_stays known payloads

pub decides_answered : (known : Answer) (payloads : List Payload) (rest : Rest) (answer : Answer) →
    answer ≡ known → PayloadsDecide (Answered known) payloads rest answer
decides_answered known payloads rest answer h = h ∙
    ap (λ (t : ReplySoFar). answer_behind t rest) (sym (answered_stays known payloads))

pub each_decides : (s : ReplySoFar) (payloads : List Payload) (rest : Rest) → (answer : Answer) ×
    PayloadsDecide s payloads rest answer
each_decides s payloads rest = (answer_behind (after_all s payloads) rest, refl)

pub decisions_agree : (s : ReplySoFar) (payloads : List Payload) (rest : Rest) (a b : Answer) →
    PayloadsDecide s payloads rest a → PayloadsDecide s payloads rest b → a ≡ b
decisions_agree s payloads rest a b x y = x ∙ sym y

pub fresh_decides : (c : Context) (payloads : List Payload) (rest : Rest) (answer : Answer) →
    PayloadsDecide (fresh c) payloads rest answer → IsReply c payloads rest answer
fresh_decides c payloads rest answer h = h

pub each_has_answer : (c : Context) (payloads : List Payload) (rest : Rest) → (answer : Answer) ×
    IsReply c payloads rest answer
each_has_answer c payloads rest = (reply_of c payloads rest, refl)

pub answers_agree : (c : Context) (payloads : List Payload) (rest : Rest) (a b : Answer) →
    IsReply c payloads rest a → IsReply c payloads rest b → a ≡ b
answers_agree c payloads rest a b x y = x ∙ sym y

-- Where nothing more of the server is awaited, no payload of it is due.
not_due_at : (c : Context) (s : events.ReplySoFar) (payload : Payload) (a : events.Awaited) →
    s.awaited ≡ a → is_over a ≡ true → event_at c s payload ≡ Err NotDue
not_due_at c s payload events.Nothing is over = rw is refl
not_due_at c s payload events.FileData is over = rw is refl
not_due_at c s payload a is over = absurd (cc)

pub not_due : (c : Context) (s : events.ReplySoFar) (payload : Payload) → is_over s.awaited ≡ true →
    event_at c s payload ≡ Err NotDue
not_due c s payload over = not_due_at c s payload s.awaited refl over

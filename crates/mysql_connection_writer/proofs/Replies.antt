-- Payloads of a reply.
use Rattle.std.proofs.Common.{◌≡◌, ℕ, Bool, true, false, if◌then◌else◌, List, Some, None, ◌&&◌, Result, Ok, Err, refl}
use Rattle.std.proofs.Common.{sym, ap, ◌∙◌, subst}
use Rattle.mysql_reply_events.specs.Events.{Awaited, Event as ReplySaid, ReplySoFar}
use Rattle.mysql_reply_events.specs.Events.Awaited.{FileData, Nothing}
use Rattle.mysql_reply_events.specs.Reader.{ReaderState}
use Rattle.mysql_reply_events.specs.Table.{Step as ReplyStep, event_at, file_data_at, in_place, is_due}
use Rattle.mysql_reply_events.specs.declared.context.Context.{Context}
use Rattle.mysql_reply_events.specs.declared.fault.ReplyFault.{ReplyFault}
use Rattle.mysql_reply_events.specs.declared.fault.ReplyFault.TheVariants as reply_faults
use Rattle.mysql_reply_event_writer.specs.Puts.{CanBePut, takes_payload}
use Rattle.mysql_reply_event_writer.specs.Written.{event_payload}
use Rattle.mysql_connection_rules.specs.Events as events
use Rattle.mysql_connection_rules.specs.Standing.{InReply, Phase, Standing}
use Rattle.mysql_connection_rules.specs.Standing as phases
use Rattle.mysql_connection_rules.specs.Steps.{after_event, context_of, file_step, in_phase, in_turn, of_reply}
use Rattle.mysql_connection_rules.specs.Steps.{reply_step}
use Rattle.mysql_connection_statements.specs.Statements.{counted}
use Rattle.mysql_connection_state.specs.Follows.{IsReplyReader, ReadsReply}
use Rattle.mysql_connection_state.specs.Reads.{IsInReply}
use Rattle.mysql_connection_writer.proofs.Lifting.{led_to, ok_same, said_of, unwritten}
use Rattle.mysql_connection_writer.proofs.InLogin.{SaysIn, WritesIn, by_the_table}
use Rattle.mysql_connection_writer.proofs.PlainBytes.{by_client, by_server}
use Rattle.mysql_connection_writer.specs.Phases.{is_file}
use Rattle.mysql_connection_writer.specs.Payloads.{Payload}
use Rattle.mysql_connection_writer.specs.Replies.{PutsReply}
use Rattle.mysql_connection_writer.specs.Writes.{WritesEvent}
use Rattle.mysql_connection_writer.specs.declared.refusal.BadEvent.TheVariants as bad
use Rattle.mysql_connection_writer.specs.declared.refusal.EventRefusal.{EventRefusal}
use Rattle.mysql_connection_writer.specs.declared.refusal.EventRefusal.TheVariants as refusals

same_replied : (a b : ReplySaid) → events.Replied a ≡ events.Replied b → a ≡ b
same_replied a b e = cc

of_reply_ok : {X : Type 0} (r : Result X ReplyFault) (x : X) → of_reply r ≡ Ok x → r ≡ Ok x
of_reply_ok (Ok y) x e = ap (λ y. Ok y) (ok_same y x e)
of_reply_ok (Err reply_faults.Memory) x e = absurd cc
of_reply_ok (Err fault) x e = absurd cc

-- where no payload of the server is due none is read
due_by : (c : Context) (so_far : ReplySoFar) (p : Payload) (awaited : Awaited) (reports : Bool) (report : ReplyStep)
    (x : ReplySaid × ReplySoFar) → is_due awaited ≡ false →
    (if is_due awaited && reports then report else in_place c so_far awaited p) ≡ Ok x → ⊥
due_by c so_far p FileData reports report x h e = cc
due_by c so_far p Nothing reports report x h e = cc
due_by c so_far p awaited reports report x h e = absurd cc

no_event : (c : Context) (so_far : ReplySoFar) (p : Payload) (x : ReplySaid × ReplySoFar) →
    is_due so_far.awaited ≡ false → event_at c so_far p ≡ Ok x → ⊥
no_event c so_far p x h e = due_by c so_far p so_far.awaited _ _ x h e

file_not_due : (awaited : Awaited) → is_file awaited ≡ true → is_due awaited ≡ false
file_not_due FileData h = refl
file_not_due awaited h = absurd cc

-- an event is said by the step of the reply
event_said : (s : Standing) (r : InReply) (event : ReplySaid) (next : ReplySoFar) (p : Payload) →
    event_at (context_of s r) r.so_far p ≡ Ok (event, next) →
    SaysIn (phases.Reply r) s (events.Replied event) p
event_said s r event next p h = go (is_file r.so_far.awaited) refl where
  go : (file : Bool) → is_file r.so_far.awaited ≡ file → SaysIn (phases.Reply r) s (events.Replied event) p
  go true is = absurd (no_event (context_of s r) r.so_far p (event, next) (file_not_due r.so_far.awaited is) h)
  go false is =
      let step : reply_step r s p ≡ Ok (events.Replied event, after_event r (counted p) event next s) = rw h refl in
      (after_event r (counted p) event next s, by_server r s p is ∙ step)

-- and what the step says is an event
said_event : (s : Standing) (r : InReply) (event : ReplySaid) (p : Payload) →
    SaysIn (phases.Reply r) s (events.Replied event) p →
    (next : ReplySoFar) × (event_at (context_of s r) r.so_far p ≡ Ok (event, next))
said_event s r event p h = go (is_file r.so_far.awaited) refl where
  go : (file : Bool) → is_file r.so_far.awaited ≡ file →
      (next : ReplySoFar) × (event_at (context_of s r) r.so_far p ≡ Ok (event, next))
  go true is =
      let told : file_step r s p ≡ Ok (events.Replied event, h.0) = sym (by_client r s p is) ∙ h.1 in
      let x = said_of (λ so_far. events.FileData p)
      (λ so_far. in_phase (phases.Reply (record r { so_far = so_far })) s)
      (of_reply (file_data_at r.so_far r.so_far.awaited p)) (events.Replied event) h.0 told in
      let differs : events.FileData p ≡ events.Replied event = x.2 in absurd cc
  go false is =
      let told : reply_step r s p ≡ Ok (events.Replied event, h.0) = sym (by_server r s p is) ∙ h.1 in
      let x = said_of (λ x. events.Replied x.0) (λ x. after_event r (counted p) x.0 x.1 s)
      (of_reply (event_at (context_of s r) r.so_far p)) (events.Replied event) h.0 told in
      let same : x.0.0 ≡ event = same_replied x.0.0 event x.2 in (
        x.0.1,
        of_reply_ok (event_at (context_of s r) r.so_far p) (event, x.0.1)
            (x.1 ∙ ap (λ (q : ReplySaid). Ok (q, x.0.1)) same),
      )

-- and that is what stands behind it
pub said_after : (s : Standing) (r : InReply) (event : ReplySaid) (after : Standing) (p : Payload) →
    in_turn (phases.Reply r) s p ≡ Ok (events.Replied event, after) →
    (next : ReplySoFar) × (event_at (context_of s r) r.so_far p ≡ Ok (event, next)) ×
    (after ≡ after_event r (counted p) event next s)
said_after s r event after p h = go (is_file r.so_far.awaited) refl where
  go : (file : Bool) → is_file r.so_far.awaited ≡ file →
      (next : ReplySoFar) × (event_at (context_of s r) r.so_far p ≡ Ok (event, next)) ×
      (after ≡ after_event r (counted p) event next s)
  go true is =
      let told : file_step r s p ≡ Ok (events.Replied event, after) = sym (by_client r s p is) ∙ h in
      let x = said_of (λ so_far. events.FileData p)
      (λ so_far. in_phase (phases.Reply (record r { so_far = so_far })) s)
      (of_reply (file_data_at r.so_far r.so_far.awaited p)) (events.Replied event) after told in
      let differs : events.FileData p ≡ events.Replied event = x.2 in absurd cc
  go false is =
      let told : reply_step r s p ≡ Ok (events.Replied event, after) = sym (by_server r s p is) ∙ h in
      let x = led_to (λ (x : ReplySaid × ReplySoFar). events.Replied x.0) (λ x. after_event r (counted p) x.0 x.1 s)
      (of_reply (event_at (context_of s r) r.so_far p)) (events.Replied event) after told in
      let same : x.0.0 ≡ event = same_replied x.0.0 event x.2 in (
        x.0.1,
        of_reply_ok (event_at (context_of s r) r.so_far p) (event, x.0.1)
            (x.1 ∙ ap (λ (q : ReplySaid). Ok (q, x.0.1)) same),
        sym x.3 ∙ ap (λ (q : ReplySaid). after_event r (counted p) q x.0.1 s) same,
      )

-- WHAT A REPLY'S WRITER PUTS

-- the reader reads what the step of the reply does
same_event : (s : Standing) (r : InReply) (reader : ReaderState) (p : Payload) → ReadsReply s r reader →
    event_at reader.context reader.so_far p ≡ event_at (context_of s r) r.so_far p
same_event s r reader p its = λ i. event_at (its.context i) (its.so_far i) p

same_payload : (s : Standing) (r : InReply) (reader : ReaderState) (event : ReplySaid) → ReadsReply s r reader →
    event_payload reader.context event ≡ event_payload (context_of s r) event
same_payload s r reader event its = ap (λ (c : Context). event_payload c event) its.context

read_by : (s : Standing) (r : InReply) (reader : ReaderState) (event : ReplySaid) (next : ReplySoFar) (p : Payload) →
    ReadsReply s r reader → event_at reader.context reader.so_far p ≡ Ok (event, next) →
    SaysIn (phases.Reply r) s (events.Replied event) p
read_by s r reader event next p its h = event_said s r event next p (sym (same_event s r reader p its) ∙ h)

reply_in : (s : Standing) (r : InReply) (reader : ReaderState) (event : ReplySaid) (old new : List ℕ)
    (result : Result (Unit {0}) EventRefusal) → ReadsReply s r reader → PutsReply reader event old new result →
    WritesIn (phases.Reply r) s (events.Replied event) old new result
reply_in s r reader event old new (Ok done) its w =
    record {
      payload = w.payload;
      is_payload = sym (same_payload s r reader event its) ∙ w.is_payload;
      appended = w.appended;
      reads = read_by s r reader event _ w.payload its w.reads;
    }
reply_in s r reader event old new (Err (refusals.BadEvent told)) its w = (
  w.0,
  λ p is said.
      let read = said_event s r event p said in
      w.1 (record {
        payload = p;
        next = read.0;
        is_payload = same_payload s r reader event its ∙ is;
        reads = same_event s r reader p its ∙ read.1;
      }),
  w.2,
)
reply_in s r reader event old new (Err refusals.Memory) its w = w

pub reply_written : (s : Standing) (reader : ReaderState) (event : ReplySaid) (old new : List ℕ)
    (result : Result (Unit {0}) EventRefusal) → IsReplyReader s (Some reader) →
    PutsReply reader event old new result → WritesEvent s (events.Replied event) old new result
reply_written s reader event old new result its w =
    by_the_table s (events.Replied event) old new result
    (subst (λ (phase : Phase). WritesIn phase s (events.Replied event) old new result) (sym its.1.phase)
    (reply_in s its.0 reader event old new result its.1 w))

pub none_due : (reader : ReaderState) (event : ReplySaid) → reader.fault ≡ None → takes_payload reader ≡ false →
    (can : CanBePut reader event) → ⊥
none_due reader event going rests can =
    no_event reader.context reader.so_far can.payload (event, can.next) (rw going at rests) can.reads

no_reply_in : (phase : Phase) (s : Standing) (event : ReplySaid) (old : List ℕ) → (IsInReply phase → ⊥) →
    WritesIn phase s (events.Replied event) old old (Err (refusals.BadEvent bad.ReadsOtherwise))
no_reply_in (phases.Reply r) s event old h = absurd (h tt)
no_reply_in phase s event old h =
    unwritten (SaysIn phase s (events.Replied event)) None bad.ReadsOtherwise old refl refl

pub no_reply_due : (s : Standing) (event : ReplySaid) (old : List ℕ) → (IsInReply s.phase → ⊥) →
    WritesEvent s (events.Replied event) old old (Err (refusals.BadEvent bad.ReadsOtherwise))
no_reply_due s event old h =
    by_the_table s (events.Replied event) old old (Err (refusals.BadEvent bad.ReadsOtherwise))
    (no_reply_in s.phase s event old h)

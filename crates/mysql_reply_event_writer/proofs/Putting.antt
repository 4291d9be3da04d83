-- What was appended is the payload that is read.
use Rattle.std.proofs.Common.{◌≡◌, ℕ, ◌-◌, List, ◌++◌, length, take, drop, Bool, true, Option, Some, None, Ok, refl, ap}
use Rattle.std.proofs.Common.{sym, arith, ◌∙◌}
use Rattle.std.specs.Prelude.{◌&&◌, is_none}
use Rattle.std.proofs.lemmas.Grind.{common_steps}
use Rattle.mysql_reply_events.specs.declared.context.Context.{Context}
use Rattle.mysql_reply_events.specs.declared.fault.ReplyFault.{ReplyFault}
use Rattle.mysql_reply_events.specs.Behind.{EventsLeadOn, behind}
use Rattle.mysql_reply_events.specs.Events.{Event, Payload, ReplySoFar}
use Rattle.mysql_reply_events.specs.Reader.{GoesOn, ReaderState}
use Rattle.mysql_reply_events.specs.Table.{Step, event_at, is_due}
use Rattle.mysql_reply_event_writer.specs.Puts.{IsPut, IsTold, IsWritten, WritesPayload, takes_payload}
use Rattle.mysql_reply_event_writer.specs.Written.{event_payload}

none_found : (fault : Option ReplyFault) (due : Bool) → (is_none fault && due) ≡ true → fault ≡ None
none_found None due h = refl
none_found (Some fault) due h = absurd cc

tail_of : (before payload : List ℕ) →
    take (length (before ++ payload) - length before) (drop (length before) (before ++ payload)) ≡
    payload
tail_of before payload = grind (arith, common_steps)

tail_at : (before after slice payload : List ℕ) (n : ℕ) → after ≡ before ++ payload → slice ≡
    after → n ≡ length before → take (length slice - n) (drop n slice) ≡ payload
tail_at before after slice payload n appended bytes len = rw (bytes, len, appended) (tail_of before payload)

was_written : (p : Option Payload) (before after : List ℕ) (x : Unit {0}) →
    WritesPayload p before after (Ok x) → (payload : Payload) × (p ≡ Some payload) ×
    (after ≡ before ++ payload)
was_written (Some payload) before after x h = (payload, refl, h)
was_written None before after x h = absurd h

pub is_written : (reader : ReaderState) (context : Context) (event : Event)
    (before after slice : List ℕ) (n : ℕ) (x : Unit {0}) → EventsLeadOn →
    takes_payload reader ≡ true → context ≡ reader.context →
    WritesPayload (event_payload context event) before after (Ok x) → slice ≡ after → n ≡
    length before →
    IsTold reader event (take (length slice - n) (drop n slice)) → IsWritten reader event before after
is_written reader context event before after slice n x leads takes same written bytes len told =
    let w = was_written (event_payload context event) before after x written in
    let tail : take (length slice - n) (drop n slice) ≡ w.0 = tail_at before after slice w.0 n w.2 bytes len in
    let reads : event_at reader.context reader.so_far w.0 ≡ Ok (event, told.0) =
    ap (λ (p : Payload). event_at reader.context reader.so_far p) (sym tail) ∙ told.1 in
    record {
      going = none_found reader.fault (is_due reader.so_far.awaited) takes;
      payload = w.0;
      is_payload = ap (λ (c : Context). event_payload c event) (sym same) ∙ w.1;
      appended = w.2;
      reads = reads ∙ ap (λ (s : ReplySoFar). let step : Step = Ok (event, s) in
          step) (leads reader.context reader.so_far w.0 event told.0 reads);
    }

pub is_put : (old new : ReaderState) (event : Event) (before after : List ℕ) → IsWritten old event before after →
    new.so_far ≡ behind old.context old.so_far event → GoesOn old new → IsPut old event new before after
is_put old new event before after written so_far goes_on = record {
  payload = written.payload;
  is_payload = written.is_payload;
  appended = written.appended;
  reads = written.reads ∙ ap (λ (s : ReplySoFar). let step : Step = Ok (event, s) in step) (sym so_far);
  goes_on = goes_on;
}

front_of : (before payload : List ℕ) → take (length before) (before ++ payload) ≡ before
front_of before payload = grind (arith, common_steps)

pub taken_back : (before payload after : List ℕ) (n : ℕ) → after ≡ before ++ payload → n ≡
    length before → take n after ≡ before
taken_back before payload after n appended len = rw (len, appended) (front_of before payload)

-- What a payload says is its event, and what it leads to is what its event leads to.
use Rattle.std.proofs.Common.{◌≡◌, Result, Ok, Err, ap, sym, ◌∙◌}
use Rattle.mysql_reply_events.specs.declared.context.Context.{Context}
use Rattle.mysql_reply_events.specs.declared.event.ReplyEvent.{ReplyEvent}
use Rattle.mysql_reply_events.specs.declared.fault.ReplyFault.{ReplyFault}
use Rattle.mysql_reply_events.specs.declared.fault.ReplyFault.TheVariants as faults
use Rattle.mysql_reply_events.specs.declared.state.ReplyState.{ReplyState}
use Rattle.mysql_reply_events.specs.Behind.{behind}
use Rattle.mysql_reply_events.specs.Events.{Event, Payload, ReplySoFar}
use Rattle.mysql_reply_events.specs.Reader.{Peeks, ReaderState}
use Rattle.mysql_reply_events.specs.States.{Says, Steps, said}
use Rattle.mysql_reply_events.specs.Table.{Step, event_at}
use Rattle.mysql_reply_events.specs.Views.{event_view}
use Rattle.mysql_reply_events.proofs.LeadingOn.{LeadsOn, leads_on}

-- A step that says an event is a step of it.
event_of : (step : Step) (event : Event) → said step ≡ Ok event → (next : ReplySoFar) × (step ≡ Ok (event, next))
event_of (Ok x) event e = let same : x.0 ≡ event = cc in
    (x.1, ap (λ (event : Event). let step : Step = Ok (event, x.1) in step) same)
event_of (Err fault) event e = absurd cc

-- A step that says a fault is that fault.
fault_of : (step : Step) (fault : ReplyFault) → said step ≡ Err fault → step ≡ Err fault
fault_of (Ok x) fault e = absurd cc
fault_of (Err found) fault e = let same : found ≡ fault = cc in
    ap (λ (fault : ReplyFault). let step : Step = Err fault in step) same

-- What a payload says is what reading it would answer.
pub peeks : (reader : ReaderState) (payload : Payload) (r : Result ReplyEvent ReplyFault) →
    Says (event_at reader.context reader.so_far payload) r → Peeks reader payload r
peeks reader payload (Ok event) h = event_of (event_at reader.context reader.so_far payload) (event_view event) h
peeks reader payload (Err faults.Memory) h = tt
peeks reader payload (Err faults.BadHeader) h =
    fault_of (event_at reader.context reader.so_far payload) faults.BadHeader h
peeks reader payload (Err faults.BadCount) h =
    fault_of (event_at reader.context reader.so_far payload) faults.BadCount h
peeks reader payload (Err faults.BadColumn) h =
    fault_of (event_at reader.context reader.so_far payload) faults.BadColumn h
peeks reader payload (Err faults.BadOk) h = fault_of (event_at reader.context reader.so_far payload) faults.BadOk h
peeks reader payload (Err faults.BadError) h =
    fault_of (event_at reader.context reader.so_far payload) faults.BadError h
peeks reader payload (Err faults.BadRow) h = fault_of (event_at reader.context reader.so_far payload) faults.BadRow h
peeks reader payload (Err faults.BadTerminator) h =
    fault_of (event_at reader.context reader.so_far payload) faults.BadTerminator h
peeks reader payload (Err faults.BadPrepare) h =
    fault_of (event_at reader.context reader.so_far payload) faults.BadPrepare h
peeks reader payload (Err faults.NotDue) h = fault_of (event_at reader.context reader.so_far payload) faults.NotDue h

-- Who is behind the event that a payload says is behind the payload.
behind_said : (c : Context) (s : ReplySoFar) (step : Step) (event : Event) (next : ReplySoFar) → LeadsOn c s step →
    said step ≡ Ok event → next ≡ behind c s event → step ≡ Ok (event, next)
behind_said c s (Ok x) event next leads e h =
    let same : x.0 ≡ event = cc in
    ap (λ (event : Event). let step : Step = Ok (event, x.1) in step) same
    ∙ ap (λ (next : ReplySoFar). let step : Step = Ok (event, next) in step) (leads ∙ ap (behind c s) same ∙ sym h)
behind_said c s (Err fault) event next leads e h = absurd cc

pub reads_on : (c : Context) (s : ReplySoFar) (payload : Payload) (event : Event) (next : ReplySoFar) →
    said (event_at c s payload) ≡ Ok event → next ≡ behind c s event → event_at c s payload ≡ Ok (event, next)
reads_on c s payload event next e h = behind_said c s (event_at c s payload) event next (leads_on c s payload) e h

-- What is refused is the step's fault.
pub refuses : (step : Step) (fault : ReplyFault) (new : ReplyState) → Says step (Err fault) → Steps step (Err fault) new
refuses step faults.Memory new h = tt
refuses step faults.BadHeader new h = fault_of step faults.BadHeader h
refuses step faults.BadCount new h = fault_of step faults.BadCount h
refuses step faults.BadColumn new h = fault_of step faults.BadColumn h
refuses step faults.BadOk new h = fault_of step faults.BadOk h
refuses step faults.BadError new h = fault_of step faults.BadError h
refuses step faults.BadRow new h = fault_of step faults.BadRow h
refuses step faults.BadTerminator new h = fault_of step faults.BadTerminator h
refuses step faults.BadPrepare new h = fault_of step faults.BadPrepare h
refuses step faults.NotDue new h = fault_of step faults.NotDue h

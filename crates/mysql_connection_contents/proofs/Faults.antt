-- A connection that was never answered want of memory has found a fault only where one comes next.
use Rattle.std.proofs.Common.{◌≡◌, ◌≢◌, inl, inr, ℕ, Bool, true, false, List, [], ◌∷◌, ◌++◌, Option, Some, None, Result}
use Rattle.std.proofs.Common.{Ok, Err, refl, sym, ap, subst, ◌∙◌}
use Rattle.std.specs.Prelude.{not, IfSome}
use Rattle.mysql_connection_contents.proofs.Histories.{both_true, end_world, goes_by, writes_by}
use Rattle.mysql_connection_contents.specs.Calls.{Call, Calls, Close, DoesBy, Done, Feed, Goes, NextEvent}
use Rattle.mysql_connection_contents.specs.Calls.{NextEventLent, Put, PutExecution, PutPackets, PutPayload, PutRow}
use Rattle.mysql_connection_contents.specs.Calls.{Writes, all_have_memory, has_memory, is_memory}
use Rattle.mysql_connection_machine.specs.Machines.{Answers, AnswersLent, Feeds, FindsFault, Machine, failure_in}
use Rattle.mysql_connection_machine.specs.Machines.{failure_view}
use Rattle.mysql_connection_machine.specs.PuttingPackets.{PutsAll, PutsPackets}
use Rattle.mysql_connection_machine.specs.PuttingPayloads.{PutsPayloadOn}
use Rattle.mysql_connection_machine.specs.Writing.{PutsOn}
use Rattle.mysql_connection_machine.specs.declared.fault.ConnectionFault.{ConnectionFault}
use Rattle.mysql_connection_machine.specs.declared.fault.FeedRefusal.{FeedRefusal}
use Rattle.mysql_connection_machine.specs.declared.fault.FeedRefusal.TheVariants as feeding
use Rattle.mysql_connection_machine.specs.declared.lent_event.LentEvent.{LentEvent}
use Rattle.mysql_connection_machine.specs.declared.packets_refusal.PacketsRefusal.{PacketsRefusal}
use Rattle.mysql_connection_machine.specs.declared.payload_refusal.PayloadRefusal.TheVariants as refusals
use Rattle.mysql_connection_machine.specs.declared.put_refusal.PutRefusal.{PutRefusal}
use Rattle.mysql_connection_machine.specs.declared.put_refusal.PutRefusal.TheVariants.{NotDue}
use Rattle.mysql_connection_rules.proofs.OneStep.{next_on-fails}
use Rattle.mysql_connection_rules.specs.Events.{Event}
use Rattle.mysql_connection_rules.specs.Machines.{IsOpen}
use Rattle.mysql_connection_rules.specs.Streams.{Coming, End, Fails, Failure, Piece, World, come, next, stream_of}
use Rattle.mysql_connection_rules.specs.declared.fault.Fault.{Fault}
use Rattle.mysql_connection_rules.specs.declared.fault.Fault.TheVariants as faults
use Rattle.mysql_connection_rules.specs.declared.side.Side.{Side}
use Rattle.mysql_connection_state.specs.declared.event.Event.{Event as HeldEvent}
use Rattle.mysql_connection_writer.specs.Executions.{execution_said}
use Rattle.mysql_connection_writer.specs.NextRows.{row_said}
use Rattle.mysql_wire.specs.FirstPacketLaws.{PacketsStay}

-- the fault that was found comes next
abbrev FailsBy : Option Failure → World → Type 0
FailsBy failure w = IfSome failure (λ its. next w ≡ Fails its)

abbrev pub FailsSo : Machine → Type 0
FailsSo m = FailsBy m.failure m.world

same_fails : (old new : Machine) → new ≡ old → FailsSo old → FailsSo new
same_fails old new e h = subst FailsSo (sym e) h

none_fails : (new : Machine) → new.failure ≡ None → FailsSo new
none_fails new e = subst (λ (o : Option Failure). FailsBy o new.world) (sym e) tt

-- ---- what comes

come_fails : PacketsStay → (failure : Option Failure) (w : World) (side : Side) (coming : Coming) →
    IsOpen w side → FailsBy failure w → FailsBy failure (come side coming w)
come_fails stay None w side coming is_open h = tt
come_fails stay (Some failure) w side coming is_open h = next_on-fails stay w side coming failure is_open h

fed_fails : PacketsStay →
    (old new : Machine) (side : Side) (piece : List ℕ) (answer : Result (Unit {0}) FeedRefusal) →
    Feeds old side piece answer new → FailsSo old → FailsSo new
fed_fails stay old new side piece (Ok done) h fails =
    subst FailsSo (sym h.2) (come_fails stay old.failure old.world side (Piece piece) h.0 fails)
fed_fails stay old new side piece (Err feeding.Closed) h fails = same_fails old new h.1 fails
fed_fails stay old new side piece (Err feeding.Held) h fails = same_fails old new h.1 fails
fed_fails stay old new side piece (Err feeding.Memory) h fails = subst FailsSo (sym h.1) fails

end_fails : PacketsStay → (failure : Option Failure) (w : World) (side : Side) (closed : Bool) →
    (stream_of side w.unread).closed ≡ closed → FailsBy failure w →
    FailsBy failure (come side End w)
end_fails stay failure w side true e h = subst (FailsBy failure) (sym (end_world side w e)) h
end_fails stay failure w side false e h = come_fails stay failure w side End e h

-- ---- what comes next

not_memory : (fault : Fault) → not (is_memory fault) ≡ true → fault ≢ faults.Memory
not_memory fault h e = (let no : false ≡ true = sym (ap (λ (f : Fault). not (is_memory f)) e) ∙ h in absurd (cc no))

found_fails : (old new : Machine) (fault : ConnectionFault) → not (is_memory fault.fault) ≡ true →
    FindsFault old.world fault new.world → new.failure ≡ Some (failure_view fault) → FailsSo new
found_fails old new fault memory finds e =
    subst (λ (o : Option Failure). FailsBy o new.world) (sym e) (ap next finds.same ∙
    finds.next (not_memory fault.fault memory))

answered_fails : (old new : Machine) (answer : Result (Option HeldEvent) ConnectionFault) →
    has_memory (NextEvent answer) ≡ true → Answers old.world answer new.world → new.failure ≡
    failure_in answer → FailsSo new
answered_fails old new (Ok event) memory h e = none_fails new e
answered_fails old new (Err fault) memory h e = found_fails old new fault memory h e

lent_fails : (old new : Machine) (answer : Result (Option LentEvent) ConnectionFault) →
    has_memory (NextEventLent answer) ≡ true →
    AnswersLent old.world answer (record { world = new.world; row = new.row })
    → new.failure ≡ failure_in answer → FailsSo new
lent_fails old new (Ok event) memory h e = none_fails new e
lent_fails old new (Err fault) memory h e = found_fails old new fault memory h.0 e

next_fails : (old new : Machine) (answer : Result (Option HeldEvent) ConnectionFault) →
    has_memory (NextEvent answer) ≡ true →
    Goes old answer new (Answers old.world answer new.world × (new.row ≡ None)) → FailsSo old →
    FailsSo new
next_fails old new answer memory d fails =
    elim (goes_by old answer new (Answers old.world answer new.world × (new.row ≡ None)) old.failure
    refl d) [
      | inl h ↦ same_fails old new h.3 fails
      | inr h ↦ answered_fails old new answer memory h.0.0 h.1
    ]

next_lent : (old new : Machine) (answer : Result (Option LentEvent) ConnectionFault) →
    has_memory (NextEventLent answer) ≡ true
    → Goes old answer new (AnswersLent old.world answer
    (record { world = new.world; row = new.row })) → FailsSo old → FailsSo new
next_lent old new answer memory d fails =
    elim (goes_by old answer new
    (AnswersLent old.world answer (record { world = new.world; row = new.row })) old.failure refl d) [
      | inl h ↦ same_fails old new h.3 fails
      | inr h ↦ lent_fails old new answer memory h.0 h.1
    ]

-- ---- what is put

put_fails : (old new : Machine) (event : Event) (answer : Result (Unit {0}) PutRefusal)
    (before behind : List ℕ) →
    Writes old answer NotDue new before behind (PutsOn old event before answer new behind) →
    FailsSo old → FailsSo new
put_fails old new event answer before behind d fails =
    elim (writes_by old answer NotDue new before behind (PutsOn old event before answer new behind)
    old.failure refl d) [
      | inl h ↦ same_fails old new h.1 fails
      | inr h ↦ none_fails new h.1
    ]

all_fails : (old new : Machine) (side : Side) (payloads : List (List ℕ)) (before behind : List ℕ) →
    PutsAll old side payloads before new behind → FailsSo old → FailsSo new
all_fails old new side [] before behind puts fails = subst FailsSo puts.0 fails
all_fails old new side (payload ∷ payloads) before behind puts fails =
    all_fails puts.0 new side payloads puts.1 behind puts.3 (none_fails puts.0 puts.2.puts.1)

packets_fail : (old new : Machine) (side : Side) (packets : List ℕ)
    (answer : Result ℕ PacketsRefusal) (before behind : List ℕ) →
    PutsPackets old side packets before answer new behind → FailsSo old → FailsSo new
packets_fail old new side packets (Ok used) before behind puts fails =
    all_fails old new side puts.1.payloads before behind puts.1.puts fails
packets_fail old new side packets (Err refusal) before behind puts fails =
    all_fails old new side puts.1.payloads before behind puts.1.puts fails

-- ---- call by call

call_fails : PacketsStay →
    (old new : Machine) (call : Call) (before behind : List ℕ) (took put : List Event) →
    has_memory call ≡ true → DoesBy old call before new behind took put → FailsSo old → FailsSo new
call_fails stay old new (Feed side piece answer) before behind took put memory d fails =
    fed_fails stay old new side piece answer d.0 fails
call_fails stay old new (Close side) before behind took put memory d fails =
    subst FailsSo (sym d.0) (end_fails stay old.failure old.world side
    (stream_of side old.world.unread).closed refl fails)
call_fails stay old new (NextEvent answer) before behind took put memory d fails =
    next_fails old new answer memory d.0 fails
call_fails stay old new (NextEventLent answer) before behind took put memory d fails =
    next_lent old new answer memory d.0 fails
call_fails stay old new (Put event answer) before behind took put memory d fails =
    put_fails old new event answer before behind d.0 fails
call_fails stay old new (PutRow row answer) before behind took put memory d fails =
    put_fails old new (row_said old.world.standing row) answer before behind d.0 fails
call_fails stay old new (PutExecution id values answer) before behind took put memory d fails =
    put_fails old new (execution_said old.world.standing id values) answer before behind d.0 fails
call_fails stay old new (PutPayload side payload answer) before behind took put memory d fails =
    elim (writes_by old answer refusals.NotDue new before behind
    (PutsPayloadOn old side payload before answer new behind) old.failure refl d.0) [
      | inl h ↦ same_fails old new h.1 fails
      | inr h ↦ none_fails new h.1
    ]
call_fails stay old new (PutPackets side packets answer) before behind took put memory d fails =
    packets_fail old new side packets answer before behind d.0 fails

pub calls_fail : PacketsStay → (old new : Machine) (calls : List Done) → Calls old calls new →
    all_have_memory calls ≡ true → FailsSo old → FailsSo new
calls_fail stay old new [] did memory fails = subst FailsSo did fails
calls_fail stay old new (done ∷ calls) did memory fails =
    let both = both_true (has_memory done.call) (all_have_memory calls) memory in
    calls_fail stay did.0 new calls did.2 both.1
    (call_fails stay old did.0 done.call did.1.before (did.1.before ++ done.appended) done.took
    done.put both.0 did.1.does fails)

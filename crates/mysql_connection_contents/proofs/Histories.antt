-- What calls of a connection do, call by call: what came, and what was taken and put.
use Rattle.std.proofs.Common.{◌≡◌, ◌⊎◌, ◌<◌, inl, inr, ℕ, Bool, true, false, List, [], ◌∷◌, ◌++◌, Option, Some, None}
use Rattle.std.proofs.Common.{Result, Ok, Err, refl, sym, ap, subst, ◌∙◌, append_assoc, append-nil}
use Rattle.std.specs.Prelude.{◌&&◌, IfSome}
use Rattle.std.specs.List.{list_all}
use Rattle.mysql_connection_contents.proofs.Speaking.{grow_more, grow_none}
use Rattle.mysql_connection_contents.specs.Calls.{Call, Calls, Close, DoesBy, Done, Feed, Goes, NextEvent}
use Rattle.mysql_connection_contents.specs.Calls.{NextEventLent, Put, PutExecution, PutPackets, PutPayload, PutRow}
use Rattle.mysql_connection_contents.specs.Calls.{Writes, events_in, packets_said, put_in, said_by, streams_from, taken}
use Rattle.mysql_connection_contents.specs.Calls.{taken_lent, where_ok, with_call}
use Rattle.mysql_connection_machine.specs.Machines.{Answers, AnswersFault, AnswersLent, Feeds, LendingWorld, Machine}
use Rattle.mysql_connection_machine.specs.Machines.{failure_in}
use Rattle.mysql_connection_machine.specs.PuttingPackets.{PutsAll, PutsPackets}
use Rattle.mysql_connection_machine.specs.PuttingPayloads.{PutsPayloadOn}
use Rattle.mysql_connection_machine.specs.Writing.{PutsOn}
use Rattle.mysql_connection_machine.specs.declared.fault.ConnectionFault.{ConnectionFault}
use Rattle.mysql_connection_machine.specs.declared.fault.FeedRefusal.{FeedRefusal}
use Rattle.mysql_connection_machine.specs.declared.fault.FeedRefusal.TheVariants as feeding
use Rattle.mysql_connection_machine.specs.declared.lent_event.LentEvent.{LentEvent}
use Rattle.mysql_connection_machine.specs.declared.lent_event.LentEvent.TheVariants as lent
use Rattle.mysql_connection_machine.specs.declared.packets_refusal.PacketsRefusal.{PacketsRefusal}
use Rattle.mysql_connection_machine.specs.declared.payload_refusal.PayloadRefusal.{PayloadRefusal}
use Rattle.mysql_connection_machine.specs.declared.payload_refusal.PayloadRefusal.TheVariants as refusals
use Rattle.mysql_connection_machine.specs.declared.put_refusal.PutRefusal.{PutRefusal}
use Rattle.mysql_connection_machine.specs.declared.put_refusal.PutRefusal.TheVariants.{NotDue}
use Rattle.mysql_connection_rules.specs.AgreementLaws.{PutsAreRead}
use Rattle.mysql_connection_rules.specs.Events.{Event, side_of}
use Rattle.mysql_connection_rules.specs.Events.Event.{Replied}
use Rattle.mysql_connection_rules.specs.Machines.{IsOpen}
use Rattle.mysql_connection_rules.specs.Puts.{packets_for}
use Rattle.mysql_connection_rules.specs.PuttingMachines.{Puts}
use Rattle.mysql_connection_rules.specs.Refusals.{Written}
use Rattle.mysql_connection_rules.specs.Streams.{End, Failure, Piece, Says, Streams, World, come, grow, next, stream_of}
use Rattle.mysql_connection_rules.specs.declared.side.Side.{Side}
use Rattle.mysql_connection_rules.specs.declared.side.Side.TheVariants.{Client, Server}
use Rattle.mysql_connection_state.specs.Views.{event_view}
use Rattle.mysql_connection_state.specs.declared.event.Event.{Event as HeldEvent}
use Rattle.mysql_connection_writer.specs.Executions.{execution_said}
use Rattle.mysql_connection_writer.specs.NextRows.{row_said}
use Rattle.mysql_reply_events.specs.Events.Event.{RowEvent}
use Rattle.mysql_rows.specs.Rows.{Row}

-- ---- lists

cancel : (xs ys zs : List ℕ) → xs ++ ys ≡ xs ++ zs → ys ≡ zs
cancel [] ys zs h = h
cancel (x ∷ xs) ys zs h = (let tail : xs ++ ys ≡ xs ++ zs = cc in cancel xs ys zs tail)

nothing_more : (before appended : List ℕ) → before ++ appended ≡ before → appended ≡ []
nothing_more before appended h = cancel before appended [] (h ∙ sym (append-nil before))

pub both_true : (a b : Bool) → (a && b) ≡ true → (a ≡ true) × (b ≡ true)
both_true true b h = (refl, h)
both_true false b h = absurd cc

one_says : (says : Event → Bool) (event : Event) (put : List Event) → put ≡ event ∷ [] →
    list_all says put ≡ true → says event ≡ true
one_says says event put e h = (both_true (says event) true (sym (ap (list_all says) e) ∙ h)).0

-- ---- a stream that has ended ends once more

end_streams : (side : Side) (s : Streams) → (stream_of side s).closed ≡ true → grow side End s ≡ s
end_streams Client s h = λ i. record {
  client =
      record { read = s.client.read; bytes = s.client.bytes; closed = sym h i };
  server = s.server;
}
end_streams Server s h = λ i. record {
  client = s.client;
  server =
      record { read = s.server.read; bytes = s.server.bytes; closed = sym h i };
}

pub end_world : (side : Side) (w : World) → (stream_of side w.unread).closed ≡ true → come side End w ≡ w
end_world side w h = λ i. record { limits = w.limits; standing = w.standing; unread = end_streams side w.unread h i }

-- ---- an answer of a connection that has failed, or that hasn't

pub goes_by : {X : Type 0} (old : Machine) (answer : Result (Option X) ConnectionFault)
    (new : Machine) (clause : Type 0) (failure : Option Failure) → old.failure ≡ failure →
    Goes old answer new clause
    → ((failure : Failure) × (old.failure ≡ Some failure) × AnswersFault answer failure ×
    (new ≡ old)) ⊎ (clause × (new.failure ≡ failure_in answer) × (old.failure ≡ None))
goes_by old answer new clause (Some failure) e d =
    let its = subst (λ (o : Option Failure). IfSome o (λ f. AnswersFault answer f × (new ≡ old))) e
    d.0 in inl (failure, e, its.0, its.1)
goes_by old answer new clause None e d = (let its = d.1 e in inr (its.0, its.1, e))

pub writes_by : {X E : Type 0} (old : Machine) (answer : Result X E) (not_due : E) (new : Machine)
    (before behind : List ℕ) (clause : Type 0) (failure : Option Failure) → old.failure ≡ failure
    → Writes old answer not_due new before behind clause →
    ((answer ≡ Err not_due) × (new ≡ old) × (behind ≡ before)) ⊎ clause
writes_by old answer not_due new before behind clause (Some failure) e d =
    inl (subst (λ (o : Option Failure). IfSome o (λ f. (answer ≡ Err not_due) × (new ≡ old) × (behind ≡ before))) e d.0)
writes_by old answer not_due new before behind clause None e d = inr (d.1 e)

-- ---- what is taken

-- an event was taken, or none
abbrev pub Told : World → List Event → World → Type 0
Told old took new = ((took ≡ []) × (new ≡ old)) ⊎ ((event : Event) × (took ≡ event ∷ []) × (next old ≡ Says event new))

taken_row : (answer : Option Row) (row : Row) → answer ≡ Some row →
    taken_lent (Ok (Some lent.Row)) answer ≡ Replied (RowEvent row) ∷ []
taken_row answer row e = ap (taken_lent (Ok (Some lent.Row))) e

answers_told : (old : World) (answer : Result (Option HeldEvent) ConnectionFault) (new : World)
    (took : List Event) → took ≡ taken answer → Answers old answer new → Told old took new
answers_told old (Ok None) new took e h = inl (e, h.1)
answers_told old (Ok (Some event)) new took e h = inr (event_view event, e, h)
answers_told old (Err fault) new took e h = inl (e, h.same)

lent_told : (old : World) (answer : Result (Option LentEvent) ConnectionFault) (new : World)
    (row : Option Row) (took : List Event) → took ≡ taken_lent answer row
    → AnswersLent old answer (record { world = new; row = row }) → Told old took new
lent_told old (Ok None) new row took e h = inl (e, ap (λ (l : LendingWorld). l.world) h.1)
lent_told old (Ok (Some (lent.Event event))) new row took e h = inr (event_view event, e, h.0)
lent_told old (Ok (Some lent.Row)) new row took e h = inr (Replied (RowEvent h.0), e ∙ taken_row row h.0 h.1, h.2)
lent_told old (Err fault) new row took e h = inl (e, h.0.same)

failed_told : (old new : Machine) (answer : Result (Option HeldEvent) ConnectionFault)
    (failure : Failure) (took : List Event) → took ≡ taken answer → AnswersFault answer failure →
    new ≡ old
    → Told old.world took new.world
failed_told old new (Ok event) failure took e h same = absurd h
failed_told old new (Err fault) failure took e h same = inl (e, ap (λ (m : Machine). m.world) same)

failed_lent : (old new : Machine) (answer : Result (Option LentEvent) ConnectionFault)
    (failure : Failure) (took : List Event) → took ≡ taken_lent answer new.row →
    AnswersFault answer failure → new ≡ old
    → Told old.world took new.world
failed_lent old new (Ok event) failure took e h same = absurd h
failed_lent old new (Err fault) failure took e h same = inl (e, ap (λ (m : Machine). m.world) same)

-- ---- what is put is read

pub written_puts : PutsAreRead →
    (old : World) (event : Event) (payload : List ℕ) (new : World) (before behind : List ℕ) →
    old.standing.number < 256 → Written old event payload new before behind
    → Puts old event (side_of event) (packets_for event old.standing payload) new
written_puts reads old event payload new before behind small written =
    subst (λ (v : World). Puts old event (side_of event) (packets_for event old.standing payload) v)
    (sym written.goes) (reads old event payload written.after small written.may)

-- ---- what calls keep of what was had, took and put

-- Whoever calls: what may be fed, which events may be put, and what is told of a history.
pub record Keeps (Fed : Call → Type 0) (says : Event → Bool) (P : List Event → Streams →
    List Event → World → Type 0) : Type 0 where
  pub closed : (put : List Event) (s : Streams) (ev : List Event) (w : World) → P put s ev w →
      (side : Side) → (stream_of side w.unread).closed ≡ (stream_of side s).closed
  pub small : (put : List Event) (s : Streams) (ev : List Event) (w : World) → P put s ev w → w.standing.number < 256
  pub comes : (put : List Event) (s : Streams) (ev : List Event) (old : World) (side : Side)
      (piece : List ℕ) → Fed (Feed side piece (Ok tt)) → P put s ev old → IsOpen old side
      → P put (grow side (Piece piece) s) ev (come side (Piece piece) old)
  pub ends : (put : List Event) (s : Streams) (ev : List Event) (old : World) (side : Side) →
      P put s ev old → IsOpen old side → P put (grow side End s) ev (come side End old)
  pub takes : (put : List Event) (s : Streams) (ev : List Event) (old : World) (event : Event)
      (new : World) → P put s ev old → next old ≡ Says event new → P put s (ev ++ event ∷ []) new
  pub puts : (put : List Event) (s : Streams) (ev : List Event) (old : World) (event : Event)
      (payload : List ℕ) (new : World) (before behind : List ℕ) → says event ≡ true →
      P put s ev old → Written old event payload new before behind
      → P (put ++ event ∷ []) (grow (side_of event) (Piece (packets_for event old.standing payload))
      s) (ev ++ event ∷ []) new

-- of each of these calls: what it fed may be, and so may each event that it put
abbrev pub MayDo : (Fed : Call → Type 0) (says : Event → Bool) → List Done → Type 0
MayDo Fed says [] = Unit {0}
MayDo Fed says (done ∷ calls) = Fed done.call × (list_all says done.put ≡ true) × MayDo Fed says calls

module _ (Fed : Call → Type 0) (says : Event → Bool) (P : List Event → Streams → List Event →
    World → Type 0) (keeps : Keeps Fed says P) where
  told_as : (put put_too : List Event) (s s_too : Streams) (ev ev_too : List Event)
      (w w_too : World) → put ≡ put_too → s ≡ s_too → ev ≡ ev_too → w ≡ w_too → P put s ev w →
      P put_too s_too ev_too w_too
  told_as put put_too s s_too ev ev_too w w_too a b c d h =
      subst (λ (x : List Event). P x s_too ev_too w_too) a
      (subst (λ (x : Streams). P put x ev_too w_too) b
      (subst (λ (x : List Event). P put s x w_too) c (subst (λ (x : World). P put s ev x) d h)))

  -- what is told behind events that a call took and put
  abbrev Behind : (put took more : List Event) (s : Streams) (ev : List Event) (w : World) → Type 0
  Behind put took more s ev w = P (put ++ more) s (ev ++ (took ++ more)) w

  stays : (put took more : List Event) (s s_too : Streams) (ev : List Event) (w w_too : World) →
      took ≡ [] → more ≡ [] → s_too ≡ s → w_too ≡ w → P put s ev w →
      Behind put took more s_too ev w_too
  stays put took more s s_too ev w w_too a b c d h =
      told_as put (put ++ more) s s_too ev (ev ++ (took ++ more)) w w_too (sym (append-nil put) ∙
      ap (λ (l : List Event). put ++ l) (sym b)) (sym c)
      (sym (append-nil ev) ∙ ap (λ (l : List Event). ev ++ (l ++ [])) (sym a) ∙
      ap (λ (l : List Event). ev ++ (took ++ l)) (sym b)) (sym d) h

  told : (put took more : List Event) (s : Streams) (ev : List Event) (old new : World) → more ≡
      [] → Told old took new → P put s ev old → Behind put took more s ev new
  told put took more s ev old new none (inl h) had = stays put took more s s ev old new h.0 none refl h.1 had
  told put took more s ev old new none (inr h) had =
      told_as put (put ++ more) s s (ev ++ h.0 ∷ []) (ev ++ (took ++ more)) new new
      (sym (append-nil put) ∙ ap (λ (l : List Event). put ++ l) (sym none)) refl
      (ap (λ (l : List Event). ev ++ (l ++ [])) (sym h.1) ∙
      ap (λ (l : List Event). ev ++ (took ++ l)) (sym none)) refl
      (keeps.takes put s ev old h.0 new had h.2)

  -- ---- an event that is put

  one_put : (put : List Event) (s : Streams) (ev : List Event) (old : World) (event : Event)
      (payload : List ℕ) (new : World) (before behind : List ℕ) (side : Side) → side_of event ≡
      side → says event ≡ true
      → P put s ev old → Written old event payload new before behind →
      P (put ++ event ∷ []) (grow side (Piece (packets_for event old.standing payload)) s)
      (ev ++ event ∷ []) new
  one_put put s ev old event payload new before behind side its said had written =
      subst (λ (x : Side). P (put ++ event ∷
      []) (grow x (Piece (packets_for event old.standing payload)) s) (ev ++ event ∷ []) new)
      its
      (keeps.puts put s ev old event payload new before behind said had written)

  event_put : (put took more : List Event) (s : Streams) (ev : List Event) (old : World)
      (event : Event) (payload : List ℕ) (new : World) (before appended : List ℕ) (side : Side) →
      side_of event ≡ side
      → took ≡ [] → more ≡ event ∷ [] → list_all says more ≡ true → P put s ev old →
      Written old event payload new before (before ++ appended) →
      Behind put took more (grow side (Piece appended) s) ev new
  event_put put took more s ev old event payload new before appended side its none one said had written =
      let bytes = packets_for event old.standing payload in
      let same = cancel before appended bytes written.appended in
      told_as (put ++ event ∷ []) (put ++ more) (grow side (Piece bytes) s)
      (grow side (Piece appended) s) (ev ++ event ∷ []) (ev ++ (took ++ more)) new new
      (ap (λ (l : List Event). put ++ l) (sym one)) (ap (λ (l : List ℕ). grow side (Piece l) s) (sym same))
      (ap (λ (l : List Event). ev ++ l) (sym one) ∙ ap (λ (l : List Event). ev ++ (l ++ more)) (sym none)) refl
      (one_put put s ev old event payload new before (before ++ appended) side its
      (one_says says event more one said) had written)

  none_put : (put took more : List Event) (s : Streams) (ev : List Event) (old new : World)
      (before appended : List ℕ) (side : Side) → took ≡ [] → more ≡ [] → new ≡ old → before ++
      appended ≡ before
      → P put s ev old → Behind put took more (grow side (Piece appended) s) ev new
  none_put put took more s ev old new before appended side a b same none had =
      stays put took more s (grow side (Piece appended) s) ev old new a b
      (ap (λ (l : List ℕ). grow side (Piece l) s) (nothing_more before appended none) ∙
      grow_none side s) same had

  puts_on : (put took more : List Event) (s : Streams) (ev : List Event) (old new : Machine)
      (event : Event) (answer : Result (Unit {0}) PutRefusal) (before appended : List ℕ) → took ≡ []
      → more ≡ where_ok answer (λ done. event) → list_all says more ≡ true → P put s ev old.world →
      PutsOn old event before answer new (before ++ appended)
      → Behind put took more (grow (side_of event) (Piece appended) s) ev new.world
  puts_on put took more s ev old new event (Ok done) before appended none one said had h =
      event_put put took more s ev old.world event h.0.0.0 new.world before appended (side_of event)
      refl none one said had h.0.0.2
  puts_on put took more s ev old new event (Err cause) before appended none one said had h =
      none_put put took more s ev old.world new.world before appended (side_of event) none one
      (ap (λ (l : LendingWorld). l.world) h.0.0) h.0.1 had

  puts_payload : (put took more : List Event) (s : Streams) (ev : List Event) (old new : Machine)
      (side : Side) (payload : List ℕ) (answer : Result HeldEvent PayloadRefusal)
      (before appended : List ℕ) → took ≡ []
      → more ≡ where_ok answer event_view → list_all says more ≡ true → P put s ev old.world →
      PutsPayloadOn old side payload before answer new (before ++ appended)
      → Behind put took more (grow side (Piece appended) s) ev new.world
  puts_payload put took more s ev old new side payload (Ok event) before appended none one said had h =
      event_put put took more s ev old.world (event_view event) payload new.world before appended
      side h.0.0.its_own none one said had h.0.0.written
  puts_payload put took more s ev old new side payload (Err cause) before appended none one said had h =
      none_put put took more s ev old.world new.world before appended side none one
      (ap (λ (l : LendingWorld). l.world) h.0.0) h.0.1 had

  -- ---- packets

  all_put : (put : List Event) (s : Streams) (ev : List Event) (old new : Machine) (side : Side)
      (payloads : List (List ℕ)) (before behind : List ℕ) →
      (puts : PutsAll old side payloads before new behind)
      → list_all says (said_by old side payloads before new behind puts) ≡ true → P put s ev old.world
      → (bytes : List ℕ) × (behind ≡ before ++ bytes)
      × P (put ++ said_by old side payloads before new behind puts) (grow side (Piece bytes) s)
      (ev ++ said_by old side payloads before new behind puts) new.world
  all_put put s ev old new side [] before behind puts said had = (
    [],
    sym (append-nil before ∙ puts.1),
    told_as put (put ++ []) s (grow side (Piece []) s) ev (ev ++ []) old.world new.world
        (sym (append-nil put)) (sym (grow_none side s)) (sym (append-nil ev))
        (ap (λ (m : Machine). m.world) puts.0) had,
  )
  all_put put s ev old new side (payload ∷ payloads) before behind puts said had =
      let one = puts.2.puts.0 in
      let rest = said_by puts.0 side payloads puts.1 new behind puts.3 in
      let are = both_true (says one.0) (list_all says rest) said in
      let bytes = packets_for one.0 old.world.standing payload in
      let mid = one_put put s ev old.world one.0 payload puts.0.world before puts.1 side
      one.1.its_own are.0 had one.1.written in
      let more = all_put (put ++ one.0 ∷ []) (grow side (Piece bytes) s) (ev ++ one.0 ∷
      []) puts.0 new side payloads puts.1 behind puts.3 are.1 mid in (
        bytes ++ more.0,
        more.1 ∙ ap (λ (l : List ℕ). l ++ more.0) one.1.written.appended ∙ append_assoc before bytes more.0,
        told_as ((put ++ one.0 ∷ []) ++ rest) (put ++ one.0 ∷
            rest) (grow side (Piece more.0) (grow side (Piece bytes) s))
            (grow side (Piece (bytes ++ more.0)) s) ((ev ++ one.0 ∷ []) ++ rest) (ev ++ one.0 ∷
            rest) new.world new.world
            (append_assoc put (one.0 ∷ []) rest) (grow_more side bytes more.0 s)
            (append_assoc ev (one.0 ∷ []) rest) refl more.2,
      )

  packets_put : (put took more : List Event) (s : Streams) (ev : List Event) (old new : Machine)
      (side : Side) (payloads : List (List ℕ)) (before appended : List ℕ) →
      (puts : PutsAll old side payloads before new (before ++ appended))
      → took ≡ [] → more ≡ said_by old side payloads before new (before ++ appended) puts →
      list_all says more ≡ true → P put s ev old.world →
      Behind put took more (grow side (Piece appended) s) ev new.world
  packets_put put took more s ev old new side payloads before appended puts none same said had =
      let events = said_by old side payloads before new (before ++ appended) puts in
      let all = all_put put s ev old new side payloads before (before ++
      appended) puts (ap (list_all says) (sym same) ∙ said) had in
      told_as (put ++ events) (put ++ more) (grow side (Piece all.0) s)
      (grow side (Piece appended) s) (ev ++ events) (ev ++ (took ++ more)) new.world new.world
      (ap (λ (l : List Event). put ++ l) (sym same))
      (ap (λ (l : List ℕ). grow side (Piece l) s) (sym (cancel before appended all.0 all.1)))
      (ap (λ (l : List Event). ev ++ l) (sym same) ∙ ap (λ (l : List Event). ev ++ (l ++ more)) (sym none)) refl all.2

  packets_call : (put took more : List Event) (s : Streams) (ev : List Event) (old new : Machine)
      (side : Side) (packets : List ℕ) (answer : Result ℕ PacketsRefusal)
      (before appended : List ℕ) → took ≡ []
      → (puts : PutsPackets old side packets before answer new (before ++ appended)) → more ≡
      packets_said old side packets before answer new (before ++ appended) puts →
      list_all says more ≡ true → P put s ev old.world
      → Behind put took more (grow side (Piece appended) s) ev new.world
  packets_call put took more s ev old new side packets (Ok used) before appended none puts same said had =
      packets_put put took more s ev old new side puts.1.payloads before appended puts.1.puts none same said had
  packets_call put took more s ev old new side packets (Err refusal) before appended none puts same said had =
      packets_put put took more s ev old new side puts.1.payloads before appended puts.1.puts none same said had

  -- ---- call by call

  puts_call : (put took more : List Event) (s : Streams) (ev : List Event) (old new : Machine)
      (event : Event) (answer : Result (Unit {0}) PutRefusal) (before appended : List ℕ) → took ≡ []
      → more ≡ where_ok answer (λ done. event) → list_all says more ≡ true → P put s ev old.world
      → Writes old answer NotDue new before (before ++
      appended) (PutsOn old event before answer new (before ++ appended))
      → Behind put took more (grow (side_of event) (Piece appended) s) ev new.world
  puts_call put took more s ev old new event answer before appended none one said had d =
      elim (writes_by old answer NotDue new before (before ++
      appended) (PutsOn old event before answer new (before ++ appended)) old.failure refl d) [
        | inl h ↦ none_put put took more s ev old.world new.world before appended (side_of event)
            none (one ∙ ap (λ (a : Result (Unit {0}) PutRefusal). where_ok a (λ done. event)) h.0)
            (ap (λ (m : Machine). m.world) h.1) h.2 had
        | inr h ↦ puts_on put took more s ev old new event answer before appended none one said had h
      ]

  payload_call : (put took more : List Event) (s : Streams) (ev : List Event) (old new : Machine)
      (side : Side) (payload : List ℕ) (answer : Result HeldEvent PayloadRefusal)
      (before appended : List ℕ) → took ≡ []
      → more ≡ where_ok answer event_view → list_all says more ≡ true → P put s ev old.world
      → Writes old answer refusals.NotDue new before (before ++
      appended) (PutsPayloadOn old side payload before answer new (before ++ appended))
      → Behind put took more (grow side (Piece appended) s) ev new.world
  payload_call put took more s ev old new side payload answer before appended none one said had d =
      elim (writes_by old answer refusals.NotDue new before (before ++
      appended) (PutsPayloadOn old side payload before answer new (before ++ appended))
      old.failure refl d) [
        | inl h ↦ none_put put took more s ev old.world new.world before appended side none (one ∙
            ap (λ (a : Result HeldEvent PayloadRefusal). where_ok a event_view) h.0)
            (ap (λ (m : Machine). m.world) h.1) h.2 had
        | inr h ↦ puts_payload put took more s ev old new side payload answer before appended none one said had h
      ]

  fed : (put took more : List Event) (s : Streams) (ev : List Event) (old new : Machine)
      (side : Side) (piece : List ℕ) (answer : Result (Unit {0}) FeedRefusal) (appended : List ℕ) →
      took ≡ [] → more ≡ []
      → Fed (Feed side piece answer) → P put s ev old.world → Feeds old side piece answer new →
      Behind put took more (with_call (Feed side piece answer) appended s) ev new.world
  fed put took more s ev old new side piece (Ok done) appended a b ok had h =
      stays put took more (grow side (Piece piece) s) (grow side (Piece piece) s) ev
      (come side (Piece piece) old.world) new.world a b refl (ap (λ (m : Machine). m.world) h.2)
      (keeps.comes put s ev old.world side piece ok had h.0)
  fed put took more s ev old new side piece (Err feeding.Closed) appended a b ok had h =
      stays put took more s s ev old.world new.world a b refl (ap (λ (m : Machine). m.world) h.1)
      had
  fed put took more s ev old new side piece (Err feeding.Held) appended a b ok had h =
      stays put took more s s ev old.world new.world a b refl (ap (λ (m : Machine). m.world) h.1)
      had
  fed put took more s ev old new side piece (Err feeding.Memory) appended a b ok had h =
      stays put took more s s ev old.world new.world a b refl (ap (λ (m : Machine). m.world) h.1)
      had

  shut : (put took more : List Event) (s : Streams) (ev : List Event) (old new : World)
      (side : Side) (closed : Bool) → (stream_of side old.unread).closed ≡ closed → took ≡ [] →
      more ≡ []
      → P put s ev old → new ≡ come side End old → Behind put took more (grow side End s) ev new
  shut put took more s ev old new side true e a b had same =
      stays put took more s (grow side End s) ev old new a b
      (end_streams side s (sym (keeps.closed put s ev old had side) ∙ e)) (same ∙
      end_world side old e) had
  shut put took more s ev old new side false e a b had same =
      stays put took more (grow side End s) (grow side End s) ev (come side End old) new a b refl
      same (keeps.ends put s ev old side had e)

  next_told : (old new : Machine) (answer : Result (Option HeldEvent) ConnectionFault)
      (took : List Event) → took ≡ taken answer →
      Goes old answer new (Answers old.world answer new.world × (new.row ≡ None)) →
      Told old.world took new.world
  next_told old new answer took e d =
      elim (goes_by old answer new (Answers old.world answer new.world ×
      (new.row ≡ None)) old.failure refl d) [
        | inl h ↦ failed_told old new answer h.0 took e h.2 h.3
        | inr h ↦ answers_told old.world answer new.world took e h.0.0
      ]

  next_lent : (old new : Machine) (answer : Result (Option LentEvent) ConnectionFault)
      (took : List Event) → took ≡ taken_lent answer new.row
      → Goes old answer new (AnswersLent old.world answer
      (record { world = new.world; row = new.row })) → Told old.world took new.world
  next_lent old new answer took e d =
      elim (goes_by old answer new
      (AnswersLent old.world answer (record { world = new.world; row = new.row })) old.failure refl
      d) [
        | inl h ↦ failed_lent old new answer h.0 took e h.2 h.3
        | inr h ↦ lent_told old.world answer new.world new.row took e h.0
      ]

  by_call : (put took more : List Event) (s : Streams) (ev : List Event) (old new : Machine)
      (call : Call) (before appended : List ℕ) → Fed call → list_all says more ≡ true →
      P put s ev old.world
      → DoesBy old call before new (before ++ appended) took more →
      Behind put took more (with_call call appended s) ev new.world
  by_call put took more s ev old new (Feed side piece answer) before appended ok said had d =
      fed put took more s ev old new side piece answer appended d.2 d.3 ok had d.0
  by_call put took more s ev old new (Close side) before appended ok said had d =
      shut put took more s ev old.world new.world side (stream_of side old.world.unread).closed refl
      d.2 d.3 had (ap (λ (m : Machine). m.world) d.0)
  by_call put took more s ev old new (NextEvent answer) before appended ok said had d =
      told put took more s ev old.world new.world d.3 (next_told old new answer took d.2 d.0) had
  by_call put took more s ev old new (NextEventLent answer) before appended ok said had d =
      told put took more s ev old.world new.world d.3 (next_lent old new answer took d.2 d.0) had
  by_call put took more s ev old new (Put event answer) before appended ok said had d =
      puts_call put took more s ev old new event answer before appended d.1 d.2 said had d.0
  by_call put took more s ev old new (PutRow row answer) before appended ok said had d =
      puts_call put took more s ev old new (row_said old.world.standing row) answer before appended
      d.1 d.2 said had d.0
  by_call put took more s ev old new (PutExecution id values answer) before appended ok said had d =
      puts_call put took more s ev old new (execution_said old.world.standing id values) answer
      before appended d.1 d.2 said had d.0
  by_call put took more s ev old new (PutPayload side payload answer) before appended ok said had
      d = payload_call put took more s ev old new side payload answer before appended d.1 d.2 said
      had d.0
  by_call put took more s ev old new (PutPackets side packets answer) before appended ok said had
      d = packets_call put took more s ev old new side packets answer before appended d.1 d.0 d.2
      said had

  -- ---- one call after another

  pub history : (put : List Event) (s : Streams) (ev : List Event) (old new : Machine)
      (calls : List Done) → Calls old calls new → MayDo Fed says calls → P put s ev old.world
      → P (put ++ put_in calls) (streams_from s calls) (ev ++ events_in calls) new.world
  history put s ev old new [] did may had =
      told_as put (put ++ []) s s ev (ev ++ []) old.world new.world (sym (append-nil put)) refl
      (sym (append-nil ev)) (ap (λ (m : Machine). m.world) did) had
  history put s ev old new (done ∷ calls) did may had =
      let one = by_call put done.took done.put s ev old did.0 done.call did.1.before done.appended
      may.0 may.1 had did.1.does in
      let streams = with_call done.call done.appended s in
      let rest = history (put ++ done.put) streams (ev ++ (done.took ++ done.put)) did.0 new calls did.2 may.2 one in
      told_as ((put ++ done.put) ++ put_in calls) (put ++ (done.put ++ put_in calls))
      (streams_from streams calls) (streams_from streams calls)
      ((ev ++ (done.took ++ done.put)) ++ events_in calls) (ev ++
      ((done.took ++ done.put) ++ events_in calls)) new.world new.world
      (append_assoc put done.put (put_in calls)) refl
      (append_assoc ev (done.took ++ done.put) (events_in calls)) refl rest

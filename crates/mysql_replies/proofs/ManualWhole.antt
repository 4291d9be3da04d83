-- A whole answer is that of payloads which the manual has as a whole reply.
use Rattle.std.proofs.Common.{◌≡◌, ℕ, ◌+◌, List, [], ◌∷◌, ◌++◌, Bool, true, false, Option, Some, None, Ok, Err, refl}
use Rattle.std.proofs.Common.{ap, sym, subst, ◌∙◌, if◌then◌else◌, append_assoc}
use Rattle.std.specs.Prelude.{◌&&◌, ◌||◌}
use Rattle.std.proofs.lemmas.Bool.{true≢false, and_parts}
use Rattle.std.proofs.lemmas.List.{append-nil}
use Rattle.mysql_fields.specs.Wire.{Reading, ◌>>=◌}
use Rattle.mysql_server_packets.specs.Packets.{ProgressReport, progress_report_at}
use Rattle.mysql_wire.specs.Stream.{Rest}
use Rattle.mysql_wire.specs.Stream.Rest.{Empty, Open, OutOfSync, TooLarge}
use Rattle.mysql_reply_events.specs.Events.{Awaited, Event, Payload, ReplySoFar}
use Rattle.mysql_reply_events.specs.Events.Awaited.{Columns, ColumnsEnd, Fields, FileData, First, Nothing, Rows}
use Rattle.mysql_reply_events.specs.Events.Event.{ProgressEvent}
use Rattle.mysql_reply_events.specs.Readings.{has_report_form, or_fault, report}
use Rattle.mysql_reply_events.specs.Table.{Step, event_at, has_results, in_place, is_due}
use Rattle.mysql_reply_events.specs.declared.context.Context.{Context}
use Rattle.mysql_reply_events.specs.declared.fault.ReplyFault.TheVariants.{BadError}
use Rattle.mysql_replies.specs.Together.{Outcome, Part, listed, reported}
use Rattle.mysql_replies.specs.Reply.{Answer, Answered, End, GoingOn, OpenReply, ReplySoFar as Reply, Whole, after_all}
use Rattle.mysql_replies.specs.Reply.{answer_behind, behind, end_behind, fault_of, faulted_at, fresh, is_over, led_by}
use Rattle.mysql_replies.specs.Manual as manual
use Rattle.mysql_replies.specs.Manual.{AreResults, IsOfManual, IsWholeReply, OnlySuchListsAreWhole, Reads}
use Rattle.mysql_replies.specs.Manual.{WithoutReports, is_prepare}
use Rattle.mysql_replies.proofs.Came.{Came, by_step, came_behind, due_in, no_report, opened, some_is, with_event}
use Rattle.mysql_replies.proofs.ManualFound.{Follow}
use Rattle.mysql_replies.proofs.ManualLeads.{stands}
use Rattle.mysql_replies.proofs.ManualOnly.{results_back}
use Rattle.mysql_replies.proofs.ManualPrepared.{prepared_back}
use Rattle.mysql_replies.proofs.ManualSome.{began, began_fits}
use Rattle.mysql_replies.proofs.GoingOn.{answered_stays}

abbrev came_of : OpenReply → Came
came_of s = record { so_far = s.so_far; results = s.results; part = s.part }

-- What payloads were that led on to the end: reports, and others before which they stand.
record Were (c : Context) (x : Came) (progress : List ProgressReport) (payloads : List Payload)
    (end : OpenReply) : Type 0 where
  others : List Payload
  reports : List ProgressReport
  without : WithoutReports c payloads reports others
  is : came_behind c (Some x) others ≡ Some (came_of end)
  said : end.progress ≡ progress ++ reports

-- A reply that goes on.
abbrev open_or : OpenReply → Reply → OpenReply
open_or s (GoingOn t) = t
open_or s (Answered answer) = s

going_is : (s t : OpenReply) → GoingOn s ≡ GoingOn t → s ≡ t
going_is s t is = ap (open_or s) is

no_answer : (answer : Answer) (s : OpenReply) → Answered answer ≡ GoingOn s → ⊥
no_answer answer s is = cc

led_on : (s end : OpenReply) (step : Step) (payloads : List Payload) →
    after_all (led_by s step) payloads ≡ GoingOn end → (e : Event × ReplySoFar) × (step ≡ Ok e)
led_on s end (Ok e) payloads is = (e, refl)
led_on s end (Err fault) payloads is =
    absurd (no_answer (faulted_at s (fault_of fault)) end
    (sym (answered_stays (faulted_at s (fault_of fault)) payloads) ∙ is))

due_or_over : (a : Awaited) → is_due a ≡ true → is_over a ≡ true → ⊥
due_or_over FileData due over = true≢false (sym due)
due_or_over Nothing due over = true≢false (sym due)
due_or_over First due over = true≢false (sym over)
due_or_over (Columns group n earlier) due over = true≢false (sym over)
due_or_over (ColumnsEnd group known) due over = true≢false (sym over)
due_or_over (Rows known) due over = true≢false (sym over)
due_or_over Fields due over = true≢false (sym over)

-- A report was read.
record Reported (payload : Payload) (s : ReplySoFar) (e : Event × ReplySoFar) : Type 0 where
  said : ProgressReport
  reads : Reads (progress_report_at payload) said
  is : e ≡ (ProgressEvent said, s)

abbrev pair_or : Event × ReplySoFar → Step → Event × ReplySoFar
pair_or e (Ok x) = x
pair_or e (Err fault) = e

reported_by : (payload : Payload) (s : ReplySoFar) (e : Event ×
    ReplySoFar) (r : Reading ProgressReport) → progress_report_at payload ≡ r →
    (or_fault BadError r >>= λ report. Ok (ProgressEvent report, s)) ≡ Ok e → Reported payload s e
reported_by payload s e (Ok x) same is = record { said = x.0; reads = (x.1, same); is = sym (ap (pair_or e) is) }
reported_by payload s e (Err refused) same is = absurd (no_pair is) where
  no_pair : Err BadError ≡ Ok e → ⊥
  no_pair denied = cc

-- Behind a report something follows, since the reply isn't over.
with_report : (c : Context) (x : Came) (progress : List ProgressReport) (payload : Payload)
    (payloads : List Payload) (said : ProgressReport) (end : OpenReply) → is_due x.so_far.awaited ≡
    true → has_report_form c payload ≡ true → Reads (progress_report_at payload) said →
    is_over end.so_far.awaited ≡ true →
    Were c x (progress ++ said ∷ []) payloads end → Were c x progress (payload ∷ payloads) end
with_report c x progress payload payloads said end due form reads over were =
    by_others were.others were.without were.is where
      by_others : (others : List Payload) → WithoutReports c payloads were.reports others →
          came_behind c (Some x) others ≡ Some (came_of end) →
          Were c x progress (payload ∷ payloads) end
      by_others [] without is =
          absurd (due_or_over x.so_far.awaited due
          (ap (λ (k : Came). is_over k.so_far.awaited) (some_is x (came_of end) is) ∙ over))
      by_others (next ∷ others) without is = record {
        others = next ∷ others;
        reports = said ∷ were.reports;
        without = manual.report form reads without;
        is = is;
        said = were.said ∙ append_assoc progress (said ∷ []) were.reports;
      }

no_form : (due form : Bool) → due ≡ true → (due && form) ≡ false → form ≡ false
no_form true form is denied = denied
no_form false form is denied = absurd (true≢false (sym is))

-- The step of a first payload, and what the others were.
were_by : (c : Context) (x : Came) (progress : List ProgressReport) (payload : Payload)
    (payloads : List Payload) (end : OpenReply) (e : Event × ReplySoFar) (b : Bool) →
    (is_due x.so_far.awaited && has_report_form c payload) ≡ b → is_over end.so_far.awaited ≡ true →
    (if b then (report payload >>= λ report. Ok (ProgressEvent report, x.so_far)) else in_place c
    x.so_far x.so_far.awaited payload) ≡ Ok e →
    Were c (with_event x e.0 e.1) (progress ++ reported e.0) payloads end → Were c x progress (payload ∷ payloads) end
were_by c x progress payload payloads end e true form over is were =
    let both = and_parts (is_due x.so_far.awaited) (has_report_form c payload) form in
    let found = reported_by payload x.so_far e (progress_report_at payload) refl is in
    with_report c x progress payload payloads found.said end both.0 both.1 found.reads over
    (subst (λ (k : List Outcome). Were c (record { so_far = x.so_far; results = k; part = x.part })
    (progress ++ found.said ∷ []) payloads end) (append-nil x.results)
    (subst (λ (k : Event × ReplySoFar). Were c (with_event x k.0 k.1) (progress ++
    reported k.0) payloads end) found.is were))
were_by c x progress payload payloads end e false form over is were = record {
  others = payload ∷ were.others;
  reports = were.reports;
  without = manual.other (no_form (is_due x.so_far.awaited) (has_report_form c payload)
      (due_in c x.so_far x.so_far.awaited payload e is) form) were.without;
  is = ap (λ (k : Option Came). came_behind c k were.others) (ap (by_step x) is) ∙ were.is;
  said = were.said ∙ ap (λ (k : List ProgressReport). k ++
      were.reports) (ap (λ (k : List ProgressReport). progress ++
      k) (no_report c x.so_far x.so_far.awaited payload e.0 e.1 is) ∙ append-nil progress);
}

payloads_were : (c : Context) (payloads : List Payload) (x : Came) (progress : List ProgressReport)
    (count : ℕ) (end : OpenReply) → after_all (GoingOn (opened c x progress count)) payloads ≡
    GoingOn end → is_over end.so_far.awaited ≡ true → Were c x progress payloads end
payloads_were c [] x progress count end is over =
    let same = going_is (opened c x progress count) end is in
    record {
      others = [];
      reports = [];
      without = manual.nothing;
      is = ap (λ (s : OpenReply). Some (came_of s)) same;
      said = sym (ap (λ (s : OpenReply). s.progress) same) ∙ sym (append-nil progress);
    }
payloads_were c (payload ∷ payloads) x progress count end is over =
    let s = opened c x progress count in
    let e = led_on s end (event_at c x.so_far payload) payloads is in
    let rest : after_all (GoingOn (behind s e.0.0 e.0.1)) payloads ≡ GoingOn end =
    sym (ap (λ (k : Step). after_all (led_by s k) payloads) e.1) ∙ is in
    were_by c x progress payload payloads end e.0 (is_due x.so_far.awaited && has_report_form c payload) refl over e.1
    (payloads_were c payloads (with_event x e.0.0 e.0.1) (progress ++ reported e.0.0) (count + 1) end rest over)

-- THE END

end_whole : (b : Bool) (count : ℕ) (rest : Rest) → end_behind b count rest ≡ Whole → (b ≡ true) × (rest ≡ Empty)
end_whole true count Empty is = (refl, refl)
end_whole true count Open is = absurd cc
end_whole true count TooLarge is = absurd cc
end_whole true count OutOfSync is = absurd cc
end_whole false count TooLarge is = absurd cc
end_whole false count OutOfSync is = absurd cc
end_whole false count Empty is = absurd cc
end_whole false count Open is = absurd cc

-- A fault is no whole answer.
abbrev is_whole : End → Bool
is_whole Whole = true
is_whole end = false

abbrev answer_or : Answer → Reply → Answer
answer_or answer (GoingOn s) = answer
answer_or answer (Answered other) = other

fault_at_end : (s : OpenReply) (payloads : List Payload) (answer : Answer) →
    after_all (GoingOn s) payloads ≡ Answered answer → is_whole answer.end ≡ false
fault_at_end s [] answer is = absurd cc
fault_at_end s (payload ∷ payloads) answer is =
    by_led (event_at s.context s.so_far payload)
    (λ e. fault_at_end (behind s e.0 e.1) payloads answer) is where
      by_led : (step : Step) → ((e : Event × ReplySoFar) →
          after_all (GoingOn (behind s e.0 e.1)) payloads ≡ Answered answer → is_whole answer.end ≡
          false) → after_all (led_by s step) payloads ≡ Answered answer → is_whole answer.end ≡ false
      by_led (Ok e) each goes = each e goes
      by_led (Err fault) each goes =
          let f : Answer = faulted_at s (fault_of fault) in
          sym (ap (λ (k : Reply). is_whole (answer_or f k).end) (sym (answered_stays f payloads) ∙ goes))

-- A query, an execution or a prepare, from its first payload to its end.
by_kind : (c : Context) (others : List Payload) (y : Came) (results prepare : Bool) →
    has_results c.kind ≡ results → is_prepare c.kind ≡ prepare → (results || prepare) ≡ true →
    Follow c → is_over y.so_far.awaited ≡ true → came_behind c (Some (began c)) others ≡ Some y →
    AreResults c others (y.results ++ listed y.part)
by_kind c others y true prepare kind prepares is follow over goes =
    results_back c None others y kind follow over
    (ap (λ (k : Part). came_behind c (Some (stands First None [] k)) others)
    (sym ((began_fits c).results kind)) ∙ goes)
by_kind c others y false true kind prepares is follow over goes =
    manual.last (prepared_back c None others y prepares follow over
    (ap (λ (k : Part). came_behind c (Some (stands First None [] k)) others)
    (sym ((began_fits c).prepare prepares)) ∙ goes))
by_kind c others y false false kind prepares is follow over goes = absurd (true≢false (sym is))

whole_of : (c : Context) (payloads : List Payload) (answer : Answer) (end : OpenReply) →
    IsOfManual c → after_all (fresh c) payloads ≡ GoingOn end → answer.results ≡ end.results ++
    listed end.part → answer.progress ≡ end.progress → is_over end.so_far.awaited ≡ true →
    IsWholeReply c payloads answer.results answer.progress
whole_of c payloads answer end of_manual is results progress over =
    let were = payloads_were c payloads (began c) [] 0 end is over in
    record {
      others = were.others;
      without_reports = subst (λ (k : List ProgressReport). WithoutReports c payloads k were.others)
          (sym (progress ∙ were.said)) were.without;
      results = subst (AreResults c were.others) (sym results)
          (by_kind c were.others (came_of end) (has_results c.kind) (is_prepare c.kind) refl refl
          of_manual.kind (record {
            no_optional = of_manual.no_optional;
            no_cached =
                of_manual.no_cached;
          }) over were.is);
    }

pub only_such_lists : OnlySuchListsAreWhole
only_such_lists c payloads rest answer of_manual is whole = by_state (after_all (fresh c) payloads) refl where
  by_state : (s : Reply) → after_all (fresh c) payloads ≡ s → (rest ≡ Empty) ×
      IsWholeReply c payloads answer.results answer.progress
  by_state (GoingOn end) goes =
      let same : answer ≡ answer_behind (GoingOn end) rest = is ∙ ap (λ (k : Reply). answer_behind k rest) goes in
      let ends = end_whole (is_over end.so_far.awaited) end.count rest
      (sym (ap (λ (k : Answer). k.end) same) ∙ whole) in (
        ends.1,
        whole_of c payloads answer end of_manual goes (ap (λ (k : Answer). k.results) same)
            (ap (λ (k : Answer). k.progress) same) ends.0,
      )
  by_state (Answered known) goes =
      let same : answer ≡ known = is ∙ ap (λ (k : Reply). answer_behind k rest) goes in
      absurd (true≢false (sym (ap is_whole whole) ∙ ap (λ (k : Answer). is_whole k.end) same ∙
      fault_at_end (opened c (began c) [] 0) payloads known goes))

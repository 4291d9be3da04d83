-- The answer to any payloads has what stands in them.
use Rattle.std.proofs.Common.{◌≡◌, ℕ, ◌+◌, List, [], ◌∷◌, ◌++◌, true, Option, Some, None, Ok, Err, refl, ap, sym, subst}
use Rattle.std.proofs.Common.{◌∙◌, append_assoc}
use Rattle.std.proofs.lemmas.List.{append-nil}
use Rattle.mysql_columns.specs.Columns.{ColumnDefinition}
use Rattle.mysql_ok_packets.specs.OkPackets.{OkPacket}
use Rattle.mysql_rows.specs.Rows.{Row}
use Rattle.mysql_server_packets.specs.Packets.{ProgressReport}
use Rattle.mysql_wire.specs.Stream.{Rest}
use Rattle.mysql_reply_events.specs.Events as events
use Rattle.mysql_reply_events.specs.Events.{Event, Payload}
use Rattle.mysql_reply_events.specs.Events.Event.{ColumnEvent, ColumnsEndEvent, CountEvent, ErrorEvent, FieldEvent}
use Rattle.mysql_reply_events.specs.Events.Event.{FileEvent, LineEvent, OkEvent, PreparedEvent, ProgressEvent}
use Rattle.mysql_reply_events.specs.Events.Event.{RawRowEvent, RowEvent, RowsEndEvent}
use Rattle.mysql_reply_events.specs.Events.Awaited.{First, Rows}
use Rattle.mysql_reply_events.specs.Table.{Step, event_at, in_place}
use Rattle.mysql_reply_events.specs.declared.context.Context.{Context}
use Rattle.mysql_replies.specs.Together.{ErrorResult, NoPart, Outcome, Part, RowsPart, RowsResult, first_part, listed}
use Rattle.mysql_replies.specs.Together.{put}
use Rattle.mysql_replies.specs.Reply.{Answer, Answered, GoingOn, OpenReply, after_all, answer_behind, behind, fault_of}
use Rattle.mysql_replies.specs.Reply.{faulted_at, led_by}
use Rattle.mysql_replies.specs.Beginnings as beginnings
use Rattle.mysql_replies.specs.Beginnings.{BeginsReply, EachAnswerHasWhatStands, IsFrontOf, PassesReports, first, none}
use Rattle.mysql_replies.specs.Beginnings.{open_rows}
use Rattle.mysql_replies.specs.BeginningLaws.{front_behind}
use Rattle.mysql_replies.proofs.Came.{Came, and_then, behind_other, behind_report, came_behind, due_in, goes_on_by}
use Rattle.mysql_replies.proofs.Came.{has_step, opened, some_is, with_event}
use Rattle.mysql_replies.proofs.ManualLeads.{FitsKind, due_set_leads, result_leads, rows_lead, stands}
use Rattle.mysql_replies.proofs.ManualSome.{began, began_anew, began_fits, no_part_fits}

-- What an event leaves of rows that came: they go on, or are whole.
data RowsBehind (columns : List ColumnDefinition) (rows : List Row) : List Outcome → Part → Type 0 where
  go_on : (more : List Row) → RowsBehind columns rows [] (RowsPart columns (rows ++ more))
  have_ended : (end : Option OkPacket) (others : List Outcome) (part : Part) →
      RowsBehind columns rows (RowsResult columns rows end ∷ others) part

stay : (columns : List ColumnDefinition) (rows : List Row) → RowsBehind columns rows [] (RowsPart columns rows)
stay columns rows = subst (λ (k : List Row). RowsBehind columns rows [] (RowsPart columns k))
    (append-nil rows) (go_on [])

rows_put : (columns : List ColumnDefinition) (rows : List Row) (event : Event)
    (next : events.ReplySoFar) →
    RowsBehind columns rows (put (RowsPart columns rows) event next).results
    (put (RowsPart columns rows) event next).part
rows_put columns rows (OkEvent ok) next = stay columns rows
rows_put columns rows (ErrorEvent error) next = have_ended None (ErrorResult error ∷ []) NoPart
rows_put columns rows (ProgressEvent report) next = stay columns rows
rows_put columns rows (CountEvent n follow) next = stay columns rows
rows_put columns rows (ColumnEvent found) next = stay columns rows
rows_put columns rows (FieldEvent field) next = stay columns rows
rows_put columns rows (ColumnsEndEvent ok) next = stay columns rows
rows_put columns rows (RowEvent row) next = go_on (row ∷ [])
rows_put columns rows (RawRowEvent bytes) next = stay columns rows
rows_put columns rows (RowsEndEvent ok) next = have_ended (Some ok) [] NoPart
rows_put columns rows (FileEvent name) next = stay columns rows
rows_put columns rows (PreparedEvent statement follow) next = stay columns rows
rows_put columns rows (LineEvent bytes) next = stay columns rows

-- What is listed behind these results at the end; where there are rows, a result with them at its front.
abbrev HasRows : Part → List Outcome → Type 0
HasRows (RowsPart columns rows) more = IsFrontOf (RowsResult columns rows None ∷ []) more
HasRows part more = Unit {0}

record Grown (results : List Outcome) (part : Part) (end : List Outcome) : Type 0 where
  more : List Outcome
  is : end ≡ results ++ more
  rows : HasRows part more

fewer_rows : (columns : List ColumnDefinition) (rows more : List Row) (results : List Outcome) →
    IsFrontOf (RowsResult columns (rows ++ more) None ∷ []) results →
    IsFrontOf (RowsResult columns rows None ∷ []) results
fewer_rows columns rows more results (first {others = others} front) =
    open_rows rows more
fewer_rows columns rows more results (open_rows these others_more {end = end} {others = others}) =
    subst (λ (k : List Row). IsFrontOf (RowsResult columns rows None ∷
    []) (RowsResult columns k end ∷ others)) (sym (append_assoc rows more others_more))
    (open_rows rows (more ++ others_more))

grown_by : (columns : List ColumnDefinition) (rows : List Row) (results : List Outcome)
    (here : List Outcome) (part : Part) (end : List Outcome) → RowsBehind columns rows here part →
    Grown (results ++ here) part end → Grown results (RowsPart columns rows) end
grown_by columns rows results here part end (go_on more) grown = record {
  more = grown.more;
  is = grown.is ∙ ap (λ (k : List Outcome). k ++ grown.more) (append-nil results);
  rows = fewer_rows columns rows more grown.more grown.rows;
}
grown_by columns rows results here part end (have_ended terminator others part_behind) grown = record {
  more = RowsResult columns rows terminator ∷ others ++ grown.more;
  is = grown.is ∙ append_assoc results (RowsResult columns rows terminator ∷ others) grown.more;
  rows = subst (λ (k : List Row). IsFrontOf (RowsResult columns rows None ∷
      []) (RowsResult columns k terminator ∷ others ++ grown.more)) (append-nil rows)
      (open_rows rows []);
}

grown_on : (results : List Outcome) (part : Part) (event : Event) (next : events.ReplySoFar)
    (end : List Outcome) → Grown (results ++ (put part event next).results)
    (put part event next).part end → Grown results part end
grown_on results (RowsPart columns rows) event next end grown =
    grown_by columns rows results (put (RowsPart columns rows) event next).results
    (put (RowsPart columns rows) event next).part end (rows_put columns rows event next) grown
grown_on results part event next end grown = record {
  more = (put part event next).results ++ grown.more;
  is = grown.is ∙ append_assoc results (put part event next).results grown.more;
  rows = tt;
}

at_once : (results : List Outcome) (part : Part) → Grown results part (results ++ listed part)
at_once results (RowsPart columns rows) = record {
  more = RowsResult columns rows None ∷ [];
  is = refl;
  rows = first none;
}
at_once results part = record { more = listed part; is = refl; rows = tt }

answered_is : (answer : Answer) (payloads : List Payload) (rest : Rest) →
    answer_behind (after_all (Answered answer) payloads) rest ≡ answer
answered_is answer [] rest = refl
answered_is answer (payload ∷ payloads) rest = answered_is answer payloads rest

-- What is listed grows, payload by payload.
grows : (s : OpenReply) (payloads : List Payload) (rest : Rest) →
    Grown s.results s.part (answer_behind (after_all (GoingOn s) payloads) rest).results
grows s [] rest = at_once s.results s.part
grows s (payload ∷ payloads) rest =
    by_led (event_at s.context s.so_far payload) (λ e. grows (behind s e.0 e.1) payloads rest) where
      by_led : (step : Step) → ((e : Event × events.ReplySoFar) →
          Grown (behind s e.0 e.1).results (behind s e.0 e.1).part
          (answer_behind (after_all (GoingOn (behind s e.0 e.1)) payloads) rest).results) →
          Grown s.results s.part (answer_behind (after_all (led_by s step) payloads) rest).results
      by_led (Ok e) each = grown_on s.results s.part e.0 e.1 _ (each e)
      by_led (Err fault) each =
          subst (λ (k : Answer). Grown s.results s.part k.results)
          (sym (answered_is (faulted_at s (fault_of fault)) payloads rest)) (at_once s.results s.part)

-- PAYLOADS THAT BEGIN A REPLY

-- What stands open: nothing, or rows so far.
data Open : Part → List Outcome → Type 0 where
  no_rows : {part : Part} → Open part []
  some_rows : {columns : List ColumnDefinition} {rows : List Row} →
      Open (RowsPart columns rows) (RowsResult columns rows None ∷ [])

-- Payloads that begin so lead to what stands in them, behind these results; others follow.
record Begins (c : Context) (x : Came) (payloads : List Payload) (found : List Outcome) : Type 0 where
  front : List Payload
  back : List Payload
  cut : payloads ≡ front ++ back
  end : Came
  is : came_behind c (Some x) front ≡ Some end
  left : List Outcome
  whole : x.results ++ found ≡ end.results ++ left
  opens : Open end.part left

begins : (c : Context) (before : Option (List ColumnDefinition)) (results : List Outcome)
    (part : Part) (payloads : List Payload) (found : List Outcome) → FitsKind c part →
    BeginsReply c payloads found → Begins c (stands First before results part) payloads found
begins c before results part payloads found fits (beginnings.unsaid _) = record {
  front = [];
  back = payloads;
  cut = refl;
  end = stands First before results part;
  is = refl;
  left = [];
  whole = refl;
  opens = no_rows;
}
begins c before results part payloads found fits
    (beginnings.rows_so_far {count = count} {n = n} group rows {columns = columns} {says =
    says} {found = here} kind is are denied rows_are) = record {
      front = count ∷ group ++ rows;
      back = [];
      cut = sym (append-nil (count ∷ group ++ rows));
      end = stands (Rows true) (Some columns) results (RowsPart columns here);
      is = and_then c (Some (stands First before results part))
          (Some (stands (Rows true) (Some columns) results (RowsPart columns [])))
          (Some (stands (Rows true) (Some columns) results (RowsPart columns here))) (count ∷
          group) rows
          (ap (λ (k : Part). came_behind c (Some (stands First before results k)) (count ∷ group))
          (fits.results kind) ∙ due_set_leads c before results n count group columns says kind is
          are denied)
          (rows_lead c columns results [] rows here rows_are);
      left = RowsResult columns here None ∷ [];
      whole = refl;
      opens = some_rows;
    }
begins c before results part payloads found fits (beginnings.followed one others here rest is begins_others) =
    let leads = result_leads c before results part one here true fits is in
    let inner = begins c leads.end.so_far.columns leads.end.results NoPart others rest (no_part_fits c) begins_others in
    record {
      front = one ++ inner.front;
      back = inner.back;
      cut = ap (λ (k : List Payload). one ++ k) inner.cut ∙ sym (append_assoc one inner.front inner.back);
      end = inner.end;
      is = and_then c _ (Some leads.end) (Some inner.end) one inner.front leads.is
          (ap (λ (k : Came). came_behind c (Some k) inner.front)
          (began_anew leads.end leads.closes) ∙ inner.is);
      left = inner.left;
      whole = sym (append_assoc results here rest) ∙
          ap (λ (k : List Outcome). k ++ rest) (sym leads.whole) ∙ inner.whole;
      opens = inner.opens;
    }

abbrev head_or : Payload → List Payload → Payload
head_or payload [] = payload
head_or payload (first_one ∷ later) = first_one

abbrev tail_of : List Payload → List Payload
tail_of [] = []
tail_of (first_one ∷ later) = later

-- Payloads, reports among them, that lead there.
record Passed (c : Context) (x y : Came) (progress : List ProgressReport) (count : ℕ)
    (payloads : List Payload) : Type 0 where
  rest : List Payload
  reports : List ProgressReport
  number : ℕ
  is : after_all (GoingOn (opened c x progress count)) payloads ≡ after_all (GoingOn (opened c y reports number)) rest

passed : (c : Context) (payloads others : List Payload) → PassesReports c payloads others →
    (x y : Came) (progress : List ProgressReport) (count : ℕ) (front back : List Payload) → others ≡
    front ++ back → came_behind c (Some x) front ≡ Some y → Passed c x y progress count payloads
passed c payloads others passes x y progress count [] back cut is = record {
  rest = payloads;
  reports = progress;
  number = count;
  is = ap (λ (k : Came). after_all (GoingOn (opened c k progress count)) payloads) (some_is x y is);
}
passed c payloads others beginnings.nothing x y progress count (payload ∷ front) back cut is =
    absurd (no_payload cut) where
      no_payload : [] ≡ payload ∷ front ++ back → ⊥
      no_payload same = cc
passed c payloads others (beginnings.other {payload = first_one} {payloads = later} {others =
    left} denied passes) x y progress count (payload ∷ front) back cut is =
    let same : first_one ≡ payload = ap (head_or payload) cut in
    let e = has_step c x y (in_place c x.so_far x.so_far.awaited payload) front is in
    let step : in_place c x.so_far x.so_far.awaited first_one ≡ Ok e.0 =
    ap (in_place c x.so_far x.so_far.awaited) same ∙ e.1 in
    let next : Came = with_event x e.0.0 e.0.1 in
    let inner = passed c later left passes next y progress (count + 1) front back (ap tail_of cut)
    (goes_on_by c x y (in_place c x.so_far x.so_far.awaited payload) e.0 front e.1 is) in
    record {
      rest = inner.rest;
      reports = inner.reports;
      number = inner.number;
      is = ap (λ s. after_all s later) (behind_other c x progress count first_one e.0.0 e.0.1 denied step) ∙ inner.is;
    }
passed c payloads others (beginnings.report {payload = first_one} {payloads = later} {report =
    said} form reads passes) x y progress count (payload ∷ front) back cut is =
    let e = has_step c x y (in_place c x.so_far x.so_far.awaited payload) front is in
    let due = due_in c x.so_far x.so_far.awaited payload e.0 e.1 in
    let inner = passed c later others passes x y (progress ++ said ∷ []) (count + 1) (payload ∷ front) back cut is in
    record {
      rest = inner.rest;
      reports = inner.reports;
      number = inner.number;
      is = ap (λ s. after_all s later) (behind_report c x progress count first_one said due form reads) ∙ inner.is;
    }

-- The results behind those that stand, and what stood open.
ends_with : (part : Part) (left results end : List Outcome) → Open part left →
    Grown results part end → IsFrontOf (results ++ left) end
ends_with part left results end no_rows grown =
    subst (λ (k : List Outcome). IsFrontOf (results ++ []) k) (sym grown.is)
    (front_behind results [] grown.more none)
ends_with part left results end some_rows grown =
    subst (λ (k : List Outcome). IsFrontOf (results ++ left) k) (sym grown.is)
    (front_behind results left grown.more grown.rows)

pub each_has_what_stands : EachAnswerHasWhatStands
each_has_what_stands c payloads rest answer is others found passes stand =
    let b = begins c None [] (first_part c.kind None) others found (began_fits c) stand in
    let p = passed c payloads others passes (began c) b.end [] 0 b.front b.back b.cut b.is in
    let grown = grows (opened c b.end p.reports p.number) p.rest rest in
    let same : answer ≡ answer_behind
    (after_all (GoingOn (opened c b.end p.reports p.number)) p.rest) rest = is ∙
    ap (λ s. answer_behind s rest) p.is in
    subst (λ (k : List Outcome). IsFrontOf k answer.results) (sym b.whole)
    (subst (λ (k : Answer). IsFrontOf (b.end.results ++ b.left) k.results) (sym same)
    (ends_with b.end.part b.left b.end.results _ b.opens grown))

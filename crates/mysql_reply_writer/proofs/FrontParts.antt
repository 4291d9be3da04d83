-- What is listed of a reply so far, beside what its answer lists once more payloads have come.
use Rattle.std.proofs.Common.{◌≡◌, ℕ, Bool, false, true, List, [], ◌∷◌, ◌++◌, Option, Some, None, Ok, Err, refl, ap}
use Rattle.std.proofs.Common.{sym, subst, ◌∙◌, append-nil, append_assoc}
use Rattle.std.specs.List.{AllByRecursion}
use Rattle.mysql_wire.specs.Stream.{Rest}
use Rattle.mysql_ok_packets.specs.OkPackets.{OkPacket}
use Rattle.mysql_server_packets.specs.Packets.{ProgressReport}
use Rattle.mysql_columns.specs.Columns.{ColumnDefinition}
use Rattle.mysql_columns.specs.Extended.{ListedDefinition}
use Rattle.mysql_rows.specs.Rows.{Row}
use Rattle.mysql_reply_events.specs.Events as events
use Rattle.mysql_reply_events.specs.Events.{Event}
use Rattle.mysql_reply_events.specs.Events.Event.{ErrorEvent, RowEvent, RowsEndEvent}
use Rattle.mysql_reply_events.specs.Table.{Step, event_at}
use Rattle.mysql_reply_events.specs.declared.context.Context.{Context}
use Rattle.mysql_replies.specs.Together.{ErrorResult, FieldsPart, FieldsResult, NoPart, Outcome, Part, RawRowsPart}
use Rattle.mysql_replies.specs.Together.{RawRowsResult, RowsPart, RowsResult, SetPart, StatementPart, listed, put}
use Rattle.mysql_replies.specs.Together.{reported}
use Rattle.mysql_replies.specs.Reply.{Answer, GoingOn, OpenReply, Payload, ReplySoFar, after_all, answer_behind, behind}
use Rattle.mysql_replies.specs.Reply.{fault_of, faulted_at, led_by}
use Rattle.mysql_replies.specs.Beginnings.{IsFrontOf, none, first, open_rows}
use Rattle.mysql_replies.specs.BeginningLaws.{front_behind}
use Rattle.mysql_replies.specs.Manual as manual
use Rattle.mysql_replies.specs.Manual.{AreResults, EndedRows, IsResult}
use Rattle.mysql_replies.proofs.GoingOn.{answered_stays}
use Rattle.mysql_reply_writer.proofs.Causes.{all_both}

-- ---- what comes first in results

-- Rows under these columns, from these on.
pub record HasRows (columns : List ColumnDefinition) (these : List Row) (found : List Outcome) : Type 0 where
  pub more : List Row
  pub end : Option OkPacket
  pub others : List Outcome
  pub is : found ≡ RowsResult columns (these ++ more) end ∷ others

-- Rows as they came.
pub record HasRaw (found : List Outcome) : Type 0 where
  pub rows : List (List ℕ)
  pub end : Option OkPacket
  pub others : List Outcome
  pub is : found ≡ RawRowsResult rows end ∷ others

-- Columns of a table.
pub record HasFields (found : List Outcome) : Type 0 where
  pub fields : List ListedDefinition
  pub end : Option OkPacket
  pub others : List Outcome
  pub is : found ≡ FieldsResult fields end ∷ others

-- What there is of a result that isn't whole is the first of these results, or its beginning.
abbrev pub Begins : Part → List Outcome → Type 0
Begins (RowsPart columns rows) found = HasRows columns rows found
Begins (RawRowsPart (row ∷ rows)) found = HasRaw found
Begins (FieldsPart (field ∷ fields)) found = HasFields found
Begins part found = Unit {0}

no_more_rows : (columns : List ColumnDefinition) (these : List Row) (end : Option OkPacket)
    (others : List Outcome) → HasRows columns these (RowsResult columns these end ∷ others)
no_more_rows columns these end others =
    record {
      more = [];
      end = end;
      others = others;
      is =
          ap (λ (l : List Row). RowsResult columns l end ∷ others) (sym (append-nil these));
    }

row_before : (columns : List ColumnDefinition) (these : List Row) (row : Row)
    (found : List Outcome) → HasRows columns (these ++ row ∷ []) found → HasRows columns these found
row_before columns these row found h =
    record {
      more = row ∷ h.more;
      end = h.end;
      others = h.others;
      is = h.is ∙
          ap (λ (l : List Row). RowsResult columns l h.end ∷
          h.others) (append_assoc these (row ∷ []) h.more);
    }

raw_first : (rows : List (List ℕ)) (end : Option OkPacket) (others : List Outcome) →
    HasRaw (RawRowsResult rows end ∷ others)
raw_first rows end others = record { rows = rows; end = end; others = others; is = refl }

fields_first : (fields : List ListedDefinition) (end : Option OkPacket) (others : List Outcome) →
    HasFields (FieldsResult fields end ∷ others)
fields_first fields end others = record { fields = fields; end = end; others = others; is = refl }

-- What is listed of it.
begins_listed : (part : Part) → Begins part (listed part)
begins_listed NoPart = tt
begins_listed (SetPart known) = tt
begins_listed (RowsPart columns rows) = no_more_rows columns rows None []
begins_listed (RawRowsPart []) = tt
begins_listed (RawRowsPart (row ∷ rows)) = raw_first (row ∷ rows) None []
begins_listed (StatementPart statement parameters columns) = tt
begins_listed (FieldsPart []) = tt
begins_listed (FieldsPart (field ∷ fields)) = fields_first (field ∷ fields) None []

-- Before an event it begins what the event makes whole, or what begins behind the event.
begins_step : (part : Part) (event : Event) (next : events.ReplySoFar) (found : List Outcome) →
    Begins (put part event next).part found → Begins part ((put part event next).results ++ found)
begins_step (RowsPart columns rows) (RowEvent row) next found h = row_before columns rows row found h
begins_step (RowsPart columns rows) (ErrorEvent error) next found h =
    no_more_rows columns rows None (ErrorResult error ∷ found)
begins_step (RowsPart columns rows) (RowsEndEvent ok) next found h = no_more_rows columns rows (Some ok) found
begins_step (RowsPart columns rows) event next found h = h
begins_step (RawRowsPart (row ∷ rows)) (ErrorEvent error) next found h =
    raw_first (row ∷ rows) None (ErrorResult error ∷ found)
begins_step (RawRowsPart (row ∷ rows)) (RowsEndEvent ok) next found h = raw_first (row ∷ rows) (Some ok) found
begins_step (RawRowsPart (row ∷ rows)) event next found h = h
begins_step (RawRowsPart []) event next found h = tt
begins_step (FieldsPart (field ∷ fields)) (ErrorEvent error) next found h =
    fields_first (field ∷ fields) None (ErrorResult error ∷ found)
begins_step (FieldsPart (field ∷ fields)) (RowsEndEvent ok) next found h = fields_first (field ∷ fields) (Some ok) found
begins_step (FieldsPart (field ∷ fields)) event next found h = h
begins_step (FieldsPart []) event next found h = tt
begins_step NoPart event next found h = tt
begins_step (SetPart known) event next found h = tt
begins_step (StatementPart statement parameters columns) event next found h = tt

-- ---- the answer to more payloads

-- What an answer has behind what is listed and reported so far.
pub record GoesFrom (s : OpenReply) (answer : Answer) : Type 0 where
  pub found : List Outcome
  pub results : answer.results ≡ s.results ++ found
  pub begins : Begins s.part found
  pub later : List ProgressReport
  pub progress : answer.progress ≡ s.progress ++ later

stops_here : (s : OpenReply) (answer : Answer) → answer.results ≡ s.results ++ listed s.part →
    answer.progress ≡ s.progress → GoesFrom s answer
stops_here s answer results progress = record {
  found = listed s.part;
  results = results;
  begins = begins_listed s.part;
  later = [];
  progress = progress ∙ sym (append-nil s.progress);
}

goes_step : (s : OpenReply) (step : Step) (z : List Payload) (rest : Rest) →
    ((t : OpenReply) → GoesFrom t (answer_behind (after_all (GoingOn t) z) rest)) →
    GoesFrom s (answer_behind (after_all (led_by s step) z) rest)
goes_step s (Ok x) z rest each =
    let h = each (behind s x.0 x.1) in
    let these : List Outcome = (put s.part x.0 x.1).results in
    record {
      found = these ++ h.found;
      results = h.results ∙ append_assoc s.results these h.found;
      begins = begins_step s.part x.0 x.1 h.found h.begins;
      later = reported x.0 ++ h.later;
      progress = h.progress ∙ append_assoc s.progress (reported x.0) h.later;
    }
goes_step s (Err fault) z rest each =
    subst (λ (k : ReplySoFar). GoesFrom s (answer_behind k rest))
    (sym (answered_stays (faulted_at s (fault_of fault)) z))
    (stops_here s (faulted_at s (fault_of fault)) refl refl)

pub goes_from : (z : List Payload) (rest : Rest) (s : OpenReply) →
    GoesFrom s (answer_behind (after_all (GoingOn s) z) rest)
goes_from [] rest s = stops_here s (answer_behind (GoingOn s) rest) refl refl
goes_from (payload ∷ z) rest s = goes_step s (event_at s.context s.so_far payload) z rest (λ t. goes_from z rest t)

-- ---- results that the manual has

-- Rows are listed under their columns, and columns of a table aren't.
abbrev pub IsKnown : Outcome → Type 0
IsKnown (RawRowsResult rows end) = ⊥
IsKnown (FieldsResult fields end) = ⊥
IsKnown result = Unit {0}

abbrev pub AreKnown : List Outcome → Type 0
AreKnown results = AllByRecursion (λ result. IsKnown result) results

ended_known : (c : Context) (columns : List ColumnDefinition) (payloads : List Payload)
    (these : List Outcome) (more : Bool) → EndedRows c columns payloads these more → AreKnown these
ended_known c columns payloads these more (manual.terminated before are is) = (tt, tt)
ended_known c columns payloads these more (manual.failed before are is) = (tt, (tt, tt))

result_known : (c : Context) (payloads : List Payload) (these : List Outcome) (more : Bool) →
    IsResult c payloads these more → AreKnown these
result_known c payloads these more (manual.ok command is) = (tt, tt)
result_known c payloads these more (manual.error is) = (tt, tt)
result_known c payloads these more (manual.file command) = (tt, tt)
result_known c payloads these more
    (manual.rows front after_columns {columns = columns} command is g closed ended) =
    ended_known c columns after_columns these more ended
result_known c payloads these more (manual.cursor front command is g opens) = (tt, tt)
result_known c payloads these more (manual.prepared parameters columns command header is g h) = (tt, tt)

pub results_known : (c : Context) (payloads : List Payload) (these : List Outcome) →
    AreResults c payloads these → AreKnown these
results_known c payloads these (manual.last is) = result_known c payloads these false is
results_known c payloads these (manual.followed here others now rest is are) =
    all_both (λ result. IsKnown result) now rest (result_known c here now true is) (results_known c others rest are)

known_behind : (before found : List Outcome) → AreKnown (before ++ found) → AreKnown found
known_behind [] found known = known
known_behind (result ∷ before) found known = known_behind before found known.1

front_begins : (part : Part) (found : List Outcome) → Begins part found → AreKnown found → IsFrontOf (listed part) found
front_begins (RowsPart columns rows) found h known =
    subst (λ (l : List Outcome). IsFrontOf (RowsResult columns rows None ∷ []) l) (sym h.is)
    (open_rows rows h.more)
front_begins (RawRowsPart (row ∷ rows)) found h known = absurd (subst (λ (l : List Outcome). AreKnown l) h.is known).0
front_begins (RawRowsPart []) found h known = none
front_begins (FieldsPart (field ∷ fields)) found h known =
    absurd (subst (λ (l : List Outcome). AreKnown l) h.is known).0
front_begins (FieldsPart []) found h known = none
front_begins NoPart found h known = none
front_begins (SetPart known_columns) found h known = none
front_begins (StatementPart statement parameters columns) found h known = none

-- What is listed so far is a front of such results of an answer.
pub front_of : (s : OpenReply) (answer : Answer) → GoesFrom s answer → AreKnown answer.results →
    IsFrontOf (s.results ++ listed s.part) answer.results
front_of s answer goes known =
    subst (λ (l : List Outcome). IsFrontOf (s.results ++ listed s.part) l) (sym goes.results)
    (front_behind s.results (listed s.part) goes.found
    (front_begins s.part goes.found goes.begins
    (known_behind s.results goes.found
    (subst (λ (l : List Outcome). AreKnown l) goes.results known))))

-- A front of such results is one of such results.
pub front_known : (front results : List Outcome) → IsFrontOf front results → AreKnown results → AreKnown front
front_known front results none known = tt
front_known front results (first {result = result} {front = front_} {others = others} is) known =
    (known.0, front_known front_ others is known.1)
front_known front results (open_rows rows more) known = (tt, tt)

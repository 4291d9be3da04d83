-- What payloads lead to where no report is among them: what is awaited, the results, and what there is of one more.
use Rattle.std.proofs.Common.{◌≡◌, ℕ, ◌+◌, List, [], ◌∷◌, ◌++◌, length, Bool, true, false, Option, Some, None, Result}
use Rattle.std.proofs.Common.{Ok, Err, refl, ap, sym, subst, ◌∙◌, if◌then◌else◌}
use Rattle.std.specs.Prelude.{◌==◌, ◌&&◌}
use Rattle.std.proofs.lemmas.Bool.{true≢false}
use Rattle.std.proofs.lemmas.List.{append-nil}
use Rattle.mysql_fields.specs.Wire.{◌>>=◌}
use Rattle.mysql_row_refs.specs.Lines.{begins_with}
use Rattle.mysql_rows.specs.Rows.{Row}
use Rattle.mysql_columns.specs.Columns.{ColumnDefinition}
use Rattle.mysql_server_packets.specs.Packets.{ProgressReport, progress_report_at}
use Rattle.mysql_reply_events.specs.Events.{Awaited, Event, ReplySoFar}
use Rattle.mysql_reply_events.specs.Events.Awaited.{Columns, ColumnsEnd, Fields, FileData, First, Nothing, Rows}
use Rattle.mysql_reply_events.specs.Events.Event.{ProgressEvent, RawRowEvent, RowEvent}
use Rattle.mysql_reply_events.specs.Readings.{begins_ok, begins_terminator, column, column_count, eof, field}
use Rattle.mysql_reply_events.specs.Readings.{has_report_form, ok_packet, optional_metadata, prepared, row}
use Rattle.mysql_reply_events.specs.Readings.{server_error, terminator}
use Rattle.mysql_reply_events.specs.Table.{Step, after_count, error_or, event_at, first, first_of_result, goes_on}
use Rattle.mysql_reply_events.specs.Table.{in_end, in_fields, in_place, in_rows, is_due, plain, row_event}
use Rattle.mysql_reply_events.specs.declared.context.Context.{Context}
use Rattle.mysql_reply_events.specs.declared.context.ReplyKind.{ReplyKind}
use Rattle.mysql_reply_events.specs.declared.context.ReplyKind.TheVariants as kinds
use Rattle.mysql_reply_events.specs.declared.fault.ReplyFault.{ReplyFault}
use Rattle.mysql_reply_events.specs.declared.fault.ReplyFault.TheVariants as faults
use Rattle.mysql_replies.specs.Together.{Outcome, Part, put, reported}
use Rattle.mysql_replies.specs.Reply.{GoingOn, OpenReply, Payload, after, led_by}
use Rattle.mysql_replies.specs.Manual.{Reads}
use Rattle.mysql_replies.proofs.Fitting.{OnStep, on_bind, on_if}

-- What is awaited, which results are whole, and what there is of one more.
pub record Came : Type 0 where
  pub so_far : ReplySoFar
  pub results : List Outcome
  pub part : Part

-- The same behind an event.
abbrev pub with_event : Came → Event → ReplySoFar → Came
with_event x event next =
    record {
      so_far = next;
      results = x.results ++ (put x.part event next).results;
      part =
          (put x.part event next).part;
    }

abbrev pub by_step : Came → Step → Option Came
by_step x (Ok e) = Some (with_event x e.0 e.1)
by_step x (Err fault) = None

-- The same behind a payload that is no report, where it has its place.
abbrev pub came_by : Context → Option Came → Payload → Option Came
came_by c None payload = None
came_by c (Some x) payload = by_step x (in_place c x.so_far x.so_far.awaited payload)

abbrev pub came_behind : Context → Option Came → List Payload → Option Came
came_behind c x [] = x
came_behind c x (payload ∷ payloads) = came_behind c (came_by c x payload) payloads

pub came_behind-append : (c : Context) (x : Option Came) (front back : List Payload) →
    came_behind c x (front ++ back) ≡ came_behind c (came_behind c x front) back
came_behind-append c x [] back = refl
came_behind-append c x (payload ∷ front) back = came_behind-append c (came_by c x payload) front back

pub none_behind : (c : Context) (payloads : List Payload) → came_behind c None payloads ≡ None
none_behind c [] = refl
none_behind c (payload ∷ payloads) = none_behind c payloads

-- Payloads, and others behind them.
pub and_then : (c : Context) (x y z : Option Came) (front back : List Payload) →
    came_behind c x front ≡ y → came_behind c y back ≡ z → came_behind c x (front ++ back) ≡ z
and_then c x y z front back one two = came_behind-append c x front back ∙
    ap (λ (k : Option Came). came_behind c k back) one ∙ two

-- One payload that is this event.
pub by_event : (c : Context) (x : Came) (payload : Payload) (event : Event) (next : ReplySoFar) →
    in_place c x.so_far x.so_far.awaited payload ≡ Ok (event, next) → came_by c (Some x) payload ≡
    Some (with_event x event next)
by_event c x payload event next is = ap (by_step x) is

-- A payload that leads on has its place.
abbrev pub or_this : Came → Option Came → Came
or_this x None = x
or_this x (Some y) = y

pub some_is : (x y : Came) → Some x ≡ Some y → x ≡ y
some_is x y is = ap (or_this x) is

pub none_is_some : (y : Came) → None ≡ Some y → ⊥
none_is_some y is = cc

pub has_step : (c : Context) (x y : Came) (r : Step) (payloads : List Payload) →
    came_behind c (by_step x r) payloads ≡ Some y → (e : Event × ReplySoFar) × (r ≡ Ok e)
has_step c x y (Ok e) payloads is = (e, refl)
has_step c x y (Err fault) payloads is = absurd (none_is_some y (sym (none_behind c payloads) ∙ is))

-- A payload led on.
pub goes_on_by : (c : Context) (x y : Came) (r : Step) (e : Event ×
    ReplySoFar) (payloads : List Payload) → r ≡ Ok e → came_behind c (by_step x r) payloads ≡
    Some y → came_behind c (Some (with_event x e.0 e.1)) payloads ≡ Some y
goes_on_by c x y r e payloads is goes = sym (ap (λ (k : Step). came_behind c (by_step x k) payloads) is) ∙ goes

pub due_in : (c : Context) (s : ReplySoFar) (a : Awaited) (payload : Payload) (e : Event ×
    ReplySoFar) → in_place c s a payload ≡ Ok e → is_due a ≡ true
due_in c s First payload e is = refl
due_in c s (Columns group n earlier) payload e is = refl
due_in c s (ColumnsEnd group known) payload e is = refl
due_in c s (Rows known) payload e is = refl
due_in c s Fields payload e is = refl
due_in c s FileData payload e is = absurd cc
due_in c s Nothing payload e is = absurd cc

-- NO REPORT STANDS IN ANOTHER PAYLOAD'S PLACE

abbrev NoReport : Event → ReplySoFar → Type 0
NoReport event next = reported event ≡ []

none_in_end : (c : Context) (s : ReplySoFar) (payload : Payload) → OnStep NoReport (in_end c s payload)
none_in_end c s payload = on_bind _ (terminator c payload) _ (λ ok. refl)

none_by_row : (c : Context) (s : ReplySoFar) (known : Bool)
    (columns : Option (List ColumnDefinition)) (payload : Payload) →
    OnStep NoReport (row_event c known columns payload >>= λ event. goes_on s event (Rows known))
none_by_row c s true (Some columns) payload = of_row (row c columns payload) where
  of_row : (r : Result Row ReplyFault) →
      OnStep NoReport ((r >>= λ found. Ok (RowEvent found)) >>= λ event. goes_on s event
      (Rows true))
  of_row (Ok found) = refl
  of_row (Err fault) = tt
none_by_row c s true None payload = of_raw true (optional_metadata c) where
  of_raw : (known b : Bool) →
      OnStep NoReport ((if b then Ok (RawRowEvent payload) else Err faults.BadRow) >>= λ event.
      goes_on s event (Rows known))
  of_raw known true = refl
  of_raw known false = tt
none_by_row c s false columns payload = of_raw (optional_metadata c) where
  of_raw : (b : Bool) → OnStep NoReport
      ((if b then Ok (RawRowEvent payload) else Err faults.BadRow) >>= λ event. goes_on s event
      (Rows false))
  of_raw true = refl
  of_raw false = tt

none_in_rows : (c : Context) (s : ReplySoFar) (known : Bool) (payload : Payload) →
    OnStep NoReport (in_rows c s known payload)
none_in_rows c s known payload =
    on_if _ (begins_terminator c payload) _ _ (none_in_end c s payload)
    (none_by_row c s known s.columns payload)

none_in_fields : (c : Context) (s : ReplySoFar) (payload : Payload) → OnStep NoReport (in_fields c s payload)
none_in_fields c s payload =
    on_if _ (begins_terminator c payload) _ _ (none_in_end c s payload)
    (on_bind _ (field c payload) _ (λ found. refl))

none_first_of_result : (c : Context) (s : ReplySoFar) (payload : Payload) →
    OnStep NoReport (first_of_result c s payload)
none_first_of_result c s payload =
    on_if _ (begins_ok c payload) _ _ (on_bind _ (ok_packet c payload) _ (λ ok. refl))
    (on_if _ (begins_with 251 payload) _ _ refl
    (on_if _ (length payload == 0) _ _ tt
    (on_bind _ (column_count c payload) _ (λ count. on_bind _ (after_count c s.columns count) _ (λ next. refl)))))

none_plain : (c : Context) (s : ReplySoFar) (payload : Payload) → OnStep NoReport (plain c s payload)
none_plain c s payload =
    on_if _ (begins_with 0 payload) _ _ (on_bind _ (ok_packet c payload) _ (λ ok. refl))
    (on_if _ (begins_terminator c payload) _ _ (none_in_end c s payload) tt)

none_first : (c : Context) (s : ReplySoFar) (kind : ReplyKind) (payload : Payload) →
    OnStep NoReport (first c s kind payload)
none_first c s kinds.Text payload = none_first_of_result c s payload
none_first c s kinds.Binary payload = none_first_of_result c s payload
none_first c s kinds.Prepare payload =
    on_if _ (begins_with 0 payload) _ _ (on_bind _ (prepared c payload) _ (λ x. refl)) tt
none_first c s kinds.Plain payload = none_plain c s payload
none_first c s kinds.Line payload = refl
none_first c s kinds.FieldList payload = none_in_fields c s payload
none_first c s kinds.Fetch payload = none_in_rows c s true payload

none_or_error : (c : Context) (s : ReplySoFar) (payload : Payload) (otherwise : Step) →
    OnStep NoReport otherwise → OnStep NoReport (error_or c s payload otherwise)
none_or_error c s payload otherwise is =
    on_if _ (begins_with 255 payload) _ _ (on_bind _ (server_error c payload) _ (λ error. refl)) is

none_in_place : (c : Context) (s : ReplySoFar) (a : Awaited) (payload : Payload) →
    OnStep NoReport (in_place c s a payload)
none_in_place c s First payload = none_or_error c s payload _ (none_first c s c.kind payload)
none_in_place c s (Columns group n earlier) payload = on_bind _ (column c payload) _ (λ found. refl)
none_in_place c s (ColumnsEnd group known) payload = on_bind _ (eof payload) _ (λ ok. refl)
none_in_place c s (Rows known) payload = none_or_error c s payload _ (none_in_rows c s known payload)
none_in_place c s Fields payload = none_or_error c s payload _ (none_in_fields c s payload)
none_in_place c s FileData payload = tt
none_in_place c s Nothing payload = tt

pub no_report : (c : Context) (s : ReplySoFar) (a : Awaited) (payload : Payload) (event : Event)
    (next : ReplySoFar) → in_place c s a payload ≡ Ok (event, next) → reported event ≡ []
no_report c s a payload event next is = subst (OnStep NoReport) is (none_in_place c s a payload)

-- THE REPLY, WITH ITS REPORTS AND THE NUMBER OF PAYLOADS

abbrev pub opened : Context → Came → List ProgressReport → ℕ → OpenReply
opened c x progress count =
    record {
      context = c;
      so_far = x.so_far;
      results = x.results;
      progress = progress;
      part =
          x.part;
      count = count;
    }

by_form : (due form : Bool) (one other : Step) → form ≡ false → (if due && form then one else other) ≡ other
by_form true true one other denied = absurd (true≢false denied)
by_form true false one other denied = refl
by_form false form one other denied = refl

-- A payload that isn't in a report's form.
pub behind_other : (c : Context) (x : Came) (progress : List ProgressReport) (count : ℕ)
    (payload : Payload) (event : Event) (next : ReplySoFar) → has_report_form c payload ≡ false →
    in_place c x.so_far x.so_far.awaited payload ≡ Ok (event, next) →
    after (GoingOn (opened c x progress count)) payload ≡
    GoingOn (opened c (with_event x event next) progress (count + 1))
behind_other c x progress count payload event next denied is =
    let s = opened c x progress count in
    let same : event_at c x.so_far payload ≡ Ok (event, next) =
    by_form (is_due x.so_far.awaited) (has_report_form c payload) _ _ denied ∙ is in
    let none : progress ++ reported event ≡ progress =
    ap (λ (k : List ProgressReport). progress ++
    k) (no_report c x.so_far x.so_far.awaited payload event next is) ∙ append-nil progress in
    ap (led_by s) same ∙ ap (λ (k : List ProgressReport). GoingOn
    (opened c (with_event x event next) k (count + 1))) none

-- A report, where a payload is due.
pub behind_report : (c : Context) (x : Came) (progress : List ProgressReport) (count : ℕ)
    (payload : Payload) (said : ProgressReport) → is_due x.so_far.awaited ≡ true →
    has_report_form c payload ≡ true → Reads (progress_report_at payload) said →
    after (GoingOn (opened c x progress count)) payload ≡ GoingOn (opened c x (progress ++ said ∷ []) (count + 1))
behind_report c x progress count payload said due form reads =
    let s = opened c x progress count in
    let same : event_at c x.so_far payload ≡ Ok (ProgressEvent said, x.so_far) = rw (due, form, reads.1) refl in
    ap (led_by s) same ∙ ap (λ (k : List Outcome). GoingOn
    (record (opened c x (progress ++ said ∷ []) (count + 1)) { results = k }))
    (append-nil x.results)

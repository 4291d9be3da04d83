-- A payload whose row isn't kept: a row is lent, or the payload is put as ever.
use Rattle.std.proofs.Common.{◌≡◌, ◌+◌, ◌^◌, ◌<◌, List, Bool, true, false, Option, Some, None, Result, Ok, Err, refl}
use Rattle.std.proofs.Common.{ap, sym, subst, ◌∙◌, if◌then◌else◌}
use Rattle.std.specs.Prelude.{OnOk, IfErr, map}
use Rattle.std.proofs.lemmas.List.{append-nil}
use Rattle.mysql_fields.specs.Wire.{◌>>=◌}
use Rattle.mysql_const.specs.declared.capabilities.Capabilities.{Capabilities}
use Rattle.mysql_columns.specs.Columns.{ColumnDefinition}
use Rattle.mysql_row_refs.specs.Lines.{begins_with}
use Rattle.mysql_rows.specs.Rows.{Row}
use Rattle.mysql_rows.specs.declared.row.Row.{Row as RowOf}
use Rattle.mysql_server_packets.specs.Views.{progress_report_view}
use Rattle.mysql_reply_events.specs.Events as events
use Rattle.mysql_reply_events.specs.Events.{Event}
use Rattle.mysql_reply_events.specs.Events.Event.{RawRowEvent, RowEvent}
use Rattle.mysql_reply_events.specs.NextRows.{LendsRow, TakesRow}
use Rattle.mysql_reply_events.specs.Reader.{ReaderState as EventsState, ReadsRow, is_row_due}
use Rattle.mysql_reply_events.specs.Readings.{begins_terminator, has_report_form, optional_metadata, report}
use Rattle.mysql_reply_events.specs.Readings.{server_error, terminator}
use Rattle.mysql_reply_events.specs.Table.{event_at, goes_on}
use Rattle.mysql_reply_events.specs.Views.{event_view}
use Rattle.mysql_reply_events.specs.declared.context.Context.{Context}
use Rattle.mysql_reply_events.specs.declared.context.ReplyKind.{ReplyKind}
use Rattle.mysql_reply_events.specs.declared.context.ReplyKind.TheVariants as kinds
use Rattle.mysql_reply_events.specs.declared.event.ReplyEvent.{ReplyEvent}
use Rattle.mysql_reply_events.specs.declared.event.ReplyEvent.TheVariants as reading
use Rattle.mysql_reply_events.specs.declared.fault.ReplyFault.TheVariants as event_faults
use Rattle.mysql_replies.specs.declared.fault.ReplyFault.{ReplyFault}
use Rattle.mysql_replies.specs.declared.fault.ReplyFault.TheVariants as faults
use Rattle.mysql_replies.specs.declared.state.ReplyState.{ReplyState}
use Rattle.mysql_replies.specs.Borrowing.{rows_listed}
use Rattle.mysql_replies.specs.Together as together
use Rattle.mysql_replies.specs.Together.{FieldsPart, NoPart, Part, RawRowsPart, RowsPart, SetPart, StatementPart}
use Rattle.mysql_replies.specs.Reply.{GoingOn, Payload, behind}
use Rattle.mysql_replies.specs.Putting.{HasRead, PutsEvent}
use Rattle.mysql_replies.specs.RowSteps.{StateBorrowsNext, keeping}
use Rattle.mysql_replies.specs.States.{FitsAt, IsReading, IsRowsPart, faulted, open_reply, reply_so_far}
use Rattle.mysql_replies.specs.Views.{outcome_views, part_view}
use Rattle.mysql_replies.proofs.Fitting.{OnStep, fits_behind, on_bind, on_if}
use Rattle.mysql_replies.proofs.KeptNone.{IsNoRow, behind_rows, faulted_rows}
use Rattle.mysql_replies.proofs.Numbers.{goes_over_numbered}
use Rattle.mysql_replies.proofs.RowSteps.{row_kept}
use Rattle.mysql_replies.proofs.Stepping.{event_went, goes_by}
use Rattle.mysql_replies.proofs.Taken.{IsBehind, short_between}

-- What a state is behind a payload whose row isn't kept, by what was answered.
pub record IsBorrowing (old : ReplyState) (payload : Payload) (r : Result Bool ReplyFault)
    (new : ReplyState) : Type 0 where
  pub reading : IsReading new
  pub ok : OnOk r ((new.fault ≡ None) × (new.count ≡ old.count + 1))
  pub fault : IfErr r (λ fault. new.fault ≡ Some fault)
  pub step : StateBorrowsNext old payload r new
  pub keeps_none : rows_listed (reply_so_far new) ≡ rows_listed (reply_so_far old)

-- AN EVENT

pub no_row : (event : ReplyEvent) → ((row : RowOf) → event ≡ reading.Row row → ⊥) → IsNoRow (event_view event)
no_row (reading.Ok ok) none = tt
no_row (reading.Error error) none = tt
no_row (reading.Progress report) none = tt
no_row (reading.ColumnCount count follow) none = tt
no_row (reading.Column column) none = tt
no_row (reading.Field column) none = tt
no_row (reading.ColumnsEnd ok) none = tt
no_row (reading.Row row) none = none row refl
no_row (reading.RawRow bytes) none = tt
no_row (reading.RowsEnd ok) none = tt
no_row (reading.FileRequest file) none = tt
no_row (reading.Prepared statement follow) none = tt
no_row (reading.Line bytes) none = tt

-- What was put behind an event that is no row, or memory ran out over it.
pub put_rows_kept : (old between next : ReplyState) (payload : Payload) (event : Event)
    (r : Result (Unit {0}) ReplyFault) → old.fault ≡ None → IsNoRow event →
    HasRead old payload event between → PutsEvent between event r next →
    rows_listed (reply_so_far next) ≡ rows_listed (reply_so_far old)
put_rows_kept old between next payload event (Ok x) going none read put =
    ap rows_listed (event_went old between next payload event going read put)
    ∙ behind_rows (open_reply old) event between.events.so_far none
    ∙ ap (λ (f : Option ReplyFault). rows_listed (faulted (open_reply old) f)) (sym going)
put_rows_kept old between next payload event (Err fault) going none read (is, stopped) =
    ap rows_listed (short_between old between next payload event read stopped)
    ∙ faulted_rows (open_reply old) faults.Memory
    ∙ ap (λ (f : Option ReplyFault). rows_listed (faulted (open_reply old) f)) (sym going)

pub passed : (old next : ReplyState) (payload : Payload) → old.fault ≡ None →
    old.count + 1 < 2 ^ 64 → IsBehind old payload (Ok tt) next → rows_listed (reply_so_far next) ≡
    rows_listed (reply_so_far old) → IsBorrowing old payload (Ok false) next
passed old next payload going room h kept = record {
  reading = h.reading;
  ok = h.ok;
  fault = tt;
  step = goes_over_numbered old next payload going room (λ none. h.ok.1) h.goes_on;
  keeps_none = kept;
}

-- A ROW

-- Where a row is due that may be lent there are rows so far under the columns that stand.
due_first : (kind : ReplyKind) (capabilities : Capabilities)
    (columns : Option (List ColumnDefinition)) (part : Part) (payload : Payload) →
    is_row_due (record { kind = kind; capabilities = capabilities })
    (record { awaited = events.First; columns = columns }) payload ≡ true →
    FitsAt kind events.First columns part → (these : List ColumnDefinition) × IsRowsPart these part
due_first kinds.Fetch capabilities (Some columns) part payload due fits = (columns, fits)
due_first kinds.Fetch capabilities None part payload due fits = absurd cc
due_first kinds.Text capabilities columns part payload due fits = absurd cc
due_first kinds.Binary capabilities columns part payload due fits = absurd cc
due_first kinds.Prepare capabilities columns part payload due fits = absurd cc
due_first kinds.Plain capabilities columns part payload due fits = absurd cc
due_first kinds.Line capabilities columns part payload due fits = absurd cc
due_first kinds.FieldList capabilities columns part payload due fits = absurd cc

due_at : (c : Context) (awaited : events.Awaited) (columns : Option (List ColumnDefinition))
    (part : Part) (payload : Payload) →
    is_row_due c (record { awaited = awaited; columns = columns }) payload ≡ true →
    FitsAt c.kind awaited columns part → (these : List ColumnDefinition) × IsRowsPart these part
due_at c (events.Rows true) (Some columns) part payload due fits = (columns, fits)
due_at c (events.Rows true) None part payload due fits = absurd cc
due_at c (events.Rows false) columns part payload due fits = absurd cc
due_at c events.First columns part payload due fits = due_first c.kind c.capabilities columns part payload due fits
due_at c (events.Columns group n earlier) columns part payload due fits = absurd cc
due_at c (events.ColumnsEnd group known) columns part payload due fits = absurd cc
due_at c events.Fields columns part payload due fits = absurd cc
due_at c events.FileData columns part payload due fits = absurd cc
due_at c events.Nothing columns part payload due fits = absurd cc

rows_part : (part : Part) (these : List ColumnDefinition) → IsRowsPart these part →
    (columns : List ColumnDefinition) × (rows : List Row) × (part ≡ RowsPart columns rows)
rows_part (RowsPart columns rows) these is = (columns, rows, refl)
rows_part NoPart these is = absurd is
rows_part (SetPart known) these is = absurd is
rows_part (RawRowsPart rows) these is = absurd is
rows_part (StatementPart statement parameters columns) these is = absurd is
rows_part (FieldsPart fields) these is = absurd is

-- With one row fewer it fits as well.
fits_without : (kind : ReplyKind) (columns : Option (List ColumnDefinition)) (part : Part)
    (row : Row) → FitsAt kind (events.Rows true) columns (together.with_row part row) →
    FitsAt kind (events.Rows true) columns part
fits_without kind (Some columns) (RowsPart these rows) row fits = fits
fits_without kind (Some columns) NoPart row fits = fits
fits_without kind (Some columns) (SetPart known) row fits = fits
fits_without kind (Some columns) (RawRowsPart rows) row fits = fits
fits_without kind (Some columns) (StatementPart statement parameters found) row fits = fits
fits_without kind (Some columns) (FieldsPart fields) row fits = fits
fits_without kind None part row fits = tt

-- The state behind a row that was lent.
abbrev pub lent : ReplyState → EventsState → ReplyState
lent old events = record old { events = events; count = old.count + 1 }

-- There are rows so far, and the payload is a row.
lent_behind : (old : ReplyState) (payload : Payload) (now : EventsState) → IsReading old →
    old.fault ≡ None → old.count + 1 < 2 ^ 64 → (these : List ColumnDefinition) ×
    IsRowsPart these (part_view old.part) → ReadsRow old.events payload now →
    IsBorrowing old payload (Ok true) (lent old now)
lent_behind old payload now keeps going room at read =
    let new = lent old now in
    let part = rows_part (part_view old.part) at.0 at.1 in
    let kept : open_reply (keeping new read.row) ≡
    behind (open_reply old) (RowEvent read.row) now.so_far = λ i. record {
      context = read.goes_on.context i;
      so_far = now.so_far;
      results = sym (append-nil (outcome_views old.results.items)) i;
      progress = sym (append-nil (map progress_report_view old.progress.items)) i;
      part = row_kept old.part read.row i;
      count = old.count + 1;
    } in
    let led : reply_so_far (keeping new read.row) ≡ GoingOn (behind (open_reply old) (RowEvent read.row) now.so_far) =
    ap (faulted (open_reply (keeping new read.row))) going ∙ ap GoingOn kept in
    let fits : FitsAt old.events.context.kind now.so_far.awaited now.so_far.columns
    (together.with_row (part_view old.part) read.row) =
    fits_behind old.events.context old.events.so_far (part_view old.part) payload
    (RowEvent read.row) now.so_far (keeps.fits going) read.event in
    let fewer : FitsAt old.events.context.kind (events.Rows true) now.so_far.columns (part_view old.part) =
    fits_without old.events.context.kind now.so_far.columns (part_view old.part) read.row
    (subst (λ (a : events.Awaited). FitsAt old.events.context.kind a now.so_far.columns
    (together.with_row (part_view old.part) read.row)) read.awaits fits) in
    let fitting : FitsAt now.context.kind now.so_far.awaited now.so_far.columns (part_view old.part) =
    subst (λ (a : events.Awaited). FitsAt now.context.kind a now.so_far.columns (part_view old.part)) (sym read.awaits)
    (subst (λ (c : Context). FitsAt c.kind (events.Rows true) now.so_far.columns
    (part_view old.part)) (sym read.goes_on.context) fewer) in
    record {
      reading = record {
        no_fault = λ none. read.goes_on.fault;
        fits = λ none. fitting;
        room =
            keeps.room;
        spared = keeps.spared;
        empty = keeps.empty;
      };
      ok = (going, refl);
      fault = tt;
      step = record {
        row = read.row;
        lies = read.lies;
        columns = part.0;
        rows = part.1;
        part = part.2;
        goes_on = goes_over_numbered old (keeping new read.row) payload going room (λ none. refl)
            (goes_by old (keeping new read.row) payload (Ok (RowEvent read.row, now.so_far)) going read.event led);
      };
      keeps_none = ap (λ (f : Option ReplyFault). rows_listed (faulted (open_reply new) f)) going ∙
          ap (λ (f : Option ReplyFault). rows_listed (faulted (open_reply old) f)) (sym going);
    }

-- A row that was due, a first one too.
pub row_lent : (old : ReplyState) (payload : Payload) (now : EventsState) → IsReading old →
    old.fault ≡ None → old.count + 1 < 2 ^ 64 → LendsRow old.events payload true now →
    IsBorrowing old payload (Ok true) (lent old now)
row_lent old payload now keeps going room (due, read) =
    lent_behind old payload now keeps going room
    (due_at old.events.context old.events.so_far.awaited old.events.so_far.columns
    (part_view old.part) payload due (keeps.fits going)) read

-- Where no columns stand, no payload is a row that is known.
abbrev NoRow : Event → events.ReplySoFar → Type 0
NoRow event next = IsNoRow event

none_known : (c : Context) (s : events.ReplySoFar) (payload : Payload) (b : Bool) →
    OnStep NoRow ((if b then Ok (RawRowEvent payload) else Err event_faults.BadRow) >>= λ event.
    goes_on s event (events.Rows true))
none_known c s payload true = tt
none_known c s payload false = tt

no_columns : (c : Context) (payload : Payload) →
    OnStep NoRow (event_at c (record { awaited = events.Rows true; columns = None }) payload)
no_columns c payload =
    let s : events.ReplySoFar = record { awaited = events.Rows true; columns = None } in
    on_if NoRow (has_report_form c payload) _ _ (on_bind NoRow (report payload) _ (λ said. tt))
    (on_if NoRow (begins_with 255 payload) _ _ (on_bind NoRow (server_error c payload) _ (λ error. tt))
    (on_if NoRow (begins_terminator c payload) _ _ (on_bind NoRow (terminator c payload) _ (λ ok. tt))
    (none_known c s payload (optional_metadata c))))

known_at : (c : Context) (columns : Option (List ColumnDefinition)) (part : Part)
    (payload : Payload) (row : Row) (next : events.ReplySoFar) →
    event_at c (record { awaited = events.Rows true; columns = columns }) payload ≡
    Ok (RowEvent row, next) → FitsAt c.kind (events.Rows true) columns part →
    (these : List ColumnDefinition) × IsRowsPart these part
known_at c (Some columns) part payload row next is fits = (columns, fits)
known_at c None part payload row next is fits = absurd (subst (OnStep NoRow) is (no_columns c payload))

-- A row behind another one.
pub next_row_lent : (old : ReplyState) (payload : Payload) (now : EventsState) → IsReading old →
    old.fault ≡ None → old.count + 1 < 2 ^ 64 → TakesRow old.events payload true now →
    IsBorrowing old payload (Ok true) (lent old now)
next_row_lent old payload now keeps going room (awaits, read) =
    let c = old.events.context in
    let columns = old.events.so_far.columns in
    let is : event_at c (record { awaited = events.Rows true; columns = columns }) payload ≡
    Ok (RowEvent read.row, now.so_far) =
    subst (λ (a : events.Awaited). event_at c (record { awaited = a; columns = columns }) payload ≡
    Ok (RowEvent read.row, now.so_far)) awaits read.event in
    let fits : FitsAt c.kind (events.Rows true) columns (part_view old.part) =
    subst (λ (a : events.Awaited). FitsAt c.kind a columns (part_view old.part)) awaits (keeps.fits going) in
    lent_behind old payload now keeps going room
    (known_at c columns (part_view old.part) payload read.row now.so_far is fits) read

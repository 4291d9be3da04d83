-- What the state is behind a payload: its event is put, a row is taken in place, or a fault was met.
use Rattle.std.proofs.Common.{◌≡◌, ◌+◌, ◌<◌, List, [], ◌∷◌, ◌++◌, Some, None, Result, Ok, Err, refl, ap, sym, subst}
use Rattle.std.proofs.Common.{arith, ◌∙◌}
use Rattle.std.specs.Prelude.{OnOk, IfErr, Vec, map, vec_len, vec_capacity}
use Rattle.std.specs.declared.alloc.Global.{Global}
use Rattle.std.proofs.lemmas.List.{append-nil}
use Rattle.mysql_rows.specs.Views.{row_view}
use Rattle.mysql_rows.specs.declared.row.Row.{Row as RowOf}
use Rattle.mysql_server_packets.specs.Views.{progress_report_view}
use Rattle.mysql_server_packets.specs.declared.progress_report.ProgressReport.{ProgressReport}
use Rattle.mysql_reply_events.specs.Events.{Event}
use Rattle.mysql_reply_events.specs.Events.Event.{RowEvent}
use Rattle.mysql_reply_events.specs.NextRows.{KeepsRow}
use Rattle.mysql_reply_events.specs.Reader.{ReaderState as EventsState}
use Rattle.mysql_reply_events.specs.Views.{event_view}
use Rattle.mysql_reply_events.specs.declared.event.ReplyEvent.{ReplyEvent}
use Rattle.mysql_reply_events.specs.declared.event.ReplyEvent.TheVariants as events
use Rattle.mysql_replies.specs.OpenRows.{RowsSoFar}
use Rattle.mysql_replies.specs.declared.fault.ReplyFault.{ReplyFault}
use Rattle.mysql_replies.specs.declared.fault.ReplyFault.TheVariants as faults
use Rattle.mysql_replies.specs.declared.part.Listed.{Listed}
use Rattle.mysql_replies.specs.declared.part.Part.{Part as PartOf}
use Rattle.mysql_replies.specs.declared.part.Part.TheVariants as parts
use Rattle.mysql_replies.specs.declared.results.ReplyResult.{ReplyResult}
use Rattle.mysql_replies.specs.declared.state.ReplyState.{ReplyState}
use Rattle.mysql_replies.specs.Together as together
use Rattle.mysql_replies.specs.Together.{Outcome, RowsPart, reported}
use Rattle.mysql_replies.specs.Reply.{Answered, OpenReply, Payload, behind, faulted_at}
use Rattle.mysql_replies.specs.Putting.{HasNoPlace, HasPut, HasRead, HasStopped, HasTakenRow, PutsEvent, listed_views}
use Rattle.mysql_replies.specs.States.{Fits, HasRoom, IsReading, IsShortOf, OnMemory, StateGoesOn, UnlessMemory}
use Rattle.mysql_replies.specs.States.{open_reply}
use Rattle.mysql_replies.specs.Views.{outcome_views, part_view}
use Rattle.mysql_replies.proofs.Fitting.{fits_behind}
use Rattle.mysql_replies.proofs.Stepping.{falls_short, read_goes, refused_goes, reply_behind, row_goes}

-- WHAT A PAYLOAD LEADS TO

-- What a state is behind a payload, by what was answered.
pub record IsBehind (old : ReplyState) (payload : Payload) (r : Result (Unit {0}) ReplyFault)
    (new : ReplyState) : Type 0 where
  pub reading : IsReading new
  pub ok : OnOk r ((new.fault ≡ None) × (new.count ≡ old.count + 1))
  pub fault : IfErr r (λ fault. new.fault ≡ Some fault)
  pub goes_on : UnlessMemory r (StateGoesOn old payload new)
  pub short : OnMemory r (IsShortOf old new)

fault_goes : (old new : ReplyState) (payload : Payload) (fault : ReplyFault) → old.fault ≡ None →
    HasStopped old fault new → HasNoPlace old payload fault →
    UnlessMemory {X = Unit {0}} (Err fault) (StateGoesOn old payload new)
fault_goes old new payload faults.Memory going stopped none = tt
fault_goes old new payload fault going stopped none =
    refused_goes old new payload fault none.0 going stopped none.1 none.2

fault_short : (old new : ReplyState) (fault : ReplyFault) → HasStopped old fault new →
    OnMemory {X = Unit {0}} (Err fault) (IsShortOf old new)
fault_short old new faults.Memory stopped = falls_short old new stopped
fault_short old new fault stopped = tt

pub behind_fault : (old new : ReplyState) (payload : Payload) (fault : ReplyFault) → old.fault ≡
    None → HasStopped old fault new × HasNoPlace old payload fault →
    IsBehind old payload (Err fault) new
behind_fault old new payload fault going (stopped, none) = record {
  reading = stopped.reading;
  ok = tt;
  fault = stopped.fault;
  goes_on = fault_goes old new payload fault going stopped none;
  short = fault_short old new fault stopped;
}

-- A row was taken in place.
pub behind_row : (old new : ReplyState) (payload : Payload) → old.fault ≡ None →
    HasTakenRow old payload new → IsBehind old payload (Ok tt) new
behind_row old new payload going taken = record {
  reading = taken.reading;
  ok = (taken.fault, ap (λ (s : OpenReply). s.count) taken.reply);
  fault = tt;
  goes_on = row_goes old new payload going taken;
  short = tt;
}

-- What there is of a result fits what is awaited behind an event that was put.
fits_next : (old between next : ReplyState) (payload : Payload) (event : Event) → IsReading old →
    old.fault ≡ None → HasRead old payload event between → HasPut between event next →
    Fits (open_reply next)
fits_next old between next payload event reading going read put =
    subst Fits (sym (reply_behind old between next payload event read put))
    (fits_behind old.events.context old.events.so_far (part_view old.part) payload event
    between.events.so_far (reading.fits going) read.event)

reading_next : (old between next : ReplyState) (payload : Payload) (event : Event) → IsReading old →
    old.fault ≡ None → HasRead old payload event between → HasPut between event next →
    IsReading next
reading_next old between next payload event reading going read put = record {
  no_fault = λ none. ap (λ (events : EventsState). events.fault) put.events ∙ read.going.fault;
  fits = λ none. fits_next old between next payload event reading going read put;
  room = λ some. put.results;
  spared = λ some any. subst
      (λ (spare : Vec ReplyResult Global). vec_len spare < vec_capacity spare) (sym put.spare)
      read.room.spare;
  empty = ap (λ (spare : Vec ReplyResult Global). spare.items) put.spare ∙ read.room.empty;
}

-- The same is listed behind an event that isn't put yet.
pub same_between : (old between : ReplyState) (payload : Payload) (event : Event)
    (fault : ReplyFault) → HasRead old payload event between →
    faulted_at (open_reply between) fault ≡ faulted_at (open_reply old) fault
same_between old between payload event fault read =
    ap (λ (s : ReplyState). faulted_at (open_reply s) fault) read.rest
    ∙ (λ i. faulted_at (record (open_reply old) { results = outcome_views (read.results i) }) fault)

pub short_between : (old between next : ReplyState) (payload : Payload) (event : Event) →
    HasRead old payload event between → HasStopped between faults.Memory next → IsShortOf old next
short_between old between next payload event read stopped =
    falls_short between next stopped ∙ ap Answered (same_between old between payload event faults.Memory read)

-- An event was read, and then put.
pub behind_event : (old between next : ReplyState) (payload : Payload) (event : Event)
    (r : Result (Unit {0}) ReplyFault) → IsReading old → old.fault ≡ None →
    HasRead old payload event between → PutsEvent between event r next → IsBehind old payload r next
behind_event old between next payload event (Ok x) reading going read put = record {
  reading = reading_next old between next payload event reading going read put;
  ok = (
    put.fault ∙ ap (λ (s : ReplyState). s.fault) read.rest ∙ going,
    ap (λ (s : OpenReply). s.count) (reply_behind old between next payload event read put),
  );
  fault = tt;
  goes_on = read_goes old between next payload event going read put;
  short = tt;
}
behind_event old between next payload event (Err fault) reading going read (is, stopped) = record {
  reading = stopped.reading;
  ok = tt;
  fault = stopped.fault ∙ ap Some (sym is);
  goes_on = subst (λ (f : ReplyFault). UnlessMemory {X = Unit {0}} (Err f) (StateGoesOn old payload next)) (sym is) tt;
  short = subst (λ (f : ReplyFault). OnMemory {X = Unit {0}} (Err f) (IsShortOf old next)) (sym is)
      (short_between old between next payload event read stopped);
}

-- Nothing but the spare list has changed before.
pub behind_same : (old mid next : ReplyState) (payload : Payload)
    (r : Result (Unit {0}) ReplyFault) → mid ≡ record old { spare = mid.spare } →
    IsBehind mid payload r next → IsBehind old payload r next
behind_same old mid next payload r same h =
    let k = subst (λ (s : ReplyState). IsBehind s payload r next) same h in
    record { reading = k.reading; ok = k.ok; fault = k.fault; goes_on = k.goes_on; short = k.short }

-- A ROW IN PLACE

-- A row that was read is behind those so far.
pub row_taken : (old new : ReplyState) (payload : Payload) (open_rows : RowsSoFar) (row : RowOf) →
    IsReading old → old.fault ≡ None → old.part ≡ parts.Rows open_rows →
    KeepsRow old.events payload (Ok (Some row)) new.events →
    new ≡ record old {
      events = new.events;
      spare = new.spare;
      part =
          parts.Rows (record open_rows { rows = open_rows.rows ++ row_view row ∷ [] });
      count =
          old.count + 1;
    } → vec_len new.spare < vec_capacity new.spare → new.spare.items ≡ [] →
    HasTakenRow old payload new
row_taken old new payload open_rows row reading going is kept same spare empty =
    let results = outcome_views old.results.items in
    let progress = map progress_report_view old.progress.items in
    let reply : open_reply new ≡ behind (open_reply old) (RowEvent (row_view row)) new.events.so_far =
    ap open_reply same ∙ (λ i. record {
      context = kept.1.context i;
      so_far = new.events.so_far;
      results = sym (append-nil results) i;
      progress = sym (append-nil progress) i;
      part = together.with_row (part_view (sym is i)) (row_view row);
      count = old.count + 1;
    }) in
    record {
      row = row_view row;
      event = kept.0;
      reply = reply;
      fault = ap (λ (s : ReplyState). s.fault) same ∙ going;
      reading = record {
        no_fault = λ none. kept.1.fault;
        fits = λ none. subst Fits (sym reply)
            (fits_behind old.events.context old.events.so_far (part_view old.part) payload
            (RowEvent (row_view row)) new.events.so_far (reading.fits going) kept.0);
        room = λ some.
            let one : 0 < 1 = omega arith in
            let room : HasRoom (RowsPart open_rows.columns open_rows.rows) old.results =
            subst (λ (p : PartOf). HasRoom (part_view p) old.results) is reading.room in
            subst (λ (s : ReplyState). vec_len s.results < vec_capacity s.results) (sym same) (room one);
        spared = λ some any. spare;
        empty = empty;
      };
    }

-- EVENTS

-- An event that is no progress report.
pub no_report : (event : ReplyEvent) →
    ((report : ProgressReport) → event ≡ events.Progress report → ⊥) → reported (event_view event) ≡
    []
no_report (events.Ok ok) none = refl
no_report (events.Error error) none = refl
no_report (events.Progress report) none = absurd (none report refl)
no_report (events.ColumnCount count follow) none = refl
no_report (events.Column column) none = refl
no_report (events.Field column) none = refl
no_report (events.ColumnsEnd ok) none = refl
no_report (events.Row row) none = refl
no_report (events.RawRow bytes) none = refl
no_report (events.RowsEnd ok) none = refl
no_report (events.FileRequest file) none = refl
no_report (events.Prepared statement follow) none = refl
no_report (events.Line bytes) none = refl

-- What an event makes whole is listed, and what is left open is there.
pub put_moved : (old new : ReplyState) (event : Event) (found : Listed) (next : PartOf) → reported event ≡ [] →
    (listed_views found ≡ (together.put (part_view old.part) event old.events.so_far).results) ×
    (part_view next ≡ (together.put (part_view old.part) event old.events.so_far).part) →
    outcome_views new.results.items ≡ outcome_views old.results.items ++ listed_views found → new ≡
    record old { part = next; results = new.results; count = old.count + 1 } →
    vec_len new.results < vec_capacity new.results → HasPut old event new
put_moved old new event found next none put listing same room =
    let progress = map progress_report_view old.progress.items in
    let results : outcome_views new.results.items ≡ outcome_views old.results.items ++
    (together.put (part_view old.part) event old.events.so_far).results =
    listing ∙ ap (λ (l : List Outcome). outcome_views old.results.items ++ l) put.0 in
    let reports : progress ≡ progress ++ reported event =
    subst (λ (l : List _). progress ≡ progress ++ l) (sym none) (sym (append-nil progress)) in
    record {
      reply = ap open_reply same ∙ (λ i. record {
        context = old.events.context;
        so_far = old.events.so_far;
        results = results i;
        progress = reports i;
        part = put.1 i;
        count = old.count + 1;
      });
      fault = ap (λ (s : ReplyState). s.fault) same;
      events = ap (λ (s : ReplyState). s.events) same;
      results = room;
      spare = ap (λ (s : ReplyState). s.spare) same;
    }

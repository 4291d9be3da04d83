-- A row that is due and lies in its payload is the row of the table.
use Rattle.std.proofs.Common.{◌≡◌, List, Bool, true, false, Option, Some, None, Result, Ok, Err, refl, ap, sym, subst}
use Rattle.std.proofs.Common.{◌∙◌}
use Rattle.std.specs.Prelude.{◌==◌, ◌&&◌, not, if◌then◌else◌, length}
use Rattle.mysql_columns.specs.Columns.{ColumnDefinition}
use Rattle.mysql_const.specs.declared.capabilities.Capabilities.{Capabilities}
use Rattle.mysql_fields.specs.Wire.{Reading, ◌>>=◌}
use Rattle.mysql_row_refs.specs.Lines.{begins_with, is_row}
use Rattle.mysql_row_refs.specs.RowRefs.{row_of, with_none_left}
use Rattle.mysql_row_refs.specs.declared.format.RowFormat.TheVariants.{Binary, Text}
use Rattle.mysql_row_refs.specs.declared.format.RowFormat.{RowFormat}
use Rattle.mysql_row_refs.specs.declared.errors.RowError.{RowError}
use Rattle.mysql_row_refs.specs.declared.errors.RowError.TheVariants.{BytesLeft}
use Rattle.mysql_rows.specs.Rows.{Row, as_row, binary_resultset_row_at, text_row_at}
use Rattle.mysql_reply_events.specs.declared.context.Context.{Context}
use Rattle.mysql_reply_events.specs.declared.context.ReplyKind.{ReplyKind}
use Rattle.mysql_reply_events.specs.declared.context.ReplyKind.TheVariants as kinds
use Rattle.mysql_reply_events.specs.declared.fault.ReplyFault.{ReplyFault}
use Rattle.mysql_reply_events.specs.declared.fault.ReplyFault.TheVariants as faults
use Rattle.mysql_reply_events.specs.Events.{Awaited, Payload, ReplySoFar}
use Rattle.mysql_reply_events.specs.Events.Awaited.{Columns, ColumnsEnd, Fields, FileData, First, Nothing, Rows}
use Rattle.mysql_reply_events.specs.Events.Event.{RowEvent}
use Rattle.mysql_reply_events.specs.Readings.{begins_terminator, deprecate_eof, has_report_form, is_binary, row}
use Rattle.mysql_reply_events.specs.Readings.{whole_or_fault}
use Rattle.mysql_reply_events.specs.Reader.{HasFailed, ReaderState, ReadsOn, ReadsRow, is_row_due}
use Rattle.mysql_reply_events.specs.Standing.{ReadsAt, format_of, or_bad_row}
use Rattle.mysql_reply_events.specs.Table.{Step, event_at, goes_on}
use Rattle.mysql_reply_events.specs.Views.{Refuses}

-- What a reader of rows reads is the row of the table.
whole_if : (b : Bool) (found : Row) (error : RowError) →
    (if b then Ok found else Err faults.BadRow) ≡ or_bad_row (if b then Ok found else Err error)
whole_if true found error = refl
whole_if false found error = refl

whole_is : (r : Reading Row) → whole_or_fault faults.BadRow r ≡ or_bad_row (with_none_left r)
whole_is (Ok x) = whole_if (length x.1 == 0) x.0 BytesLeft
whole_is (Err e) = refl

row_is_by : (binary : Bool) (columns : List ColumnDefinition) (payload : Payload) →
    whole_or_fault faults.BadRow
    (as_row columns (if binary then binary_resultset_row_at columns payload else text_row_at
    columns payload)) ≡
    or_bad_row (row_of (if binary then Binary else Text) columns payload)
row_is_by true columns payload = whole_is (as_row columns (binary_resultset_row_at columns payload))
row_is_by false columns payload = whole_is (as_row columns (text_row_at columns payload))

pub row_is : (c : Context) (columns : List ColumnDefinition) (payload : Payload) →
    row c columns payload ≡ or_bad_row (row_of (format_of c.kind) columns payload)
row_is c columns payload = row_is_by (is_binary c.kind) columns payload

-- Tests that are passed.
none_of : (x y : Bool) → (if x then false else if y then false else true) ≡ true → (x ≡ false) × (y ≡ false)
none_of true y h = absurd cc
none_of false true h = absurd cc
none_of false false h = (refl, refl)

not_and : (x y : Bool) → (not x && y) ≡ true → (x ≡ false) × (y ≡ true)
not_and true y h = absurd cc
not_and false y h = (refl, h)

-- A row's event, behind which rows are due.
abbrev pub row_step : Context → ReplySoFar → List ColumnDefinition → Payload → Step
row_step c s columns payload =
    row c columns payload >>= λ found. Ok (RowEvent found, record s { awaited = Rows true })

-- Columns stand, and the payload is the row under them.
abbrev pub IsRowStep : Context → ReplySoFar → Payload → Type 0
IsRowStep c s payload = (columns : List ColumnDefinition) × (s.columns ≡ Some columns) ×
    (event_at c s payload ≡ row_step c s columns payload)

-- A row's step by the table's two steps.
two_steps : (r : Result Row ReplyFault) (s : ReplySoFar) →
    ((r >>= λ found. Ok (RowEvent found)) >>= λ event. goes_on s event (Rows true)) ≡
    (r >>= λ found. Ok (RowEvent found, record s { awaited = Rows true }))
two_steps (Ok found) s = refl
two_steps (Err fault) s = refl

first_place : (kind : ReplyKind) (capabilities : Capabilities)
    (columns : Option (List ColumnDefinition)) (payload : Payload) →
    is_row_due (record { kind = kind; capabilities = capabilities })
    (record { awaited = First; columns = columns }) payload ≡ true →
    IsRowStep (record { kind = kind; capabilities = capabilities })
    (record { awaited = First; columns = columns }) payload
first_place kinds.Fetch capabilities (Some columns) payload h =
    let c : Context = record { kind = kinds.Fetch; capabilities = capabilities } in
    let s : ReplySoFar = record { awaited = First; columns = Some columns } in
    let t = not_and (has_report_form c payload) (is_row (deprecate_eof c) payload) h in
    let u = none_of (begins_with 255 payload) (begins_terminator c payload) t.1 in
    (columns, refl, rw (t.0, u.0, u.1) (two_steps (row c columns payload) s))
first_place kinds.Fetch capabilities None payload h = absurd cc
first_place kinds.Text capabilities columns payload h = absurd cc
first_place kinds.Binary capabilities columns payload h = absurd cc
first_place kinds.Prepare capabilities columns payload h = absurd cc
first_place kinds.Plain capabilities columns payload h = absurd cc
first_place kinds.Line capabilities columns payload h = absurd cc
first_place kinds.FieldList capabilities columns payload h = absurd cc

by_place : (c : Context) (awaited : Awaited) (columns : Option (List ColumnDefinition)) (payload : Payload) →
    is_row_due c (record { awaited = awaited; columns = columns }) payload ≡ true →
    IsRowStep c (record { awaited = awaited; columns = columns }) payload
by_place c (Rows true) (Some columns) payload h =
    let s : ReplySoFar = record { awaited = Rows true; columns = Some columns } in
    let t = not_and (has_report_form c payload) (is_row (deprecate_eof c) payload) h in
    let u = none_of (begins_with 255 payload) (begins_terminator c payload) t.1 in
    (columns, refl, rw (t.0, u.0, u.1) (two_steps (row c columns payload) s))
by_place c (Rows true) None payload h = absurd cc
by_place c (Rows false) columns payload h = absurd cc
by_place c First columns payload h = first_place c.kind c.capabilities columns payload h
by_place c (Columns group n earlier) columns payload h = absurd cc
by_place c (ColumnsEnd group known) columns payload h = absurd cc
by_place c Fields columns payload h = absurd cc
by_place c FileData columns payload h = absurd cc
by_place c Nothing columns payload h = absurd cc

pub row_due : (c : Context) (s : ReplySoFar) (payload : Payload) → is_row_due c s payload ≡ true → IsRowStep c s payload
row_due c s payload h = by_place c s.awaited s.columns payload h

-- What the reader of rows answers, where a row is due.
abbrev pub Answered : ReaderState → Payload → RowFormat → Result (Unit {0}) ReplyFault → ReaderState → Type 0
Answered old payload format r new =
    (columns : List ColumnDefinition) → old.so_far.columns ≡ Some columns → ReadsAt format columns payload r new.rows

pub reads_row : (old new : ReaderState) (payload : Payload) (format : RowFormat) →
    is_row_due old.context old.so_far payload ≡ true →
    format ≡ format_of old.context.kind → new.context ≡ old.context → new.so_far ≡
    record old.so_far { awaited = Rows true } →
    new.fault ≡ None → Answered old payload format (Ok tt) new → ReadsRow old payload new
reads_row old new payload format due same context so_far fault answered =
    let step = row_due old.context old.so_far payload due in
    let found = answered step.0 step.1 in
    let row_read : row old.context step.0 payload ≡ Ok found.0 =
    row_is old.context step.0 payload ∙ ap (λ f. or_bad_row (row_of f step.0 payload)) (sym same) ∙
    ap or_bad_row found.2 in
    record {
      row = found.0;
      lies = found.1;
      event =
          step.2 ∙ ap (λ (r : Result Row ReplyFault). r >>= λ found. Ok (
            RowEvent found,
            record old.so_far { awaited = Rows true },
          )) row_read
          ∙ ap (λ (s : ReplySoFar). Ok (RowEvent found.0, s)) (sym so_far);
      awaits = ap (λ (s : ReplySoFar). s.awaited) so_far;
      goes_on = record { context = context; fault = fault };
    }

pub refused_on : {A B : Type 0} (fault : ReplyFault) (r : Result A ReplyFault) (f : A →
    Result B ReplyFault) → Refuses fault r → Refuses fault (r >>= f)
refused_on faults.Memory r f h = tt
refused_on faults.BadHeader r f h = ap (λ r. r >>= f) h
refused_on faults.BadCount r f h = ap (λ r. r >>= f) h
refused_on faults.BadColumn r f h = ap (λ r. r >>= f) h
refused_on faults.BadOk r f h = ap (λ r. r >>= f) h
refused_on faults.BadError r f h = ap (λ r. r >>= f) h
refused_on faults.BadRow r f h = ap (λ r. r >>= f) h
refused_on faults.BadTerminator r f h = ap (λ r. r >>= f) h
refused_on faults.BadPrepare r f h = ap (λ r. r >>= f) h
refused_on faults.NotDue r f h = ap (λ r. r >>= f) h

pub read_fails : (old new : ReaderState) (payload : Payload) (fault : ReplyFault) →
    HasFailed old fault new → Refuses fault (event_at old.context old.so_far payload) →
    ReadsOn old payload (Err fault) new
read_fails old new payload faults.Memory failed h = failed
read_fails old new payload faults.BadHeader failed h = (h, failed)
read_fails old new payload faults.BadCount failed h = (h, failed)
read_fails old new payload faults.BadColumn failed h = (h, failed)
read_fails old new payload faults.BadOk failed h = (h, failed)
read_fails old new payload faults.BadError failed h = (h, failed)
read_fails old new payload faults.BadRow failed h = (h, failed)
read_fails old new payload faults.BadTerminator failed h = (h, failed)
read_fails old new payload faults.BadPrepare failed h = (h, failed)
read_fails old new payload faults.NotDue failed h = (h, failed)

pub reads_no_row : (old new between : ReaderState) (payload : Payload) (format : RowFormat)
    (fault : ReplyFault) → is_row_due old.context old.so_far payload ≡ true →
    format ≡ format_of old.context.kind → HasFailed old fault new →
    Answered old payload format (Err fault) between → ReadsOn old payload (Err fault) new
reads_no_row old new between payload format fault due same failed answered =
    let step = row_due old.context old.so_far payload due in
    let refused : Refuses fault (row old.context step.0 payload) =
    subst (λ (r : Result Row ReplyFault). Refuses fault r) (sym (row_is old.context step.0 payload))
    (subst (λ (f : RowFormat). Refuses fault (or_bad_row (row_of f step.0 payload))) same (answered step.0 step.1)) in
    read_fails old new payload fault failed
    (subst (λ (r : Step). Refuses fault r) (sym step.2)
    (refused_on fault (row old.context step.0 payload)
    (λ found. Ok (RowEvent found, record old.so_far { awaited = Rows true })) refused))

-- What there is of a result fits what is awaited, behind each payload.
use Rattle.std.proofs.Common.{◌≡◌, ℕ, zero, suc, ◌-◌, List, [], length, Bool, true, false, Option, Some, None, Result}
use Rattle.std.proofs.Common.{Ok, Err, refl, sym, subst, if◌then◌else◌}
use Rattle.std.specs.Prelude.{◌==◌, ◌&&◌, ◌||◌}
use Rattle.mysql_fields.specs.Wire.{◌>>=◌}
use Rattle.mysql_columns.specs.Columns.{ColumnDefinition}
use Rattle.mysql_columns.specs.Extended.{ExtendedDefinition}
use Rattle.mysql_ok_packets.specs.OkPackets.{OkPacket, more_results_exist}
use Rattle.mysql_row_refs.specs.Lines.{begins_with}
use Rattle.mysql_rows.specs.Rows.{Row}
use Rattle.mysql_reply_events.specs.Events.{Awaited, Event, Group, Payload, ReplySoFar}
use Rattle.mysql_reply_events.specs.Events.Awaited.{Columns, ColumnsEnd, Fields, FileData, First, Nothing, Rows}
use Rattle.mysql_reply_events.specs.Events.Event.{ColumnEvent, ColumnsEndEvent, CountEvent, RawRowEvent, RowEvent}
use Rattle.mysql_reply_events.specs.Events.Group.{Parameters, ResultSet, Statement}
use Rattle.mysql_reply_events.specs.Readings.{begins_ok, begins_terminator, column, column_count, deprecate_eof, eof}
use Rattle.mysql_reply_events.specs.Readings.{field, has_report_form}
use Rattle.mysql_reply_events.specs.Readings.{ok_packet, optional_metadata, prepared, report, row, server_error}
use Rattle.mysql_reply_events.specs.Readings.{terminator}
use Rattle.mysql_reply_events.specs.Table.{Step, after_columns, after_columns_end, after_result, after_statement}
use Rattle.mysql_reply_events.specs.Table.{column_came, cursor_exists}
use Rattle.mysql_reply_events.specs.Table.{error_step, event_at, first, first_of_result, goes_on, has_results, in_end}
use Rattle.mysql_reply_events.specs.Table.{in_fields, in_place, in_rows}
use Rattle.mysql_reply_events.specs.Table.{is_due, is_execution, row_event, stand, statement_columns, with_column}
use Rattle.mysql_reply_events.specs.declared.context.Context.{Context}
use Rattle.mysql_reply_events.specs.declared.context.ReplyKind.{ReplyKind}
use Rattle.mysql_reply_events.specs.declared.context.ReplyKind.TheVariants as kinds
use Rattle.mysql_reply_events.specs.declared.fault.ReplyFault.{ReplyFault}
use Rattle.mysql_reply_events.specs.declared.fault.ReplyFault.TheVariants as faults
use Rattle.mysql_replies.specs.Together.{FieldsPart, NoPart, Part, RawRowsPart, RowsPart, SetPart, StatementPart}
use Rattle.mysql_replies.specs.Together.{are_known, or_none, put}
use Rattle.mysql_replies.specs.Together.{rows_due, set_at, set_behind}
use Rattle.mysql_replies.specs.States.{FitsAt, FitsFirst, IsRowsPart}

-- A fact of each event that a step may be.
abbrev pub OnStep : (Event → ReplySoFar → Type 0) → Step → Type 0
OnStep P (Ok x) = P x.0 x.1
OnStep P (Err fault) = Unit {0}

pub on_bind : {A : Type 0} (P : Event → ReplySoFar → Type 0) (r : Result A ReplyFault) (f : A →
    Step) → ((x : A) → OnStep P (f x)) → OnStep P (r >>= f)
on_bind P (Ok x) f each = each x
on_bind P (Err fault) f each = tt

pub on_if : (P : Event → ReplySoFar → Type 0) (b : Bool) (one other : Step) → OnStep P one →
    OnStep P other → OnStep P (if b then one else other)
on_if P true one other x y = x
on_if P false one other x y = y

-- What there is behind an event fits what is awaited then.
abbrev pub FitsBehind : ReplyKind → Part → Event → ReplySoFar → Type 0
FitsBehind kind part event next = FitsAt kind next.awaited next.columns (put part event next).part

-- Behind a result nothing came of another.
result_by : (kind : ReplyKind) (more : Bool) (columns : Option (List ColumnDefinition)) →
    FitsAt kind (if has_results kind && more then First else Nothing) columns NoPart
result_by kinds.Text true columns = tt
result_by kinds.Text false columns = tt
result_by kinds.Binary true columns = tt
result_by kinds.Binary false columns = tt
result_by kind more columns = tt

fits_result : (c : Context) (ok : OkPacket) (columns : Option (List ColumnDefinition)) →
    FitsAt c.kind (after_result c ok) columns NoPart
fits_result c ok columns = result_by c.kind (more_results_exist ok.status_flags) columns

-- A result set whose columns came, or are left out.
due_by : (kind : ReplyKind) (b known : Bool) (columns : Option (List ColumnDefinition)) →
    FitsAt kind (if b then Rows known else ColumnsEnd ResultSet known) columns
    (set_at (are_known (if b then Rows known else ColumnsEnd ResultSet known)) (or_none columns)
    (if b then Rows known else ColumnsEnd ResultSet known))
due_by kind true true (Some columns) = refl
due_by kind true true None = tt
due_by kind true false columns = tt
due_by kind false known columns = refl

came_by : (kind : ReplyKind) (b : Bool) (these : List ColumnDefinition) →
    FitsAt kind (if b then Rows true else ColumnsEnd ResultSet true) (Some these)
    (set_at true these (if b then Rows true else ColumnsEnd ResultSet true))
came_by kind true these = refl
came_by kind false these = refl

-- Of a statement nothing is said.
none_by : (kind : ReplyKind) (b : Bool) (columns : Option (List ColumnDefinition)) (part : Part) →
    FitsAt kind (if b then Nothing else ColumnsEnd Statement false) columns part
none_by kind true columns part = tt
none_by kind false columns part = tt

fits_statement_columns : (c : Context) (kind : ReplyKind) (n : ℕ) (follow : Bool)
    (columns : Option (List ColumnDefinition)) (part : Part) →
    FitsAt kind (statement_columns c n follow) columns part
fits_statement_columns c kind zero follow columns part = tt
fits_statement_columns c kind (suc n) true columns part = tt
fits_statement_columns c kind (suc n) false columns part = none_by kind (deprecate_eof c) columns part

parameters_by : (c : Context) (kind : ReplyKind) (b : Bool) (n : ℕ) (follow known : Bool)
    (columns : Option (List ColumnDefinition)) (part : Part) →
    FitsAt kind (if b then statement_columns c n follow else ColumnsEnd (Parameters n follow) known) columns part
parameters_by c kind true n follow known columns part = fits_statement_columns c kind n follow columns part
parameters_by c kind false n follow known columns part = tt

fits_statement : (c : Context) (kind : ReplyKind) (parameters n : ℕ) (follow : Bool)
    (columns : Option (List ColumnDefinition)) (part : Part) →
    FitsAt kind (after_statement c parameters n follow) columns part
fits_statement c kind zero n follow columns part = fits_statement_columns c kind n follow columns part
fits_statement c kind (suc parameters) n true columns part = tt
fits_statement c kind (suc parameters) n false columns part =
    parameters_by c kind (deprecate_eof c) n false false columns part

-- FIRST PAYLOADS

count_by : (c : Context) (columns : Option (List ColumnDefinition)) (n : ℕ) (says follow due known : Bool) →
    OnStep (FitsBehind c.kind NoPart)
    ((if follow then Ok (Columns ResultSet (n - 1) []) else if due then Ok
    (after_columns c ResultSet known) else Err faults.BadCount)
    >>= λ next. goes_on (record { awaited = First; columns = columns }) (CountEvent n says) next)
count_by c columns n says true due known = refl
count_by c columns n says false true known = due_by c.kind (deprecate_eof c) known columns
count_by c columns n says false false known = tt

fits_first_of_result : (c : Context) (columns : Option (List ColumnDefinition))
    (payload : Payload) → OnStep (FitsBehind c.kind NoPart)
    (first_of_result c (record { awaited = First; columns = columns }) payload)
fits_first_of_result c columns payload =
    on_if _ (begins_ok c payload) _ _ (on_bind _ (ok_packet c payload) _ (λ ok. fits_result c ok columns))
    (on_if _ (begins_with 251 payload) _ _ tt
    (on_if _ (length payload == 0) _ _ tt
    (on_bind _ (column_count c payload) _
    (λ count. count_by c columns count.0 count.1 count.1 (stand c count.0 columns ||
    optional_metadata c) (stand c count.0 columns)))))

fits_end : (c : Context) (s : ReplySoFar) (part : Part) (payload : Payload) →
    OnStep (FitsBehind c.kind part) (in_end c s payload)
fits_end c s part payload = on_bind _ (terminator c payload) _ (λ ok. fits_result c ok s.columns)

fits_fields : (c : Context) (s : ReplySoFar) (part : Part) (payload : Payload) →
    OnStep (FitsBehind c.kind part) (in_fields c s payload)
fits_fields c s part payload =
    on_if _ (begins_terminator c payload) _ _ (fits_end c s part payload)
    (on_bind _ (field c payload) _ (λ found. tt))

-- ROWS

row_by : (kind : ReplyKind) (columns : List ColumnDefinition) (part : Part) (a : Awaited)
    (r : Result Row ReplyFault) → IsRowsPart columns part →
    OnStep (FitsBehind kind part)
    ((r >>= λ found. Ok (RowEvent found)) >>= λ event. goes_on
    (record { awaited = a; columns = Some columns }) event (Rows true))
row_by kind columns (RowsPart these rows) a (Ok found) fits = fits
row_by kind columns (RowsPart these rows) a (Err fault) fits = tt
row_by kind columns NoPart a r fits = absurd fits
row_by kind columns (SetPart known) a r fits = absurd fits
row_by kind columns (RawRowsPart rows) a r fits = absurd fits
row_by kind columns (StatementPart statement parameters found) a r fits = absurd fits
row_by kind columns (FieldsPart fields) a r fits = absurd fits

raw_by : (kind : ReplyKind) (part : Part) (s : ReplySoFar) (known b : Bool) (payload : Payload) →
    ((part : Part) → FitsAt kind (Rows known) s.columns part) →
    OnStep (FitsBehind kind part)
    ((if b then Ok (RawRowEvent payload) else Err faults.BadRow) >>= λ event. goes_on s event
    (Rows known))
raw_by kind part s known true payload each = each _
raw_by kind part s known false payload each = tt

fits_row : (c : Context) (a : Awaited) (known : Bool) (columns : Option (List ColumnDefinition))
    (part : Part) (payload : Payload) → FitsAt c.kind (Rows known) columns part →
    OnStep (FitsBehind c.kind part)
    (row_event c known columns payload >>= λ event. goes_on
    (record { awaited = a; columns = columns }) event (Rows known))
fits_row c a true (Some columns) part payload fits = row_by c.kind columns part a (row c columns payload) fits
fits_row c a true None part payload fits =
    raw_by c.kind part (record { awaited = a; columns = None }) true (optional_metadata c) payload
    (λ part. tt)
fits_row c a false columns part payload fits =
    raw_by c.kind part (record { awaited = a; columns = columns }) false (optional_metadata c)
    payload (λ part. tt)

fits_rows : (c : Context) (a : Awaited) (known : Bool) (columns : Option (List ColumnDefinition))
    (part : Part) (payload : Payload) → FitsAt c.kind (Rows known) columns part →
    OnStep (FitsBehind c.kind part) (in_rows c (record { awaited = a; columns = columns }) known payload)
fits_rows c a known columns part payload fits =
    on_if _ (begins_terminator c payload) _ _
    (fits_end c (record { awaited = a; columns = columns }) part payload)
    (fits_row c a known columns part payload fits)

-- COLUMNS

fits_column : (c : Context) (kind : ReplyKind) (columns : Option (List ColumnDefinition))
    (a : Awaited) (group : Group) (n : ℕ) (these : List ColumnDefinition)
    (found : ExtendedDefinition) (part : Part) → FitsAt kind (Columns group n these) columns part →
    (more : List ColumnDefinition) →
    FitsBehind kind part (ColumnEvent found)
    (column_came c (record { awaited = a; columns = columns }) group n more)
fits_column c kind columns a ResultSet (suc n) these found (SetPart known) fits more = fits
fits_column c kind columns a ResultSet zero these found (SetPart known) fits more =
    subst (λ (k : Bool). FitsAt kind
    (if deprecate_eof c then Rows true else ColumnsEnd ResultSet true) (Some more)
    (set_at k more (if deprecate_eof c then Rows true else ColumnsEnd ResultSet true)))
    (sym fits)
    (came_by kind (deprecate_eof c) more)
fits_column c kind columns a ResultSet n these found NoPart fits more = absurd fits
fits_column c kind columns a ResultSet n these found (RowsPart under rows) fits more = absurd fits
fits_column c kind columns a ResultSet n these found (RawRowsPart rows) fits more = absurd fits
fits_column c kind columns a ResultSet n these found (StatementPart statement parameters under) fits more = absurd fits
fits_column c kind columns a ResultSet n these found (FieldsPart fields) fits more = absurd fits
fits_column c kind columns a (Parameters m follow) (suc n) these found part fits more = tt
fits_column c kind columns a (Parameters m follow) zero these found part fits more =
    parameters_by c kind (deprecate_eof c) m follow true columns _
fits_column c kind columns a Statement (suc n) these found part fits more = tt
fits_column c kind columns a Statement zero these found part fits more = statement_by (deprecate_eof c) where
  statement_by : (b : Bool) →
      FitsAt kind (if b then Nothing else ColumnsEnd Statement true) (Some more)
      (put part (ColumnEvent found)
      (record {
        awaited = if b then Nothing else ColumnsEnd Statement true;
        columns =
            Some more;
      })).part
  statement_by true = tt
  statement_by false = tt

set_rows : (kind : ReplyKind) (known : Bool) (columns : Option (List ColumnDefinition)) →
    FitsAt kind (Rows known) columns (rows_due known (or_none columns))
set_rows kind true (Some columns) = refl
set_rows kind true None = tt
set_rows kind false columns = tt

cursor_by : (kind : ReplyKind) (more : Bool) (known : Bool) (columns : Option (List ColumnDefinition)) (ok : OkPacket) →
    FitsAt kind (if has_results kind && more then First else Nothing) columns
    (set_behind known (or_none columns) ok (if has_results kind &&
    more then First else Nothing)).part
cursor_by kinds.Text true known columns ok = tt
cursor_by kinds.Text false known columns ok = tt
cursor_by kinds.Binary true known columns ok = tt
cursor_by kinds.Binary false known columns ok = tt
cursor_by kind more known columns ok = tt

set_end_by : (c : Context) (b known : Bool) (columns : Option (List ColumnDefinition)) (ok : OkPacket) →
    FitsAt c.kind (if b then after_result c ok else Rows known) columns
    (set_behind known (or_none columns) ok (if b then after_result c ok else Rows known)).part
set_end_by c true known columns ok = cursor_by c.kind (more_results_exist ok.status_flags) known columns ok
set_end_by c false known columns ok = set_rows c.kind known columns

fits_columns_end : (c : Context) (columns : Option (List ColumnDefinition)) (group : Group)
    (known : Bool) (ok : OkPacket) (part : Part) →
    FitsAt c.kind (ColumnsEnd group known) columns part →
    FitsBehind c.kind part (ColumnsEndEvent ok)
    (record { awaited = after_columns_end c group known ok; columns = columns })
fits_columns_end c columns ResultSet known ok (SetPart found) fits =
    subst (λ (k : Bool). FitsAt c.kind (after_columns_end c ResultSet known ok) columns
    (set_behind k (or_none columns) ok (after_columns_end c ResultSet known ok)).part)
    (sym fits)
    (set_end_by c (is_execution c.kind && cursor_exists ok) known columns ok)
fits_columns_end c columns ResultSet known ok NoPart fits = absurd fits
fits_columns_end c columns ResultSet known ok (RowsPart under rows) fits = absurd fits
fits_columns_end c columns ResultSet known ok (RawRowsPart rows) fits = absurd fits
fits_columns_end c columns ResultSet known ok (StatementPart statement parameters under) fits = absurd fits
fits_columns_end c columns ResultSet known ok (FieldsPart fields) fits = absurd fits
fits_columns_end c columns (Parameters n follow) known ok part fits = fits_statement_columns c c.kind n follow columns _
fits_columns_end c columns Statement known ok part fits = tt

-- THE TABLE

first_by : (kind : ReplyKind) (c : Context) (columns : Option (List ColumnDefinition)) (part : Part)
    (payload : Payload) → c.kind ≡ kind → FitsFirst kind columns part →
    OnStep (FitsBehind c.kind part) (first c (record { awaited = First; columns = columns }) kind payload)
first_by kinds.Text c columns NoPart payload is fits = fits_first_of_result c columns payload
first_by kinds.Binary c columns NoPart payload is fits = fits_first_of_result c columns payload
first_by kinds.Prepare c columns NoPart payload is fits =
    on_if _ (begins_with 0 payload) _ _
    (on_bind _ (prepared c payload) _
    (λ x. fits_statement c c.kind x.0.num_params x.0.num_columns x.1 columns _)) tt
first_by kinds.Plain c columns NoPart payload is fits =
    on_if _ (begins_with 0 payload) _ _ (on_bind _ (ok_packet c payload) _ (λ ok. fits_result c ok columns))
    (on_if _ (begins_terminator c payload) _ _
    (fits_end c (record { awaited = First; columns = columns }) NoPart payload) tt)
first_by kinds.Line c columns NoPart payload is fits = tt
first_by kinds.FieldList c columns part payload is fits =
    fits_fields c (record { awaited = First; columns = columns }) part payload
first_by kinds.Fetch c (Some columns) part payload is fits = fits_rows c First true (Some columns) part payload fits
first_by kinds.Fetch c None part payload is fits = fits_rows c First true None part payload tt
first_by kind c columns part payload is fits = absurd fits

fits_error : (c : Context) (s : ReplySoFar) (part : Part) (payload : Payload) →
    OnStep (FitsBehind c.kind part) (error_step c s payload)
fits_error c s part payload = on_bind _ (server_error c payload) _ (λ error. tt)

fits_in_place : (c : Context) (awaited : Awaited) (columns : Option (List ColumnDefinition))
    (part : Part) (payload : Payload) → FitsAt c.kind awaited columns part →
    OnStep (FitsBehind c.kind part) (in_place c (record { awaited = awaited; columns = columns }) awaited payload)
fits_in_place c First columns part payload fits =
    on_if _ (begins_with 255 payload) _ _
    (fits_error c (record { awaited = First; columns = columns }) part payload)
    (first_by c.kind c columns part payload refl fits)
fits_in_place c (Columns group n earlier) columns part payload fits =
    on_bind _ (column c payload) _
    (λ found. fits_column c c.kind columns (Columns group n earlier) group n earlier found part
    fits (with_column group earlier found.column))
fits_in_place c (ColumnsEnd group known) columns part payload fits =
    on_bind _ (eof payload) _ (λ ok. fits_columns_end c columns group known ok part fits)
fits_in_place c (Rows known) columns part payload fits =
    on_if _ (begins_with 255 payload) _ _
    (fits_error c (record { awaited = Rows known; columns = columns }) part payload)
    (fits_rows c (Rows known) known columns part payload fits)
fits_in_place c Fields columns part payload fits =
    on_if _ (begins_with 255 payload) _ _
    (fits_error c (record { awaited = Fields; columns = columns }) part payload)
    (fits_fields c (record { awaited = Fields; columns = columns }) part payload)
fits_in_place c FileData columns part payload fits = tt
fits_in_place c Nothing columns part payload fits = tt

fits_at : (c : Context) (s : ReplySoFar) (part : Part) (payload : Payload) →
    FitsAt c.kind s.awaited s.columns part → OnStep (FitsBehind c.kind part) (event_at c s payload)
fits_at c s part payload fits =
    on_if _ (is_due s.awaited && has_report_form c payload) _ _
    (on_bind _ (report payload) _ (λ found. fits))
    (fits_in_place c s.awaited s.columns part payload fits)

-- Behind a payload what there is of a result fits what is awaited.
pub fits_behind : (c : Context) (s : ReplySoFar) (part : Part) (payload : Payload) (event : Event)
    (next : ReplySoFar) → FitsAt c.kind s.awaited s.columns part → event_at c s payload ≡
    Ok (event, next) → FitsBehind c.kind part event next
fits_behind c s part payload event next fits is =
    subst (OnStep (FitsBehind c.kind part)) is (fits_at c s part payload fits)

-- A payload that is no row lists none.
use Rattle.std.proofs.Common.{◌≡◌, ℕ, List, [], ◌∷◌, ◌++◌, Bool, true, false, refl, ap, append_assoc, ◌∙◌}
use Rattle.std.specs.Prelude.{if◌then◌else◌, length, nat_lt}
use Rattle.std.specs.List.{flat_map}
use Rattle.std.proofs.lemmas.Grind.{flat_map-append}
use Rattle.std.proofs.lemmas.List.{append-nil}
use Rattle.mysql_columns.specs.Columns.{ColumnDefinition}
use Rattle.mysql_columns.specs.Extended.{ListedDefinition}
use Rattle.mysql_ok_packets.specs.OkPackets.{OkPacket}
use Rattle.mysql_rows.specs.Rows.{Row}
use Rattle.mysql_server_packets.specs.Packets.{PrepareOk}
use Rattle.mysql_reply_events.specs.Events as events
use Rattle.mysql_reply_events.specs.Events.{Event}
use Rattle.mysql_reply_events.specs.Events.Event.{ColumnEvent, ColumnsEndEvent, CountEvent, ErrorEvent, FieldEvent}
use Rattle.mysql_reply_events.specs.Events.Event.{FileEvent}
use Rattle.mysql_reply_events.specs.Events.Event.{LineEvent, OkEvent, PreparedEvent, ProgressEvent, RawRowEvent}
use Rattle.mysql_reply_events.specs.Events.Event.{RowEvent, RowsEndEvent}
use Rattle.mysql_replies.specs.Borrowing.{rows_in, rows_listed}
use Rattle.mysql_replies.specs.Reply.{Answered, GoingOn, OpenReply, behind, faulted_at}
use Rattle.mysql_replies.specs.Taking.{rows_awaited}
use Rattle.mysql_replies.specs.Together.{ErrorResult, FieldsPart, FileResult, LineResult, NoPart, OkResult, Outcome}
use Rattle.mysql_replies.specs.Together.{Part, Put, RawRowsPart, RowsPart, SetPart, StatementPart}
use Rattle.mysql_replies.specs.Together.{are_known, columns_in, ended, listed, makes_whole, put, put_column}
use Rattle.mysql_replies.specs.Together.{put_columns_end, put_count, put_statement, put_whole, rows_due, set_at}
use Rattle.mysql_replies.specs.Together.{set_behind, statement_at}
use Rattle.mysql_replies.specs.declared.fault.ReplyFault.{ReplyFault}

-- Rows of what is listed of a result that isn't whole.
listed_rows : (part : Part) → flat_map rows_in (listed part) ≡ rows_awaited part
listed_rows NoPart = refl
listed_rows (SetPart known) = refl
listed_rows (RowsPart columns rows) = append-nil rows
listed_rows (RawRowsPart []) = refl
listed_rows (RawRowsPart (row ∷ rows)) = refl
listed_rows (StatementPart statement parameters columns) = refl
listed_rows (FieldsPart []) = refl
listed_rows (FieldsPart (field ∷ fields)) = refl

-- With a fault the same rows are listed.
pub faulted_rows : (s : OpenReply) (fault : ReplyFault) →
    rows_listed (Answered (faulted_at s fault)) ≡ rows_listed (GoingOn s)
faulted_rows s fault = flat_map-append rows_in s.results (listed s.part) ∙
    ap (λ (l : List Row). flat_map rows_in s.results ++ l) (listed_rows s.part)

-- The rows of what an event makes whole and leaves open.
abbrev rows_put : Put → List Row
rows_put to = flat_map rows_in to.results ++ rows_awaited to.part

due_rows : (known : Bool) (columns : List ColumnDefinition) → rows_awaited (rows_due known columns) ≡ []
due_rows true columns = refl
due_rows false columns = refl

set_rows : (known : Bool) (columns : List ColumnDefinition) (awaited : events.Awaited) →
    rows_awaited (set_at known columns awaited) ≡ []
set_rows known columns (events.Rows read) = due_rows known columns
set_rows known columns awaited = refl

ended_rows : (known : Bool) (columns : List ColumnDefinition) (ok : OkPacket) →
    rows_put (makes_whole (ended (rows_due known columns) ok)) ≡ []
ended_rows true columns ok = refl
ended_rows false columns ok = refl

set_end_rows : (known : Bool) (columns : List ColumnDefinition) (ok : OkPacket)
    (awaited : events.Awaited) → rows_put (set_behind known columns ok awaited) ≡ []
set_end_rows known columns ok (events.Rows read) = due_rows known columns
set_end_rows known columns ok awaited = ended_rows known columns ok

statement_rows : (statement : PrepareOk) (parameters columns : List ColumnDefinition)
    (awaited : events.Awaited) → rows_put (statement_at statement parameters columns awaited) ≡ []
statement_rows statement parameters columns events.Nothing = refl
statement_rows statement parameters columns awaited = refl

either_rows : (b : Bool) (one other : Put) → rows_put one ≡ [] → rows_put other ≡ [] →
    rows_put (if b then one else other) ≡ []
either_rows true one other x y = x
either_rows false one other x y = y

whole_rows : (part : Part) (found : Outcome) → rows_in found ≡ [] → rows_put (put_whole part found) ≡ rows_awaited part
whole_rows NoPart found none = ap (λ (l : List Row). (l ++ []) ++ []) none
whole_rows (SetPart known) found none = refl
whole_rows (RowsPart columns rows) found none = refl
whole_rows (RawRowsPart rows) found none = refl
whole_rows (StatementPart statement parameters columns) found none = refl
whole_rows (FieldsPart fields) found none = refl

count_rows : (part : Part) (next : events.ReplySoFar) → rows_put (put_count part next) ≡ rows_awaited part
count_rows NoPart next = set_rows (are_known next.awaited) (columns_in next) next.awaited
count_rows (SetPart known) next = refl
count_rows (RowsPart columns rows) next = refl
count_rows (RawRowsPart rows) next = refl
count_rows (StatementPart statement parameters columns) next = refl
count_rows (FieldsPart fields) next = refl

prepared_rows : (part : Part) (statement : PrepareOk) (next : events.ReplySoFar) →
    rows_put (put_statement part statement next) ≡ rows_awaited part
prepared_rows NoPart statement next = statement_rows statement [] [] next.awaited
prepared_rows (SetPart known) statement next = refl
prepared_rows (RowsPart columns rows) statement next = refl
prepared_rows (RawRowsPart rows) statement next = refl
prepared_rows (StatementPart known parameters columns) statement next = refl
prepared_rows (FieldsPart fields) statement next = refl

column_rows : (part : Part) (column : ColumnDefinition) (next : events.ReplySoFar) →
    rows_put (put_column part column next) ≡ rows_awaited part
column_rows NoPart column next = refl
column_rows (SetPart known) column next = set_rows known (columns_in next) next.awaited
column_rows (RowsPart columns rows) column next = refl
column_rows (RawRowsPart rows) column next = refl
column_rows (StatementPart statement parameters columns) column next =
    either_rows (nat_lt (length parameters) statement.num_params)
    (statement_at statement (parameters ++ column ∷ []) columns next.awaited)
    (statement_at statement parameters (columns ++ column ∷ []) next.awaited)
    (statement_rows statement (parameters ++ column ∷ []) columns next.awaited)
    (statement_rows statement parameters (columns ++ column ∷ []) next.awaited)
column_rows (FieldsPart fields) column next = refl

columns_end_rows : (part : Part) (ok : OkPacket) (next : events.ReplySoFar) →
    rows_put (put_columns_end part ok next) ≡ rows_awaited part
columns_end_rows NoPart ok next = refl
columns_end_rows (SetPart known) ok next = set_end_rows known (columns_in next) ok next.awaited
columns_end_rows (RowsPart columns rows) ok next = refl
columns_end_rows (RawRowsPart rows) ok next = refl
columns_end_rows (StatementPart statement parameters columns) ok next =
    statement_rows statement parameters columns next.awaited
columns_end_rows (FieldsPart fields) ok next = refl

end_rows : (part : Part) (ok : OkPacket) → rows_put (makes_whole (ended part ok)) ≡ rows_awaited part
end_rows NoPart ok = refl
end_rows (SetPart known) ok = refl
end_rows (RowsPart columns rows) ok = append-nil (rows ++ []) ∙ append-nil rows
end_rows (RawRowsPart rows) ok = refl
end_rows (StatementPart statement parameters columns) ok = refl
end_rows (FieldsPart fields) ok = refl

raw_rows : (part : Part) (bytes : List ℕ) (next : events.ReplySoFar) →
    rows_put (put part (RawRowEvent bytes) next) ≡ rows_awaited part
raw_rows NoPart bytes next = refl
raw_rows (SetPart known) bytes next = refl
raw_rows (RowsPart columns rows) bytes next = refl
raw_rows (RawRowsPart rows) bytes next = refl
raw_rows (StatementPart statement parameters columns) bytes next = refl
raw_rows (FieldsPart fields) bytes next = refl

field_rows : (part : Part) (field : ListedDefinition) (next : events.ReplySoFar) →
    rows_put (put part (FieldEvent field) next) ≡ rows_awaited part
field_rows NoPart field next = refl
field_rows (SetPart known) field next = refl
field_rows (RowsPart columns rows) field next = refl
field_rows (RawRowsPart rows) field next = refl
field_rows (StatementPart statement parameters columns) field next = refl
field_rows (FieldsPart fields) field next = refl

-- The event is no row.
abbrev pub IsNoRow : Event → Type 0
IsNoRow (RowEvent row) = ⊥
IsNoRow event = Unit {0}

put_rows : (part : Part) (event : Event) (next : events.ReplySoFar) → IsNoRow event →
    rows_put (put part event next) ≡ rows_awaited part
put_rows part (OkEvent ok) next none = whole_rows part (OkResult ok) refl
put_rows part (ErrorEvent error) next none =
    append-nil (flat_map rows_in (listed part ++ ErrorResult error ∷ [])) ∙
    flat_map-append rows_in (listed part) (ErrorResult error ∷ []) ∙
    append-nil (flat_map rows_in (listed part)) ∙ listed_rows part
put_rows part (ProgressEvent report) next none = refl
put_rows part (CountEvent n follow) next none = count_rows part next
put_rows part (ColumnEvent found) next none = column_rows part found.column next
put_rows part (FieldEvent field) next none = field_rows part field next
put_rows part (ColumnsEndEvent ok) next none = columns_end_rows part ok next
put_rows part (RowEvent row) next none = absurd none
put_rows part (RawRowEvent bytes) next none = raw_rows part bytes next
put_rows part (RowsEndEvent ok) next none = end_rows part ok
put_rows part (FileEvent name) next none = whole_rows part (FileResult name) refl
put_rows part (PreparedEvent statement follow) next none = prepared_rows part statement next
put_rows part (LineEvent bytes) next none = whole_rows part (LineResult bytes) refl

-- Behind an event that is no row the same rows are listed.
pub behind_rows : (s : OpenReply) (event : Event) (next : events.ReplySoFar) → IsNoRow event →
    rows_listed (GoingOn (behind s event next)) ≡ rows_listed (GoingOn s)
behind_rows s event next none =
    let to = put s.part event next in
    let front = flat_map rows_in s.results in
    ap (λ (l : List Row). l ++ rows_awaited to.part) (flat_map-append rows_in s.results to.results)
    ∙ append_assoc front (flat_map rows_in to.results) (rows_awaited to.part)
    ∙ ap (λ (l : List Row). front ++ l) (put_rows s.part event next none)

-- In the results of a reply nothing is to be joined.
use Rattle.std.proofs.Common.{◌≡◌, List, [], ◌∷◌, ◌++◌, length, Bool, true, false, Ok, Err, refl, ap, sym, subst, ◌∙◌}
use Rattle.std.proofs.Common.{append_assoc, if◌then◌else◌}
use Rattle.std.specs.Prelude.{nat_lt}
use Rattle.mysql_wire.specs.Stream.{Rest}
use Rattle.mysql_columns.specs.Columns.{ColumnDefinition}
use Rattle.mysql_ok_packets.specs.OkPackets.{OkPacket}
use Rattle.mysql_server_packets.specs.Packets.{PrepareOk, ServerError}
use Rattle.mysql_reply_events.specs.Events as events
use Rattle.mysql_reply_events.specs.Events.{Event}
use Rattle.mysql_reply_events.specs.Events.Event.{ColumnEvent, ColumnsEndEvent, CountEvent, ErrorEvent, FieldEvent}
use Rattle.mysql_reply_events.specs.Events.Event.{FileEvent, LineEvent, OkEvent, PreparedEvent, ProgressEvent}
use Rattle.mysql_reply_events.specs.Events.Event.{RawRowEvent, RowEvent, RowsEndEvent}
use Rattle.mysql_reply_events.specs.Table.{Step, event_at}
use Rattle.mysql_reply_events.specs.declared.context.Context.{Context}
use Rattle.mysql_replies.specs.Together.{ErrorResult, FieldsPart, FileResult, LineResult, NoPart, OkResult, Outcome}
use Rattle.mysql_replies.specs.Together.{Part, Put}
use Rattle.mysql_replies.specs.Together.{RawRowsPart, RowsPart, SetPart, StatementPart, columns_in, ended, listed, put}
use Rattle.mysql_replies.specs.Together.{put_column, put_columns_end}
use Rattle.mysql_replies.specs.Together.{put_count, put_statement, put_whole, rows_due, set_behind, statement_at}
use Rattle.mysql_replies.specs.Reply.{Answer, GoingOn, IsReply, OpenReply, Payload, ReplySoFar, after_all}
use Rattle.mysql_replies.specs.Reply.{answer_behind, behind, faulted_at, fault_of, fresh, led_by}
use Rattle.mysql_replies.specs.Taking.{joined}
use Rattle.mysql_replies.proofs.GoingOn.{answered_stays}

-- In these results nothing is to be joined, whatever follows them.
abbrev IsOrdered : List Outcome → Type 0
IsOrdered results = (later : List Outcome) → joined (results ++ later) ≡ results ++ joined later

ordered-append : (one other : List Outcome) → IsOrdered one → IsOrdered other → IsOrdered (one ++ other)
ordered-append one other x y later =
    ap joined (append_assoc one other later) ∙ x (other ++ later) ∙
    ap (λ (k : List Outcome). one ++ k) (y later) ∙ sym (append_assoc one other (joined later))

ended_ordered : (part : Part) (ok : OkPacket) → IsOrdered (ended part ok ∷ [])
ended_ordered NoPart ok later = refl
ended_ordered (SetPart known) ok later = refl
ended_ordered (RowsPart columns rows) ok later = refl
ended_ordered (RawRowsPart rows) ok later = refl
ended_ordered (StatementPart statement parameters columns) ok later = refl
ended_ordered (FieldsPart fields) ok later = refl

error_ordered : (part : Part) (error : ServerError) → IsOrdered (listed part ++ ErrorResult error ∷ [])
error_ordered NoPart error later = refl
error_ordered (SetPart known) error later = refl
error_ordered (RowsPart columns rows) error later = refl
error_ordered (RawRowsPart []) error later = refl
error_ordered (RawRowsPart (row ∷ rows)) error later = refl
error_ordered (StatementPart statement parameters columns) error later = refl
error_ordered (FieldsPart []) error later = refl
error_ordered (FieldsPart (field ∷ fields)) error later = refl

due_ordered : (known : Bool) (columns : List ColumnDefinition) (ok : OkPacket)
    (awaited : events.Awaited) → IsOrdered (set_behind known columns ok awaited).results
due_ordered known columns ok (events.Rows k) later = refl
due_ordered known columns ok awaited later = ended_ordered (rows_due known columns) ok later

statement_ordered : (statement : PrepareOk) (parameters columns : List ColumnDefinition)
    (awaited : events.Awaited) →
    IsOrdered (statement_at statement parameters columns awaited).results
statement_ordered statement parameters columns events.Nothing later = refl
statement_ordered statement parameters columns awaited later = refl

with_ordered : (b : Bool) (one other : Put) → IsOrdered one.results → IsOrdered other.results →
    IsOrdered (if b then one else other).results
with_ordered true one other x y = x
with_ordered false one other x y = y

column_ordered : (part : Part) (column : ColumnDefinition) (next : events.ReplySoFar) →
    IsOrdered (put_column part column next).results
column_ordered (SetPart known) column next = λ later. refl
column_ordered (StatementPart statement parameters columns) column next =
    with_ordered (nat_lt (length parameters) statement.num_params) _ _
    (statement_ordered statement (parameters ++ column ∷ []) columns next.awaited)
    (statement_ordered statement parameters (columns ++ column ∷ []) next.awaited)
column_ordered part column next = λ later. refl

columns_end_ordered : (part : Part) (ok : OkPacket) (next : events.ReplySoFar) →
    IsOrdered (put_columns_end part ok next).results
columns_end_ordered (SetPart known) ok next = due_ordered known (columns_in next) ok next.awaited
columns_end_ordered (StatementPart statement parameters columns) ok next =
    statement_ordered statement parameters columns next.awaited
columns_end_ordered part ok next = λ later. refl

count_ordered : (part : Part) (next : events.ReplySoFar) → IsOrdered (put_count part next).results
count_ordered NoPart next = λ later. refl
count_ordered part next = λ later. refl

prepared_ordered : (part : Part) (statement : PrepareOk) (next : events.ReplySoFar) →
    IsOrdered (put_statement part statement next).results
prepared_ordered NoPart statement next = statement_ordered statement [] [] next.awaited
prepared_ordered part statement next = λ later. refl

whole_ordered : (part : Part) (result : Outcome) → IsOrdered (result ∷ []) → IsOrdered (put_whole part result).results
whole_ordered NoPart result is = is
whole_ordered part result is = λ later. refl

put_ordered : (part : Part) (event : Event) (next : events.ReplySoFar) → IsOrdered (put part event next).results
put_ordered part (OkEvent ok) next = whole_ordered part (OkResult ok) (λ later. refl)
put_ordered part (ErrorEvent error) next = error_ordered part error
put_ordered part (ProgressEvent report) next = λ later. refl
put_ordered part (CountEvent n follow) next = count_ordered part next
put_ordered part (ColumnEvent found) next = column_ordered part found.column next
put_ordered part (FieldEvent field) next = λ later. refl
put_ordered part (ColumnsEndEvent ok) next = columns_end_ordered part ok next
put_ordered part (RowEvent row) next = λ later. refl
put_ordered part (RawRowEvent bytes) next = λ later. refl
put_ordered part (RowsEndEvent ok) next = ended_ordered part ok
put_ordered part (FileEvent name) next = whole_ordered part (FileResult name) (λ later. refl)
put_ordered part (PreparedEvent statement follow) next = prepared_ordered part statement next
put_ordered part (LineEvent bytes) next = whole_ordered part (LineResult bytes) (λ later. refl)

-- What is listed at the end stands alone.
listed_joined : (part : Part) → joined (listed part) ≡ listed part
listed_joined NoPart = refl
listed_joined (SetPart known) = refl
listed_joined (RowsPart columns rows) = refl
listed_joined (RawRowsPart []) = refl
listed_joined (RawRowsPart (row ∷ rows)) = refl
listed_joined (StatementPart statement parameters columns) = refl
listed_joined (FieldsPart []) = refl
listed_joined (FieldsPart (field ∷ fields)) = refl

ends_joined : (results : List Outcome) (part : Part) → IsOrdered results →
    joined (results ++ listed part) ≡ results ++ listed part
ends_joined results part is = is (listed part) ∙ ap (λ (k : List Outcome). results ++ k) (listed_joined part)

joined_step : (s : OpenReply) (step : Step) (z : List Payload) (rest : Rest) → IsOrdered s.results →
    ((t : OpenReply) → IsOrdered t.results →
    joined (answer_behind (after_all (GoingOn t) z) rest).results ≡
    (answer_behind (after_all (GoingOn t) z) rest).results) →
    joined (answer_behind (after_all (led_by s step) z) rest).results ≡
    (answer_behind (after_all (led_by s step) z) rest).results
joined_step s (Ok x) z rest is each =
    each (behind s x.0 x.1) (ordered-append s.results (put s.part x.0 x.1).results is
    (put_ordered s.part x.0 x.1))
joined_step s (Err fault) z rest is each =
    subst (λ (k : ReplySoFar). joined (answer_behind k rest).results ≡
    (answer_behind k rest).results) (sym (answered_stays (faulted_at s (fault_of fault)) z))
    (ends_joined s.results s.part is)

joined_all : (z : List Payload) (rest : Rest) (s : OpenReply) → IsOrdered s.results →
    joined (answer_behind (after_all (GoingOn s) z) rest).results ≡
    (answer_behind (after_all (GoingOn s) z) rest).results
joined_all [] rest s is = ends_joined s.results s.part is
joined_all (payload ∷ z) rest s is =
    joined_step s (event_at s.context s.so_far payload) z rest is
    (λ t ordered. joined_all z rest t ordered)

open_of : (c : Context) → (s : OpenReply) × (fresh c ≡ GoingOn s) × IsOrdered s.results
open_of c = (_, refl, λ later. refl)

-- The results of a reply are joined.
pub reply_joined : (c : Context) (payloads : List Payload) (rest : Rest) (answer : Answer) →
    IsReply c payloads rest answer → joined answer.results ≡ answer.results
reply_joined c payloads rest answer r =
    let o = open_of c in
    let same : answer ≡ answer_behind (after_all (GoingOn o.0) payloads) rest = r ∙
    ap (λ (s : ReplySoFar). answer_behind (after_all s payloads) rest) o.1 in
    ap (λ (a : Answer). joined a.results) same ∙ joined_all payloads rest o.0 o.2 ∙
    ap (λ (a : Answer). a.results) (sym same)

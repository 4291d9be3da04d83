-- A row that is due and is kept is the row of the table, and one that can't be read has no place there.
use Rattle.std.proofs.Common.{◌≡◌, List, true, Some, Result, Ok, Err, ap, sym, subst, ◌∙◌}
use Rattle.mysql_columns.specs.Columns.{ColumnDefinition}
use Rattle.mysql_fields.specs.Wire.{◌>>=◌}
use Rattle.mysql_rows.specs.Rows.{Row}
use Rattle.mysql_reply_events.specs.declared.context.Context.{Context}
use Rattle.mysql_reply_events.specs.declared.fault.ReplyFault.{ReplyFault}
use Rattle.mysql_reply_events.specs.Events.{Payload, ReplySoFar}
use Rattle.mysql_reply_events.specs.Events.Awaited.{Rows}
use Rattle.mysql_reply_events.specs.Events.Event.{RowEvent}
use Rattle.mysql_reply_events.specs.Reader.{HasFailed, ReaderState, ReadsOn, is_row_due}
use Rattle.mysql_reply_events.specs.Readings.{row}
use Rattle.mysql_reply_events.specs.Table.{Step, event_at}
use Rattle.mysql_reply_events.specs.Views.{Refuses}
use Rattle.mysql_reply_events.proofs.RowsInPlace.{read_fails, refused_on, row_due, row_step}

-- The step of a row that is due, under the columns that stand.
step_under : (c : Context) (s : ReplySoFar) (payload : Payload) (columns : List ColumnDefinition) →
    is_row_due c s payload ≡ true →
    s.columns ≡ Some columns → event_at c s payload ≡ row_step c s columns payload
step_under c s payload columns due stand =
    let step = row_due c s payload due in
    let same : step.0 ≡ columns = cc in
    step.2 ∙ ap (λ (columns : List ColumnDefinition). row_step c s columns payload) same

pub keeps : (c : Context) (s : ReplySoFar) (payload : Payload) (columns : List ColumnDefinition)
    (found : Row) → is_row_due c s payload ≡ true →
    s.columns ≡ Some columns → row c columns payload ≡ Ok found → event_at c s payload ≡
    Ok (RowEvent found, record s { awaited = Rows true })
keeps c s payload columns found due stand read =
    step_under c s payload columns due stand
    ∙ ap (λ (r : Result Row ReplyFault). r >>= λ found. Ok (RowEvent found, record s { awaited = Rows true })) read

pub keeps_none : (old new : ReaderState) (payload : Payload) (columns : List ColumnDefinition) (fault : ReplyFault) →
    is_row_due old.context old.so_far payload ≡ true → old.so_far.columns ≡ Some columns →
    Refuses fault (row old.context columns payload) → HasFailed old fault new → ReadsOn old payload (Err fault) new
keeps_none old new payload columns fault due stand refused failed =
    read_fails old new payload fault failed
    (subst (λ (r : Step). Refuses fault r) (sym (step_under old.context old.so_far payload columns due stand))
    (refused_on fault (row old.context columns payload)
    (λ found. Ok (RowEvent found, record old.so_far { awaited = Rows true })) refused))

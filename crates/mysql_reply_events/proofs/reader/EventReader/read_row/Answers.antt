use Rattle.std.proofs.Common.{◌≡◌, true, Some, Ok, Err, ap, sym, subst, ◌∙◌}
use Rattle.mysql_rows.specs.Views.{row_view, shared_columns}
use Rattle.mysql_reply_events.specs.declared.context.Context.{Context}
use Rattle.mysql_reply_events.specs.declared.fault.ReplyFault.{ReplyFault}
use Rattle.mysql_reply_events.specs.Events.{Awaited, ReplySoFar}
use Rattle.mysql_reply_events.specs.Events.Awaited.{Rows}
use Rattle.mysql_reply_events.specs.Events.Event.{RowEvent}
use Rattle.mysql_reply_events.specs.Reader.{HasFailed, ReaderState, ReadsOn, is_row_due}
use Rattle.mysql_reply_events.specs.Readings.{row}
use Rattle.mysql_reply_events.specs.Standing.{columns_of}
use Rattle.mysql_reply_events.specs.States.{so_far}
use Rattle.mysql_reply_events.specs.Table.{Step, event_at}
use Rattle.mysql_reply_events.specs.Views.{Refuses, awaited_view}
use Rattle.mysql_reply_events.proofs.KeptRows.{keeps, keeps_none}
use Rattle.mysql_reply_events.proofs.reader.EventReader.read_row.Goals as goal

pub returns-in-Ok : goal.returns-in-Ok
returns-in-Ok c =
    let s = so_far c.self.inside.state in
    let due : is_row_due c.self.inside.context s c.args.payload.now ≡ true =
    sym c.is_row_due.ensures ∙ c.if-not-is_row_due.false in
    let stand : s.columns ≡ Some (shared_columns c.in-Some.columns) = sym c.columns.ensures ∙
    ap columns_of c.in-Some.is in
    let next : ReplySoFar = record s { awaited = Rows true } in
    let step : Step = Ok (RowEvent (row_view c.in-Ok.row), next) in
    let same : step ≡ Ok (RowEvent (row_view c.in-Ok.row), record s { awaited = awaited_view c.pass_row.new.self }) =
    ap (λ (a : Awaited). let step : Step =
    Ok (RowEvent (row_view c.in-Ok.row), record s { awaited = a }) in
    step) (sym c.pass_row.ensures) in (
      subst (λ (r : ReaderState). event_at r.context r.so_far c.args.payload.now ≡ step) c.self.view_is
          (keeps c.self.inside.context s c.args.payload.now (shared_columns c.in-Some.columns)
          (row_view c.in-Ok.row) due stand c.in-Ok.ensures)
          ∙ same,
      record {
        context = ap (λ (r : ReaderState). r.context) c.self.view_is;
        fault = ap (λ (r : ReaderState). r.fault) c.self.view_is ∙ c.requires;
      },
    )

pub returns-in-Err : goal.returns-in-Err
returns-in-Err c =
    let old = c.args.self.now in
    let s = so_far c.self.inside.state in
    let context : c.self.inside.context ≡ old.context = ap (λ (r : ReaderState). r.context) c.self.view_is in
    let columns : s.columns ≡ old.so_far.columns = ap (λ (r : ReaderState). r.so_far.columns) c.self.view_is in
    let due : is_row_due old.context old.so_far c.args.payload.now ≡ true =
    ap (λ (r : ReaderState). is_row_due r.context r.so_far c.args.payload.now)
    (sym c.self.view_is) ∙ sym c.is_row_due.ensures ∙ c.if-not-is_row_due.false in
    let stand : old.so_far.columns ≡ Some (shared_columns c.in-Some.columns) = sym columns ∙
    sym c.columns.ensures ∙ ap columns_of c.in-Some.is in
    let refused : Refuses c.in-Err.fault (row old.context (shared_columns c.in-Some.columns) c.args.payload.now) =
    subst (λ (context : Context). Refuses c.in-Err.fault
    (row context (shared_columns c.in-Some.columns) c.args.payload.now)) context
    c.in-Err.ensures in
    let failed : HasFailed old c.in-Err.fault c.fail.new.self = record {
      context = c.fail.ensures.fails.context;
      so_far = c.fail.ensures.fails.so_far;
      fault = c.fail.ensures.fails.fault;
    } in
    subst (λ (fault : ReplyFault). ReadsOn old c.args.payload.now (Err fault) c.fail.new.self) (sym c.fail.ensures.same)
    (keeps_none old c.fail.new.self c.args.payload.now (shared_columns c.in-Some.columns)
    c.in-Err.fault due stand refused failed)

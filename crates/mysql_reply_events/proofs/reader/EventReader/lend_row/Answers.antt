use Rattle.std.proofs.Common.{◌≡◌, true, None, ap, sym, ◌∙◌}
use Rattle.mysql_reply_events.specs.Events.{ReplySoFar}
use Rattle.mysql_reply_events.specs.Events.Awaited.{Rows}
use Rattle.mysql_reply_events.specs.Reader.{ReaderState, is_row_due}
use Rattle.mysql_reply_events.specs.Standing.{Standing, format_of}
use Rattle.mysql_reply_events.specs.Views.{awaited_view}
use Rattle.mysql_reply_events.proofs.RowsInPlace.{reads_row}
use Rattle.mysql_reply_events.proofs.reader.EventReader.lend_row.Goals as goal

pub returns-in-Ok : goal.returns-in-Ok
returns-in-Ok c =
    let old = c.args.self.now in
    let same : c.self.inside.state.standing.format ≡ format_of old.context.kind = c.self.invariant ∙
    ap (λ (s : ReaderState). format_of s.context.kind) c.self.view_is in
    let context : c.self.inside.context ≡ old.context = ap (λ (s : ReaderState). s.context) c.self.view_is in
    let columns : c.self.inside.state.standing.columns ≡ old.so_far.columns =
    ap (λ (s : ReaderState). s.so_far.columns) c.self.view_is in
    let fault : c.self.inside.fault ≡ None = ap (λ (s : ReaderState). s.fault) c.self.view_is ∙ c.requires in
    let standing : c.read.new.self.columns ≡ old.so_far.columns =
    ap (λ (s : Standing). s.columns) c.in-Ok.ensures.rest ∙ columns in
    let so_far : record {
      awaited = awaited_view c.pass_row.new.self;
      columns =
          c.read.new.self.columns;
    } ≡ record old.so_far { awaited = Rows true } =
    (λ i. let s : ReplySoFar = record { awaited = c.pass_row.ensures i; columns = standing i } in s) in
    let due : is_row_due old.context old.so_far c.args.payload.now ≡ true =
    ap (λ (s : ReaderState). is_row_due s.context s.so_far c.args.payload.now)
    (sym c.self.view_is) ∙ sym c.is_row_due.ensures ∙ c.if-not-is_row_due.false in (
      due,
      reads_row old _ c.args.payload.now c.self.inside.state.standing.format due same context
          so_far fault
          (λ these h. c.in-Ok.ensures.row these (columns ∙ h)),
    )

pub returns-in-Err : goal.returns-in-Err
returns-in-Err c =
    ap (λ (s : Standing). let state : ReaderState = record {
      context = c.self.inside.context;
      so_far = record { awaited = awaited_view c.self.inside.state.awaited; columns = s.columns };
      fault = c.self.inside.fault;
      rows = c.read.new.self.reader;
    } in state) c.in-Err.ensures.rest
    ∙ ap (λ (s : ReaderState). let state : ReaderState =
    record s { rows = c.read.new.self.reader } in state) c.self.view_is

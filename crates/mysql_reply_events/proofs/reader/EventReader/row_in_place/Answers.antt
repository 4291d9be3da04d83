use Rattle.std.proofs.Common.{◌≡◌, None, Err, Option, List, true, ap, sym, subst, ◌∙◌}
use Rattle.mysql_columns.specs.Columns.{ColumnDefinition}
use Rattle.mysql_reply_events.specs.Events.{ReplySoFar}
use Rattle.mysql_reply_events.specs.Events.Awaited.{Nothing, Rows}
use Rattle.mysql_reply_events.specs.Reader.{HasFailed, ReaderState, ReadsOn}
use Rattle.mysql_reply_events.specs.Standing.{Standing, format_of}
use Rattle.mysql_reply_events.specs.Views.{awaited_view}
use Rattle.mysql_reply_events.proofs.RowsInPlace.{reads_no_row, reads_row}
use Rattle.mysql_reply_events.proofs.reader.EventReader.row_in_place.Goals as goal

pub returns-in-Ok : goal.returns-in-Ok
returns-in-Ok c =
    let old = c.args.self.now in
    let same : c.self.inside.state.standing.format ≡ format_of old.context.kind = c.self.invariant ∙
    ap (λ (s : ReaderState). format_of s.context.kind) c.self.view_is in
    let context : c.self.inside.context ≡ old.context = ap (λ (s : ReaderState). s.context) c.self.view_is in
    let columns : c.self.inside.state.standing.columns ≡ old.so_far.columns =
    ap (λ (s : ReaderState). s.so_far.columns) c.self.view_is in
    let fault : c.self.inside.fault ≡ None = ap (λ (s : ReaderState). s.fault) c.self.view_is ∙ c.requires.going in
    let standing : c.read.new.self.columns ≡ old.so_far.columns =
    ap (λ (s : Standing). s.columns) c.in-Ok.ensures.rest ∙ columns in
    let so_far : record {
      awaited = awaited_view c.pass_row.new.self;
      columns =
          c.read.new.self.columns;
    } ≡ record old.so_far { awaited = Rows true } =
    (λ i. let s : ReplySoFar = record { awaited = c.pass_row.ensures i; columns = standing i } in s) in
    reads_row old _ c.args.payload.now c.self.inside.state.standing.format c.requires.due same context
    so_far fault
    (λ these h. c.in-Ok.ensures.row these (columns ∙ h))

pub returns-in-Err : goal.returns-in-Err
returns-in-Err c =
    let old = c.args.self.now in
    let same : c.self.inside.state.standing.format ≡ format_of old.context.kind = c.self.invariant ∙
    ap (λ (s : ReaderState). format_of s.context.kind) c.self.view_is in
    let columns : c.self.inside.state.standing.columns ≡ old.so_far.columns =
    ap (λ (s : ReaderState). s.so_far.columns) c.self.view_is in
    let context : c.self.inside.context ≡ old.context = ap (λ (s : ReaderState). s.context) c.self.view_is in
    let standing : c.read.new.self.columns ≡ old.so_far.columns =
    ap (λ (s : Standing). s.columns) c.in-Err.ensures.rest ∙ columns in
    let failed : HasFailed old c.in-Err.fault c.fail.new.self = record {
      context = c.fail.ensures.fails.context ∙ context;
      so_far = c.fail.ensures.fails.so_far ∙
          ap (λ (columns : Option (List ColumnDefinition)). let s : ReplySoFar =
          record { awaited = Nothing; columns = columns } in s) standing;
      fault = c.fail.ensures.fails.fault;
    } in
    subst (λ f. ReadsOn old c.args.payload.now (Err f) c.fail.new.self) (sym c.fail.ensures.same)
    (reads_no_row old c.fail.new.self (record old { rows = c.read.new.self.reader })
    c.args.payload.now c.self.inside.state.standing.format c.in-Err.fault c.requires.due same
    failed (λ these h. c.in-Err.ensures.row these (columns ∙ h)))

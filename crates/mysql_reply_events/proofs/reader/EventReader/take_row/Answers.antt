use Rattle.std.proofs.Common.{◌≡◌, true, ap, sym, ◌∙◌}
use Rattle.mysql_reply_events.specs.NextRows.{is_next_row}
use Rattle.mysql_reply_events.specs.Reader.{ReaderState}
use Rattle.mysql_reply_events.specs.Standing.{Standing, format_of}
use Rattle.mysql_reply_events.specs.Views.{awaited_view}
use Rattle.mysql_reply_events.proofs.NextRows.{takes}
use Rattle.mysql_reply_events.proofs.reader.EventReader.take_row.Goals as goal

pub returns-then-is_next_row : goal.returns-then-is_next_row
returns-then-is_next_row c =
    let old = c.args.self.now in
    let columns : c.self.inside.state.standing.columns ≡ old.so_far.columns =
    ap (λ (s : ReaderState). s.so_far.columns) c.self.view_is in
    let rows : c.self.inside.state.standing.reader ≡ old.rows = ap (λ (s : ReaderState). s.rows) c.self.view_is in
    let format : c.self.inside.state.standing.format ≡ format_of old.context.kind =
    c.self.invariant ∙ ap (λ (s : ReaderState). format_of s.context.kind) c.self.view_is in
    let next : is_next_row old.so_far.awaited c.args.payload.now ≡ true =
    ap (λ (s : ReaderState). is_next_row s.so_far.awaited c.args.payload.now) (sym c.self.view_is) ∙
    sym c.is_next_row.ensures ∙ c.if-is_next_row.true in
    takes old _ c.args.payload.now c.self.inside.state.standing c.take_row.result next columns rows format c.requires
    (ap (λ (s : Standing). let state : ReaderState = record {
      context = c.self.inside.context;
      so_far = record { awaited = awaited_view c.self.inside.state.awaited; columns = s.columns };
      fault = c.self.inside.fault;
      rows = c.take_row.new.self.reader;
    } in state) c.take_row.ensures.rest
    ∙ ap (λ (s : ReaderState). let state : ReaderState =
    record s { rows = c.take_row.new.self.reader } in state) c.self.view_is)
    c.take_row.ensures.row

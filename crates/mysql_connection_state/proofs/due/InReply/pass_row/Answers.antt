use Rattle.std.proofs.Common.{◌≡◌, ◌+◌, ℕ, ap, subst, ◌∙◌}
use Rattle.mysql_connection_rules.specs.Steps.{reply_after}
use Rattle.mysql_reply_events.specs.Events.Event.{RowEvent}
use Rattle.mysql_reply_events.specs.Reader.{ReaderState}
use Rattle.mysql_reply_events.specs.Views.{event_view as reply_view}
use Rattle.mysql_connection_state.proofs.PassedRows.{passes_row}
use Rattle.mysql_connection_state.specs.Views.{in_reply_view}
use Rattle.mysql_connection_state.proofs.due.InReply.pass_row.Goals as goal

pub returns : goal.returns
returns c = λ size.
    let old = c.args.self.now in
    let row = c.requires.row.0 in
    let new = c.row_came.new.self in
    let Came : ReaderState → Type 0 = λ reader. in_reply_view new ≡
    reply_after (in_reply_view (record old { reader = reader })) size (RowEvent row)
    reader.so_far in
    passes_row old new size c.args.room (c.going_size-going.result + (old.earlier + old.coming))
    (reply_view c.args.event.now) row c.args.statements.now
    c.requires.row.1 c.requires.going (c.row_came.ensures.reader ∙ c.pass.ensures)
    (subst Came c.pass.ensures (c.row_came.ensures.reply size row))
    (ap (λ (n : ℕ). n + (old.earlier + old.coming)) c.going_size-going.ensures.size) c.in_ok-fit.ensures

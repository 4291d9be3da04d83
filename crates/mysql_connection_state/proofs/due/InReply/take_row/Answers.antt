use Rattle.std.proofs.Common.{◌≡◌, true}
use Rattle.mysql_reply_events.specs.Events.Awaited.{Rows}
use Rattle.mysql_reply_events.specs.Reader.{ReadsRow}
use Rattle.mysql_connection_state.proofs.Parts.{row_part}
use Rattle.mysql_connection_state.proofs.due.InReply.take_row.Goals as goal

pub returns-then-take_row : goal.returns-then-take_row
returns-then-take_row c =
    let took : (c.args.self.now.reader.so_far.awaited ≡ Rows true) ×
    ReadsRow c.args.self.now.reader c.args.payload.now c.take_row.new.self =
    rw c.if-take_row.true at c.take_row.ensures in (
      took.0,
      λ these. row_part c.args.self.now c.row_came.new.self c.take_row.new.self these
          c.args.payload.now took.1 c.row_came.ensures.reader c.row_came.ensures.reply,
    )

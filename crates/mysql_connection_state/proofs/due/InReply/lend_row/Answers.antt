use Rattle.std.proofs.Common.{◌≡◌, true}
use Rattle.mysql_reply_events.specs.Reader.{ReadsRow, is_row_due}
use Rattle.mysql_connection_state.proofs.Parts.{row_part}
use Rattle.mysql_connection_state.proofs.due.InReply.lend_row.Goals as goal

pub returns-then-lend_row : goal.returns-then-lend_row
returns-then-lend_row c =
    let old = c.args.self.now.reader in
    let lent : (is_row_due old.context old.so_far c.args.payload.now ≡ true) ×
    ReadsRow old c.args.payload.now c.lend_row.new.self =
    rw c.if-lend_row.true at c.lend_row.ensures in (
      lent.0,
      λ these. row_part c.args.self.now c.row_came.new.self c.lend_row.new.self these
          c.args.payload.now lent.1 c.row_came.ensures.reader c.row_came.ensures.reply,
    )

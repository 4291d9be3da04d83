use Rattle.std.proofs.Common.{Bool, true, subst}
use Rattle.mysql_reply_events.specs.NextRows.{LendsRow}
use Rattle.mysql_replies.proofs.Lent.{row_lent}
use Rattle.mysql_replies.proofs.state.ReplyState.lend.Goals as goal

pub returns-then-lend_row : goal.returns-then-lend_row
returns-then-lend_row c =
    let old = c.args.self.now in
    let lends : LendsRow old.events c.args.payload.now true c.lend_row.new.self =
    subst (λ (b : Bool). LendsRow old.events c.args.payload.now b c.lend_row.new.self)
    c.if-lend_row.true c.lend_row.ensures in
    let h = row_lent old c.args.payload.now c.lend_row.new.self c.requires.reading c.requires.going
    c.requires.room lends in
    record { reading = h.reading; ok = h.ok; fault = h.fault; step = h.step; keeps_none = h.keeps_none }

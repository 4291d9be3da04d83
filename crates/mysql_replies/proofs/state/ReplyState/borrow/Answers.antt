use Rattle.std.proofs.Common.{◌+◌, ◌<◌, ◌^◌, Bool, true, Err, sym, subst, arith}
use Rattle.mysql_reply_events.specs.NextRows.{TakesRow}
use Rattle.mysql_replies.specs.RowSteps.{StateBorrowsNext}
use Rattle.mysql_replies.proofs.Lent.{next_row_lent}
use Rattle.mysql_replies.proofs.Numbers.{too_large}
use Rattle.mysql_replies.proofs.state.ReplyState.borrow.Goals as goal

pub returns-then-self-clause-step : goal.returns-then-self-clause-step
returns-then-self-clause-step c =
    subst (λ f. StateBorrowsNext c.args.self.now c.args.payload.now (Err f) c.fail.new.self) (sym c.fail.ensures.same)
    (too_large c.args.self.now c.fail.new.self c.args.payload.now c.requires.going
    c.fail.ensures.state c.if-self.true c.requires.awaiting)

pub returns-then-take_row : goal.returns-then-take_row
returns-then-take_row c =
    let old = c.args.self.now in
    let room : old.count + 1 < 2 ^ 64 = omega arith in
    let takes : TakesRow old.events c.args.payload.now true c.take_row.new.self =
    subst (λ (b : Bool). TakesRow old.events c.args.payload.now b c.take_row.new.self)
    c.if-take_row.true c.take_row.ensures in
    let h = next_row_lent old c.args.payload.now c.take_row.new.self c.requires.reading c.requires.going room takes in
    record { reading = h.reading; ok = h.ok; fault = h.fault; step = h.step; keeps_none = h.keeps_none }

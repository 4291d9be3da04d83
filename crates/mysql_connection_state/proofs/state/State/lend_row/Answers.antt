use Rattle.std.proofs.Common.{◌≡◌, refl}
use Rattle.mysql_connection_rules.specs.Standing.Phase.{Reply}
use Rattle.mysql_connection_state.specs.Views.{ReadsBy, in_reply_view}
use Rattle.mysql_connection_state.proofs.NextRows.{lent, lent_fits}
use Rattle.mysql_connection_state.proofs.state.State.lend_row.Goals as goal

pub invariant_of-self-2 : goal.invariant_of-self-2
invariant_of-self-2 c =
    let reads : ReadsBy c.self.inside.capabilities c.in-Reply.reply =
    rw c.in-Reply.is at c.self.invariant in
    lent_fits c.in-Reply.reply c.lend_row.new.self c.args.payload.now c.lend_row.result
    c.self.inside.statements c.self.inside.capabilities c.lend_row.ensures reads

pub returns : goal.returns
returns c =
    let phase : c.args.self.now.standing.phase ≡ Reply (in_reply_view c.in-Reply.reply) =
    rw (← c.self.view_is, c.in-Reply.is) refl in
    let reads : ReadsBy c.self.inside.capabilities c.in-Reply.reply =
    rw c.in-Reply.is at c.self.invariant in
    lent c.args.self.now _ c.in-Reply.reply c.lend_row.new.self c.args.payload.now c.lend_row.result
    phase (rw (← c.self.view_is) reads.context) (rw (← c.self.view_is) refl) refl
    c.lend_row.ensures

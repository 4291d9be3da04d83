use Rattle.std.proofs.Common.{◌≡◌, refl}
use Rattle.mysql_connection_rules.specs.Standing.Phase.{Reply}
use Rattle.mysql_connection_state.specs.Views.{ReadsBy, in_reply_view}
use Rattle.mysql_connection_state.proofs.NextRows.{still_fits, taken}
use Rattle.mysql_connection_state.proofs.state.State.take_row.Goals as goal

pub invariant_of-self-2 : goal.invariant_of-self-2
invariant_of-self-2 c =
    let reads : ReadsBy c.self.inside.capabilities c.in-Reply.reply =
    rw c.in-Reply.is at c.self.invariant in
    still_fits c.in-Reply.reply c.take_row.new.self c.args.payload.now c.take_row.result
    c.self.inside.statements c.self.inside.capabilities c.take_row.ensures reads

pub returns : goal.returns
returns c =
    let phase : c.args.self.now.standing.phase ≡ Reply (in_reply_view c.in-Reply.reply) =
    rw (← c.self.view_is, c.in-Reply.is) refl in
    let reads : ReadsBy c.self.inside.capabilities c.in-Reply.reply =
    rw c.in-Reply.is at c.self.invariant in
    let rows : c.args.self.now.rows ≡ c.in-Reply.reply.reader.rows =
    rw (← c.self.view_is, c.in-Reply.is) refl in
    taken c.args.self.now _ c.in-Reply.reply c.take_row.new.self c.args.payload.now c.take_row.result
    phase (rw (← c.self.view_is) reads.context) rows (rw (← c.self.view_is) refl) refl
    c.take_row.ensures

use Rattle.std.proofs.Common.{refl}
use Rattle.mysql_connection_state.specs.Views.{ReadsBy, in_reply_view}
use Rattle.mysql_connection_state.proofs.state.State.reply_reader.Goals as goal

pub returns-in-Reply : goal.returns-in-Reply
returns-in-Reply c =
    let by : ReadsBy c.self.inside.capabilities c.in-Reply.reply =
    rw c.in-Reply.is at c.self.invariant in (
      in_reply_view c.in-Reply.reply,
      record {
        phase = rw (← c.self.view_is, c.in-Reply.is) refl;
        context = rw (← c.self.view_is, ← by.context) refl;
        so_far = refl;
        fault = by.fault;
      },
    )

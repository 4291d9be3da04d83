use Rattle.std.proofs.Common.{[], subst}
use Rattle.mysql_wire.specs.Incoming.{codec_by}
use Rattle.mysql_replies.specs.Holding.{ReaderDecides}
use Rattle.mysql_replies.specs.Views.{answer_view}
use Rattle.mysql_replies.proofs.Receiving.{finish_decides}
use Rattle.mysql_replies.proofs.reader.ReplyReader.finish.Goals as goal

pub returns : goal.returns
returns c =
    subst (λ held. ReaderDecides held [] (answer_view c.finish.result)) c.self.view_is
    (finish_decides c.self.inside.parts.state (codec_by c.self.inside.parts.packets)
    c.self.inside.parts.packets.bytes [] (answer_view c.finish.result) c.self.invariant
    c.finish.ensures)

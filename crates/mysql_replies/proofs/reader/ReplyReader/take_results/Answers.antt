use Rattle.std.proofs.Common.{◌≡◌, [], true, ap, subst}
use Rattle.mysql_wire.specs.Incoming.{codec_by}
use Rattle.mysql_replies.specs.Holding.{ReaderState}
use Rattle.mysql_reply_events.specs.Reader.{ReaderState as EventsState}
use Rattle.mysql_replies.specs.Reply.{ReplySoFar, is_over}
use Rattle.mysql_replies.specs.States.{reader_state}
use Rattle.mysql_replies.specs.Taking.{results_in, without_results}
use Rattle.mysql_replies.specs.Views.{outcome_views}
use Rattle.mysql_replies.proofs.Handing.{receiving_over}
use Rattle.mysql_replies.proofs.reader.ReplyReader.take_results.Goals as goal

pub invariant_of-self : goal.invariant_of-self
invariant_of-self c =
    receiving_over c.self.inside.parts.state c.take_results.new.self
    (codec_by c.self.inside.parts.packets) c.self.inside.parts.packets.bytes []
    c.take_results.ensures.reading c.take_results.ensures.fault
    (λ over none. subst (λ (e : EventsState). is_over e.so_far.awaited ≡
    true) c.take_results.ensures.events over) c.self.invariant

pub returns-clause-taken : goal.returns-clause-taken
returns-clause-taken c = subst (λ (held : ReaderState). outcome_views c.take_results.result.items ≡
    results_in held.so_far) c.self.view_is c.take_results.ensures.taken

pub returns-clause-left : goal.returns-clause-left
returns-clause-left c =
    subst (λ (held : ReaderState). reader_state c.take_results.new.self
    c.self.inside.parts.packets ≡ record held { so_far = without_results held.so_far })
    c.self.view_is
    (ap (λ (so_far : ReplySoFar). record
    (reader_state c.self.inside.parts.state c.self.inside.parts.packets) { so_far = so_far })
    c.take_results.ensures.left)

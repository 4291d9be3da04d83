use Rattle.std.proofs.Common.{◌≡◌, [], ap, subst, ◌∙◌}
use Rattle.mysql_wire.specs.Incoming.{codec_by}
use Rattle.mysql_replies.specs.Holding.{ReaderState}
use Rattle.mysql_replies.specs.Reply.{ReplySoFar}
use Rattle.mysql_replies.specs.States.{reader_state}
use Rattle.mysql_replies.specs.Taking.{reports_in, without_reports}
use Rattle.mysql_replies.specs.Views.{report_views}
use Rattle.mysql_replies.proofs.Handing.{receiving_reports, state_reports, state_without_reports}
use Rattle.mysql_replies.proofs.reader.ReplyReader.take_progress.Goals as goal

pub invariant_of-self : goal.invariant_of-self
invariant_of-self c =
    receiving_reports c.self.inside.parts.state c.take_progress.new.self
    (codec_by c.self.inside.parts.packets) c.self.inside.parts.packets.bytes []
    c.take_progress.ensures.left c.self.invariant

pub returns-clause-taken : goal.returns-clause-taken
returns-clause-taken c =
    ap (λ reports. report_views reports.items) c.take_progress.ensures.taken
    ∙ subst (λ (held : ReaderState). report_views c.self.inside.parts.state.progress.items ≡
    reports_in held.so_far) c.self.view_is (state_reports c.self.inside.parts.state)

pub returns-clause-left : goal.returns-clause-left
returns-clause-left c =
    subst (λ (held : ReaderState). reader_state c.take_progress.new.self
    c.self.inside.parts.packets ≡ record held { so_far = without_reports held.so_far })
    c.self.view_is
    (ap (λ (so_far : ReplySoFar). record
    (reader_state c.self.inside.parts.state c.self.inside.parts.packets) { so_far = so_far })
    (state_without_reports c.self.inside.parts.state c.take_progress.new.self
    c.take_progress.ensures.left c.take_progress.ensures.none))

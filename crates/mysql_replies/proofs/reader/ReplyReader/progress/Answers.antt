use Rattle.std.proofs.Common.{◌≡◌, ap, subst, ◌∙◌}
use Rattle.mysql_replies.specs.Holding.{ReaderState}
use Rattle.mysql_replies.specs.Taking.{reports_in}
use Rattle.mysql_replies.specs.Views.{report_views}
use Rattle.mysql_replies.proofs.Handing.{state_reports}
use Rattle.mysql_replies.proofs.reader.ReplyReader.progress.Goals as goal

pub returns : goal.returns
returns c =
    ap report_views c.as_slice.ensures.value
    ∙ subst (λ (held : ReaderState). report_views c.self.inside.parts.state.progress.items ≡
    reports_in held.so_far) c.self.view_is (state_reports c.self.inside.parts.state)

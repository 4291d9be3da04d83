use Rattle.std.proofs.Common.{subst, sym}
use Rattle.mysql_replies.specs.Holding.{ReaderState}
use Rattle.mysql_replies.specs.States.{reply_so_far}
use Rattle.mysql_replies.specs.Taking.{Lists, ListsResults, rows_awaited}
use Rattle.mysql_replies.specs.Views.{outcome_views, part_view}
use Rattle.mysql_replies.proofs.Handing.{state_lists}
use Rattle.mysql_replies.proofs.reader.ReplyReader.results.Goals as goal

pub returns : goal.returns
returns c =
    let s = c.self.inside.parts.state in
    subst (λ (held : ReaderState). ListsResults held.so_far (outcome_views c.as_slice.result.now)) c.self.view_is (
      rows_awaited (part_view s.part),
      subst (λ items. Lists (reply_so_far s) (outcome_views items)
          (rows_awaited (part_view s.part))) (sym c.as_slice.ensures.value) (state_lists s),
    )

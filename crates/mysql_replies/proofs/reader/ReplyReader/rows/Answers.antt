use Rattle.std.proofs.Common.{subst, sym}
use Rattle.mysql_replies.specs.Holding.{ReaderState}
use Rattle.mysql_replies.specs.Taking.{Lists, ListsRows}
use Rattle.mysql_replies.specs.States.{reply_so_far}
use Rattle.mysql_replies.specs.Views.{outcome_views, row_views}
use Rattle.mysql_replies.proofs.Handing.{state_lists}
use Rattle.mysql_replies.proofs.reader.ReplyReader.rows.Goals as goal

pub returns : goal.returns
returns c =
    let s = c.self.inside.parts.state in
    subst (λ (held : ReaderState). ListsRows held.so_far (row_views c.rows.result.now)) c.self.view_is (
      outcome_views s.results.items,
      subst (Lists (reply_so_far s) (outcome_views s.results.items)) (sym c.rows.ensures)
          (state_lists s),
    )

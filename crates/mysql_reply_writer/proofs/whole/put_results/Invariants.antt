use Rattle.std.proofs.Common.{drop}
use Rattle.mysql_replies.specs.Views.{outcome_views}
use Rattle.mysql_reply_writer.specs.Written.{results_steps}
use Rattle.mysql_reply_writer.proofs.Steps.{WroteSoFar}
use Rattle.mysql_reply_writer.proofs.whole.put_results.Given as goal

abbrev pub invariant-results : goal.invariant-results
invariant-results l =
    WroteSoFar l.fn.writer (results_steps (outcome_views l.results)) l.writer
    (results_steps (outcome_views (drop l.index l.results))) l.fn.out.items l.out.items

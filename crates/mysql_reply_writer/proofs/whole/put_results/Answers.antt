use Rattle.std.proofs.Common.{◌+◌, length, nat_lt, refl, arith}
use Rattle.std.proofs.lemmas.Result.{err_from_is_err_and}
use Rattle.mysql_replies.specs.Views.{outcome_view, outcome_views}
use Rattle.mysql_reply_writer.specs.Written.{result_steps, results_steps}
use Rattle.mysql_reply_writer.proofs.Items.{next_item}
use Rattle.mysql_reply_writer.proofs.ItemsWritten.{all_items, item_refused, item_written}
use Rattle.mysql_reply_writer.proofs.More.{first_steps}
use Rattle.mysql_reply_writer.proofs.Steps.{none_written}
use Rattle.mysql_reply_writer.proofs.whole.put_results.Goals as goal

pub results-init : goal.results-init
results-init c = none_written c.args.writer.now (results_steps (outcome_views c.args.results.now)) c.args.out.now.items

pub results-preserved : goal.results-preserved
results-preserved c =
    item_written (λ l. results_steps (outcome_views l)) c.args.writer.now c.results.writer
    c.args.results.now c.results.index c.args.out.now.items c.results.out.items
    c.results.invariant
    c.index-results-index.result
    (next_item c.args.results.now c.results.index c.index-results-index.result
    c.results-test.true c.index-results-index.is)
    (result_steps (nat_lt (c.results.index + 1) (length c.args.results.now))
    (outcome_view c.index-results-index.result))
    (first_steps c.args.results.now (c.results.index + 1) c.index-results-index.result)
    c.put_result.new.writer c.put_result.new.out.items c.in_ok-put_result.ensures.ok

pub returns-in_err-put_result-clause-err : goal.returns-in_err-put_result-clause-err
returns-in_err-put_result-clause-err c =
    let p = err_from_is_err_and c.from_residual.result c.from_residual.ensures.1 in
    rw (p.1, p.2) (item_refused (λ l. results_steps (outcome_views l)) c.args.writer.now
    c.results.writer c.args.results.now c.results.index c.args.out.now.items c.results.out.items
    c.results.invariant
    c.index-results-index.result
    (next_item c.args.results.now c.results.index c.index-results-index.result
    c.results-test.true c.index-results-index.is)
    (result_steps (nat_lt (c.results.index + 1) (length c.args.results.now))
    (outcome_view c.index-results-index.result))
    (first_steps c.args.results.now (c.results.index + 1) c.index-results-index.result)
    c.in_err-put_result.field-0.0 c.in_err-put_result.ensures.err)

pub returns-clause-ok : goal.returns-clause-ok
returns-clause-ok c =
    all_items (λ l. results_steps (outcome_views l)) c.args.writer.now c.results.writer
    c.args.results.now c.results.index c.args.out.now.items c.results.out.items
    c.results.invariant (omega arith) refl

use Rattle.std.proofs.Common.{map}
use Rattle.std.proofs.lemmas.Result.{err_from_is_err_and}
use Rattle.mysql_replies.specs.Views.{outcome_views, report_views}
use Rattle.mysql_reply_writer.specs.Written.{ReportStep, reply_steps, results_steps}
use Rattle.mysql_reply_writer.proofs.Ends.{end_refused, whatever, whole_refused}
use Rattle.mysql_reply_writer.proofs.Steps.{first_refused, later_refused, two_written}
use Rattle.mysql_reply_writer.proofs.whole.put_reply.Goals as goal

pub returns-in_err-put_reports-clause-err : goal.returns-in_err-put_reports-clause-err
returns-in_err-put_reports-clause-err c =
    let reports = map ReportStep (report_views c.args.progress.now) in
    let results = results_steps (outcome_views c.args.results.now) in
    let p = err_from_is_err_and c.from_residual.result c.from_residual.ensures.1 in
    rw (p.1, p.2) (whole_refused c.args.writer.now
    (reply_steps (outcome_views c.args.results.now) (report_views c.args.progress.now))
    c.in_err-put_reports.field-0.0
    (first_refused c.args.writer.now reports results c.in_err-put_reports.field-0.0 c.in_err-put_reports.ensures.err))

pub returns-in_err-put_results-clause-err : goal.returns-in_err-put_results-clause-err
returns-in_err-put_results-clause-err c =
    let reports = map ReportStep (report_views c.args.progress.now) in
    let results = results_steps (outcome_views c.args.results.now) in
    let p = err_from_is_err_and c.from_residual-in_err-put_results.result
    c.from_residual-in_err-put_results.ensures.1 in
    rw (p.1, p.2) (whole_refused c.args.writer.now
    (reply_steps (outcome_views c.args.results.now) (report_views c.args.progress.now))
    c.in_err-put_results.field-0.0
    (later_refused c.args.writer.now c.put_reports.new.writer reports results c.args.out.now.items
    c.put_reports.new.out.items c.in_err-put_results.field-0.0 c.in_ok-put_reports.ensures.ok
    c.in_err-put_results.ensures.err))

pub returns-clause-ok : goal.returns-clause-ok
returns-clause-ok c =
    whatever c.finish.result
    (two_written c.args.writer.now c.put_reports.new.writer c.put_results.new.writer
    (map ReportStep (report_views c.args.progress.now))
    (results_steps (outcome_views c.args.results.now))
    c.args.out.now.items c.put_reports.new.out.items c.put_results.new.out.items
    c.in_ok-put_reports.ensures.ok c.in_ok-put_results.ensures.ok)

pub returns-clause-err : goal.returns-clause-err
returns-clause-err c =
    end_refused c.args.writer.now c.put_results.new.writer
    (reply_steps (outcome_views c.args.results.now) (report_views c.args.progress.now))
    c.args.out.now.items c.put_results.new.out.items c.finish.result
    (two_written c.args.writer.now c.put_reports.new.writer c.put_results.new.writer
    (map ReportStep (report_views c.args.progress.now))
    (results_steps (outcome_views c.args.results.now))
    c.args.out.now.items c.put_reports.new.out.items c.put_results.new.out.items
    c.in_ok-put_reports.ensures.ok c.in_ok-put_results.ensures.ok) c.finish.ensures

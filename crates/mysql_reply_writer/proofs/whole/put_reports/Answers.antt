use Rattle.std.proofs.Common.{[], ◌∷◌, map, refl, arith}
use Rattle.std.proofs.lemmas.Result.{err_from_is_err_and}
use Rattle.mysql_server_packets.specs.Views.{progress_report_view}
use Rattle.mysql_replies.specs.Views.{report_views}
use Rattle.mysql_reply_writer.specs.Written.{ReportStep}
use Rattle.mysql_reply_writer.proofs.Items.{next_item}
use Rattle.mysql_reply_writer.proofs.ItemsWritten.{all_items, item_refused, item_written}
use Rattle.mysql_reply_writer.proofs.Steps.{none_written}
use Rattle.mysql_reply_writer.proofs.whole.put_reports.Goals as goal

pub reports-init : goal.reports-init
reports-init c = none_written c.args.writer.now (map ReportStep (report_views c.args.progress.now)) c.args.out.now.items

pub reports-preserved : goal.reports-preserved
reports-preserved c =
    item_written (λ l. map ReportStep (report_views l)) c.args.writer.now c.reports.writer
    c.args.progress.now c.reports.report-index c.args.out.now.items c.reports.out.items
    c.reports.invariant
    c.report-item.result (next_item c.args.progress.now c.reports.report-index c.report-item.result
    c.reports-test.true c.report-item.is)
    (ReportStep (progress_report_view c.report-item.result) ∷ []) refl
    c.report.new.self c.report.new.out.items c.in_ok-report.ensures.ok

pub returns-in_err-report-clause-err : goal.returns-in_err-report-clause-err
returns-in_err-report-clause-err c =
    let p = err_from_is_err_and c.from_residual.result c.from_residual.ensures.1 in
    rw (p.1, p.2) (item_refused (λ l. map ReportStep (report_views l)) c.args.writer.now
    c.reports.writer c.args.progress.now c.reports.report-index c.args.out.now.items
    c.reports.out.items c.reports.invariant
    c.report-item.result (next_item c.args.progress.now c.reports.report-index c.report-item.result
    c.reports-test.true c.report-item.is)
    (ReportStep (progress_report_view c.report-item.result) ∷ []) refl
    c.in_err-report.field-0.0 c.in_err-report.ensures.err)

pub returns-clause-ok : goal.returns-clause-ok
returns-clause-ok c =
    all_items (λ l. map ReportStep (report_views l)) c.args.writer.now c.reports.writer
    c.args.progress.now c.reports.report-index c.args.out.now.items c.reports.out.items
    c.reports.invariant (omega arith) refl

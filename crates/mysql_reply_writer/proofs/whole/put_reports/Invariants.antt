use Rattle.std.proofs.Common.{drop, map}
use Rattle.mysql_replies.specs.Views.{report_views}
use Rattle.mysql_reply_writer.specs.Written.{ReportStep}
use Rattle.mysql_reply_writer.proofs.Steps.{WroteSoFar}
use Rattle.mysql_reply_writer.proofs.whole.put_reports.Given as goal

abbrev pub invariant-reports : goal.invariant-reports
invariant-reports l =
    WroteSoFar l.fn.writer (map ReportStep (report_views l.progress)) l.writer
    (map ReportStep (report_views (drop l.report-index l.progress))) l.fn.out.items l.out.items

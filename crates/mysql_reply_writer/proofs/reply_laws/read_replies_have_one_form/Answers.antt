use Rattle.mysql_reply_writer.proofs.OwnForms.{equal_forms_were_read_equally, read_forms_are_written_again}
use Rattle.mysql_reply_writer.proofs.reply_laws.read_replies_have_one_form.Goals as goal

pub returns-clause-again : goal.returns-clause-again
returns-clause-again c = read_forms_are_written_again c.read_replies_are_their_own.ensures.results
    c.read_replies_are_their_own.ensures.reports

pub returns-clause-equal : goal.returns-clause-equal
returns-clause-equal c =
    equal_forms_were_read_equally c.read_replies_are_their_own.ensures.results
    c.read_replies_are_their_own.ensures.reports
    c.written_replies_are_whole.ensures.whole c.whole_replies_are_results.ensures.some

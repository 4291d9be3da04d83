use Rattle.mysql_reply_writer.proofs.Own.{read_reports_are_their_own, read_results_are_their_own}
use Rattle.mysql_reply_writer.proofs.OwnPackets.{OwnLaws}
use Rattle.mysql_reply_writer.proofs.OwnSteps.{read_replies_can_be_written}
use Rattle.mysql_reply_writer.proofs.reply_laws.read_replies_are_their_own.Goals as goal

pub returns-clause-results : goal.returns-clause-results
returns-clause-results c =
    let laws : OwnLaws = record {
      ok = c.packets_are_their_own.ensures.ok;
      terminator = c.packets_are_their_own.ensures.terminator;
      eof = c.packets_are_their_own.ensures.eof;
      text = c.read_text_rows_are_written.ensures;
      binary = c.read_binary_rows_are_written.ensures;
    } in
    read_results_are_their_own laws

pub returns-clause-reports : goal.returns-clause-reports
returns-clause-reports c = read_reports_are_their_own

pub returns-clause-written : goal.returns-clause-written
returns-clause-written c =
    let laws : OwnLaws = record {
      ok = c.packets_are_their_own.ensures.ok;
      terminator = c.packets_are_their_own.ensures.terminator;
      eof = c.packets_are_their_own.ensures.eof;
      text = c.read_text_rows_are_written.ensures;
      binary = c.read_binary_rows_are_written.ensures;
    } in
    read_replies_can_be_written laws

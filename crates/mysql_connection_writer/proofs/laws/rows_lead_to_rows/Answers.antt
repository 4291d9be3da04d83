use Rattle.mysql_connection_writer.proofs.NextRows.{rows_lead}
use Rattle.mysql_connection_writer.proofs.laws.rows_lead_to_rows.Goals as goal

pub returns : goal.returns
returns c = rows_lead c.events_lead_on.ensures

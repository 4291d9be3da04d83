use Rattle.mysql_reply_events.proofs.LeadingOn.{events_lead_on}
use Rattle.mysql_reply_events.proofs.laws.events_lead_on.Goals as goal

pub returns : goal.returns
returns c = events_lead_on

use Rattle.mysql_connection_contents.proofs.Events.{put_events_are_spoken, taken_events_are_spoken}
use Rattle.mysql_connection_contents.proofs.delivery_laws.events_are_spoken.Goals as goal

pub returns : goal.returns
returns c = record { taken = taken_events_are_spoken c.runs_are_heard.ensures.heard; put = put_events_are_spoken }

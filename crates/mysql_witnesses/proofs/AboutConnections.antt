-- Events that were told, and the room of each side.
use Rattle.std.proofs.Common.{ap, ◌∙◌}
use Rattle.mysql_c_connection.specs.Opened.{event_in}
use Rattle.mysql_witnesses.specs.Connections.{AttributesHaveNames, EachSideHasItsRoom, ToldEventsAreHeld}

pub attributes_have_names : AttributesHaveNames
attributes_have_names len shown h = h.0

pub told_events_are_held : ToldEventsAreHeld
told_events_are_held number old new shown event tells e = tells.event ∙ ap event_in e

pub each_side_has_its_room : EachSideHasItsRoom
each_side_has_its_room shown h = (h.client_room, h.server_room)

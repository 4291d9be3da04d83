use Rattle.std.proofs.Common.{ap}
use Rattle.mysql_reply_events.specs.Views.{event_view as reply_view}
use Rattle.mysql_rows.specs.Views.{row_view}
use Rattle.mysql_connection_state.proofs.due.InReply.pass.Goals as goal

pub pass_row-requires-clause-row : goal.pass_row-requires-clause-row
pass_row-requires-clause-row c = (row_view c.in-Row.field-0, ap reply_view c.in-Row.is)

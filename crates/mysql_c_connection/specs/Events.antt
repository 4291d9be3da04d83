-- What C sees of an event, by the prepared statements that stand behind it.
-- MySQL: Client/Server Protocol, "Connection Lifecycle".
use Rattle.std.specs.Prelude.{ℕ, List, [], Option, None, Some}
use Rattle.mysql_commands.specs.Commands as asked
use Rattle.mysql_commands.specs.Commands.{Command}
use Rattle.mysql_connection_machine.specs.Machines.{statement_meant}
use Rattle.mysql_connection_rules.specs.Events as said
use Rattle.mysql_connection_rules.specs.Events.{Event}
use Rattle.mysql_connection_statements.specs.Statements.{Statement, Statements}
use Rattle.mysql_c_connection_events.specs.Commands.{command_shown}
use Rattle.mysql_c_connection_events.specs.Logins.{authentication_shown, greeting_shown, response_event_shown}
use Rattle.mysql_c_connection_events.specs.Replies.{reply_shown}
use Rattle.mysql_c_connection_events.specs.Shown.{data_shown, error_shown}
use Rattle.mysql_c_connection_events.specs.declared.shown.ShownEvent.{ShownEvent}

-- the text of the prepared statement that an id of a command stands for, or no bytes
abbrev pub text_of : Option Statement → List ℕ
text_of None = []
text_of (Some s) = s.text

abbrev pub prepared_text : Statements → ℕ → List ℕ
prepared_text statements id = text_of (statement_meant statements id)

-- the text of the statement that a command executes, or no bytes
abbrev pub text_executed : Statements → Command → List ℕ
text_executed s (asked.Execute e) = prepared_text s e.statement
text_executed s (asked.BulkExecute e) = prepared_text s e.statement
text_executed s command = []

abbrev pub event_shown : Statements → Event → ShownEvent → ShownEvent
event_shown s (said.Greeting greeting) shown = greeting_shown greeting shown
event_shown s (said.Response response) shown = response_event_shown response shown
event_shown s (said.Authentication authentication) shown = authentication_shown authentication shown
event_shown s (said.Answer bytes) shown = data_shown 13 0 bytes shown
event_shown s (said.Asked command) shown = command_shown (text_executed s command) command shown
event_shown s (said.Replied reply) shown = reply_shown reply shown
event_shown s (said.FileData bytes) shown = data_shown 33 0 bytes shown
event_shown s (said.Farewell error) shown = error_shown 34 error shown

-- Words of the crate's own body: which phase is due.
-- MySQL: Client/Server Protocol, "Connection Lifecycle".
use Rattle.std.specs.Prelude.{Bool, true, false}
use Rattle.mysql_reply_events.specs.Events.{Awaited}
use Rattle.mysql_reply_events.specs.Events as awaiting
use Rattle.mysql_connection_rules.specs.Standing.{Phase}
use Rattle.mysql_connection_rules.specs.Standing as phases

abbrev pub awaits_greeting : Phase → Bool
awaits_greeting phases.Greeting = true
awaits_greeting phase = false

abbrev pub awaits_response : Phase → Bool
awaits_response phases.Response = true
awaits_response phase = false

abbrev pub awaits_answer : Phase → Bool
awaits_answer (phases.Answer exchange) = true
awaits_answer phase = false

abbrev pub awaits_command : Phase → Bool
awaits_command phases.Command = true
awaits_command phase = false

-- Bytes of the client's file are due.
abbrev pub is_file : Awaited → Bool
is_file awaiting.FileData = true
is_file awaited = false

abbrev pub awaits_file : Phase → Bool
awaits_file (phases.Reply r) = is_file r.so_far.awaited
awaits_file phase = false

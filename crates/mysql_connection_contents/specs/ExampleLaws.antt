-- What the example's bytes say, and to whom. Each law is the contract of a function in src/example_laws.rt.
-- MySQL: Client/Server Protocol, "Connection Lifecycle" and "Prepared Statements"; MariaDB:
-- "COM_STMT_BULK_EXECUTE".
use Rattle.std.specs.Prelude.{◌≡◌, Bool, true, false, [], ◌∷◌, Some}
use Rattle.std.specs.List.{list_all}
use Rattle.std.specs.Option.{option_map}
use Rattle.std.specs.declared.alloc.Global.{Global}
use Rattle.mysql_connection_contents.specs.Calls.{Call, Feed, Party, events_in, put_in, streams_in}
use Rattle.mysql_connection_contents.specs.Example.{begun, behind_answer, bytes, client_said, contents}
use Rattle.mysql_connection_contents.specs.Example.{events_said, server_said, text, up_to_answer, values}
use Rattle.mysql_connection_contents.specs.Promise.{Connected, SeeTheSame, sent_by}
use Rattle.mysql_connection_contents.specs.PutValues.{values_in}
use Rattle.mysql_connection_contents.specs.Shown.{executed_in, text_shown}
use Rattle.mysql_connection_rules.specs.Runs.{IsRun}
use Rattle.mysql_connection_rules.specs.Streams.{Waits, World, next}
use Rattle.mysql_connection_statements.specs.Statements.{statement_at}

-- The run over the bytes is the example's events, behind which more bytes are waited for.
abbrev pub BytesAreRead : Type 0
BytesAreRead = (last : World) × IsRun begun bytes events_said last × (next last ≡ Waits)

-- These events show the statement's text, and its executions with their contents: all, in order.
abbrev pub EventsHaveContents : Type 0
EventsHaveContents = (text_shown 1 events_said ≡ Some text) ×
    (executed_in 1 up_to_answer behind_answer ≡ contents)

-- What the record says of three connections between which these bytes went.
pub record SeeTheExample (client server auditor : Party begun) : Type 0 where
  pub see : SeeTheSame client server auditor
  pub events : see.events ≡ events_said
  pub asked : put_in client.calls ≡ client_said
  pub answered : put_in server.calls ≡ server_said
  pub has_text : option_map (λ statement. statement.text) (statement_at see.last.standing.statements 1) ≡ Some text
  pub reads : streams_in auditor.calls ≡ bytes → next auditor.machine.world ≡ Waits →
      events_in auditor.calls ≡ events_said

abbrev pub ExampleIsSeen : Type 0
ExampleIsSeen = (client server auditor : Party begun) → Connected client server auditor →
    sent_by client server ≡ bytes → SeeTheExample client server auditor

-- A call feeds a byte, if it feeds.
abbrev pub feeds_a_byte : Call → Bool
feeds_a_byte (Feed side (byte ∷ []) answer) = true
feeds_a_byte (Feed side piece answer) = false
feeds_a_byte call = true

-- Calls of three connections: the ends put these bytes by packets, and one execution by values. The auditor is
-- fed byte by byte, and has taken all.
pub record IsByHand (client server auditor : Party begun) : Type 0 where
  pub connected : Connected client server auditor
  pub sent : sent_by client server ≡ bytes
  pub by_values : values_in 1 client.calls ≡ values ∷ []
  pub bytes_came : list_all (λ done. feeds_a_byte done.call) auditor.calls ≡ true
  pub all_came : streams_in auditor.calls ≡ bytes
  pub none_left : next auditor.machine.world ≡ Waits

-- There are such, by whichever memory their events are held in.
abbrev pub ExampleIsMade : Type 0
ExampleIsMade = Global → (client server auditor : Party begun) × IsByHand client server auditor

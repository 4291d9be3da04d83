-- The front page of connections: what a client, a server and an auditor between them see.
-- docs/CONNECTION.md reads it aloud. MySQL: Client/Server Protocol, "Connection Lifecycle" and "MySQL
-- Packets".
use Rattle.std.specs.Prelude.{◌≡◌, true, List, [], None}
use Rattle.std.specs.List.{filter, list_all}
use Rattle.mysql_connection_contents.specs.Calls.{Party, all_have_memory, events_in, is_by, put_in, streams_in}
use Rattle.mysql_connection_contents.specs.Deliveries.{FurtherSetsAreSaid, SetsAreSaid}
use Rattle.mysql_connection_contents.specs.Contents.{Spoken, events_of}
use Rattle.mysql_connection_contents.specs.PutValues.{ShowsValues}
use Rattle.mysql_connection_contents.specs.Records.{HasHeard, HasSpoken}
use Rattle.mysql_connection_contents.specs.Shown.{IsBeginning, ShowsExecutions, ShowsQueries, ShowsTexts}
use Rattle.mysql_connection_rules.specs.Events.{Event}
use Rattle.mysql_connection_rules.specs.Puts.{is_of}
use Rattle.mysql_connection_rules.specs.Runs.{HasCome, HasComeOf, IsFront, IsRun}
use Rattle.mysql_connection_rules.specs.Streams.{Beginning, Streams, Waits, World, next}
use Rattle.mysql_connection_rules.specs.declared.side.Side.TheVariants.{Client, Server}

-- THREE OVER TWO STREAMS

-- What the client put, and what the server did.
abbrev pub sent_by : {begun : Beginning} → Party begun → Party begun → Streams
sent_by client server =
    record { client = (streams_in client.calls).client; server = (streams_in server.calls).server }

-- A client and a server, each of which puts its own and is fed what came of the other's, and an
-- auditor that is fed what came of both, in whatever pieces and order. All three begin alike, with the
-- same limits.
pub record Connected {begun : Beginning} (client server auditor : Party begun) : Type 0 where
  pub begins : IsBeginning begun
  pub client_puts : list_all (is_by Client) client.calls ≡ true
  pub server_puts : list_all (is_by Server) server.calls ≡ true
  pub to_client : HasComeOf (streams_in client.calls).server (streams_in server.calls).server
  pub to_server : HasComeOf (streams_in server.calls).client (streams_in client.calls).client
  pub to_auditor : HasCome (streams_in auditor.calls) (sent_by client server)

-- WHAT EACH HAS

-- Its events are a front of the one list, and each prepared statement that it has has the text that was
-- asked for in them. It has found no fault, but where an event was answered by want of memory. Once all
-- bytes and ends have come, and no event is left to take, it has all of the list, and stands as it does
-- at its end.
pub record Has {begun : Beginning} (sent : Streams) (events : List Event) (last : World) (party : Party begun) :
    Type 0 where
  pub front : IsFront (events_in party.calls) events
  pub texts : ShowsTexts (events_in party.calls) party.machine.world.standing
  pub no_fault : all_have_memory party.calls ≡ true → party.machine.failure ≡ None
  pub all : streams_in party.calls ≡ sent → next party.machine.world ≡ Waits →
      (events_in party.calls ≡ events) × (party.machine.world ≡ last)

-- THE PROMISE

-- The client's own record of its calls, payload by payload, is a front of these payloads.
abbrev pub HasRecordOf : {begun : Beginning} → Party begun → List Spoken → Type 0
HasRecordOf {begun = begun} client payloads = (xs : List Spoken) →
    HasSpoken Client Server begun (streams_in client.calls) xs client.machine.world →
    events_of xs ≡ events_in client.calls → IsFront xs payloads

-- A client, a server and an auditor between them see the same.
pub record SeeTheSame {begun : Beginning} (client server auditor : Party begun) : Type 0 where
  -- There is one list of events, and one end: the run over what both put.
  pub events : List Event
  pub last : World
  pub run : IsRun begun (sent_by client server) events last
  -- No fault is found in it, and nothing of either side is left unread.
  pub waits : next last ≡ Waits
  pub client_read : last.unread.client.bytes ≡ []
  pub server_read : last.unread.server.bytes ≡ []
  -- It is what payloads of both say, one after another, and the client's own record begins so. Of a prepared
  -- statement its executions are those that the payloads say. Where these are what is sent of sets, they say
  -- the sets.
  pub heard : HasHeard begun (sent_by client server) events last
  pub recorded : HasRecordOf client heard.payloads
  pub executions : ShowsExecutions heard.payloads
  pub sets : SetsAreSaid heard.payloads
  pub further : FurtherSetsAreSaid heard.payloads
  -- Where the client executes a statement by values that it puts, its executions say those values.
  pub values : ShowsValues client.calls events
  -- What is asked by text are queries of those texts.
  pub queries : ShowsQueries heard.payloads
  -- Its client's events are those that the client put, by whichever calls; its server's likewise.
  pub asked : filter (is_of Client) events ≡ put_in client.calls
  pub answered : filter (is_of Server) events ≡ put_in server.calls
  -- Each of the three has a front of it at each moment, and all of it once all has come.
  pub client_has : Has (sent_by client server) events last client
  pub server_has : Has (sent_by client server) events last server
  pub auditor_has : Has (sent_by client server) events last auditor

abbrev pub AllSeeTheSame : Type 0
AllSeeTheSame = (begun : Beginning) (client server auditor : Party begun) →
    Connected client server auditor → SeeTheSame client server auditor

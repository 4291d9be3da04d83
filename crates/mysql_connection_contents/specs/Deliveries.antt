-- Sets of a query that a client puts on a connection are read of it: the promise of whole
-- connections. Each law is the contract of a function in src/laws.rt. docs/CONNECTION.md reads them
-- aloud. MySQL: Client/Server Protocol, "Connection Lifecycle" and "Prepared Statements"; MariaDB:
-- Client/Server Protocol, "3 - Binary Protocol (Prepared Statements)".
use Rattle.std.specs.Prelude.{◌≡◌, ◌<◌, ◌≤◌, ◌^◌, ℕ, List, ◌∷◌, ◌++◌, drop, length, map}
use Rattle.std.specs.Prelude.{Some, false}
use Rattle.std.specs.List.{AllByRecursion, filter, flat_map}
use Rattle.mysql_command_rules.specs.Sent.{payloads_of}
use Rattle.mysql_command_rules.specs.Sets.{Given}
use Rattle.mysql_command_rules.specs.declared.road.Road.{Road}
use Rattle.mysql_command_rules.specs.declared.road.Road.TheVariants.{Text}
use Rattle.mysql_connection_rules.specs.AgreementLaws.{IsAuditor, IsClient, IsServer, Member, sent_by}
use Rattle.mysql_connection_rules.specs.Puts.{is_of}
use Rattle.mysql_connection_contents.specs.Contents.{BeginsWithNone, Leaves, PreparesIn}
use Rattle.mysql_connection_contents.specs.Contents.{Spoken, events_of, payloads_about, sets_about}
use Rattle.mysql_connection_rules.specs.declared.side.Side.TheVariants.{Client, Server}
use Rattle.mysql_connection_rules.specs.Events.{Event}
use Rattle.mysql_connection_rules.specs.Runs.{HasComeOf, IsFront, IsLast}
use Rattle.mysql_connection_rules.specs.Streams.{Beginning, Streams, World, next}
use Rattle.mysql_connection_recoding.specs.Agreement.{BulksInForce}
use Rattle.mysql_executions.specs.Types.{has_query_attributes}
use Rattle.mysql_receive.specs.Query.{place_count, statement_of}
use Rattle.mysql_send.specs.Executions.{execution_payloads}
use Rattle.mysql_session.specs.Delivery.{Delivers}
use Rattle.mysql_session.specs.Kept.{AppendsFurther, KeptQuery}
use Rattle.mysql_values.specs.Sql.{Sql}
use Rattle.mysql_values.specs.Value.{Value}
use Rattle.mysql_values.specs.Values.{content_of}
use Rattle.mysql_connection_contents.specs.Records.{HasHeard, HasSpoken}
use Rattle.mysql_wire.specs.Stream.{framings}
use Rattle.mysql_wire.specs.Stream.Numbering.{EachFromZero}

-- SETS OF A STATEMENT

-- The server answered a prepare: the statement has this id, and so many parameters. Of what was said
-- behind the answer this is a front, as far as one likes: in it query attributes aren't in force, and
-- bulk executions are, where there are any; the statement stays, and no refusal takes an execution
-- back.
pub record IsPrepared (payloads : List Spoken) (id count : ℕ) : Type 0 where
  pub before : List Spoken
  pub answer : Spoken
  pub behind : List Spoken
  pub rest : List Spoken
  pub parts : payloads ≡ before ++ answer ∷ (behind ++ rest)
  pub prepares : PreparesIn id count answer.standing.phase answer.event
  pub no_attributes : has_query_attributes answer.standing.capabilities ≡ false
  pub bulks : BulksInForce answer.standing.capabilities (payloads_about id behind)
  pub stays : AllByRecursion (Leaves id) behind

-- By executions of a prepared statement, or by bulk executions.
abbrev pub IsByStatement : Road → Type 0
IsByStatement Text = ⊥
IsByStatement road = Unit {0}

-- Where what the client said about a prepared statement is what is sent of sets behind the prepare
-- of their query, its executions say the contents of the sets: all of them, in order, and nothing
-- between.
abbrev pub SetsAreSaid : List Spoken → Type 0
SetsAreSaid payloads =
    (road : Road) (query : Sql) (sets : List (List ℕ) → List Given) (id limit : ℕ)
    (old new : List ℕ) (delivery : Delivers road query sets id limit old new)
    (said : IsPrepared payloads id
    (place_count (statement_of query delivery.tokens id).query)) →
    IsByStatement road → id < 2 ^ 32 → 4 ≤ limit → length delivery.sent < 2 ^ 64 →
    payloads_about id said.behind ≡ drop 1 (payloads_of delivery.sent) →
    flat_map (λ sets. sets) (sets_about id said.behind) ≡ map (map Some) delivery.contents

-- So they do where it is what `Query::send_more` appends, whose sets are numbered on from any number.
abbrev pub FurtherSetsAreSaid : List Spoken → Type 0
FurtherSetsAreSaid payloads =
    (query : KeptQuery) (limit first : ℕ) (sets : List (List Value)) (old new : List ℕ)
    (further : AppendsFurther query limit first sets old new)
    (said : IsPrepared payloads query.id
    (place_count (statement_of query.sql further.tokens query.id).query)) →
    query.id < 2 ^ 32 → length (payloads_about query.id said.behind) < 2 ^ 64 →
    payloads_about query.id said.behind ≡ flat_map (execution_payloads query.id) sets →
    flat_map (λ sets. sets) (sets_about query.id said.behind) ≡ map (map content_of) sets

-- So it is of whatever was heard of a connection on which no statement was prepared at first.
abbrev pub DeliveredSetsAreSaid : Type 0
DeliveredSetsAreSaid = (begun : Beginning) (streams : Streams) (events : List Event)
    (held : World) → BeginsWithNone begun → (heard : HasHeard begun streams events held) →
    SetsAreSaid heard.payloads × FurtherSetsAreSaid heard.payloads

-- SETS IN SEVERAL CALLS

-- What `Query::send_more` appended of sets in two calls is what it appends of all of them in one.
abbrev pub FurtherSetsJoin : Type 0
FurtherSetsJoin = (query : KeptQuery) (limit first later : ℕ) (sets more : List (List Value))
    (old new before behind : List ℕ) →
    AppendsFurther query limit first sets old new → AppendsFurther query limit later more before behind →
    AppendsFurther query limit first (sets ++ more) old
    (old ++ framings (flat_map (execution_payloads query.id) (sets ++ more)) EachFromZero)

-- THE PROMISE

-- What an auditor read: the client's events are those that the client put, the server's those that
-- the server put, and of each prepared statement the executions say the sets that were sent of it.
pub record ReadsAll (begun : Beginning) (asked answered : List Event) (auditor : Member) : Type 0
  where
    pub heard : HasHeard begun auditor.streams auditor.events auditor.held
    pub asked_all : filter (is_of Client) auditor.events ≡ asked
    pub answered_all : filter (is_of Server) auditor.events ≡ answered
    pub sets : SetsAreSaid heard.payloads
    pub further : FurtherSetsAreSaid heard.payloads

-- An auditor between a client and a server that put their events and read the other's, once all
-- bytes of both have come to it, in whatever pieces and order.
abbrev pub PutSetsAreRead : Type 0
PutSetsAreRead =
    (begun : Beginning) (asked answered : List Event) (client server auditor : Member) →
    BeginsWithNone begun →
    IsClient begun asked client → IsServer begun answered server → IsAuditor begun auditor →
    HasComeOf client.streams.server server.streams.server →
    HasComeOf server.streams.client client.streams.client →
    auditor.streams ≡ sent_by client server → IsLast (next auditor.held) →
    ReadsAll begun asked answered auditor

-- What stands in a client's own record, payload by payload, of what it put and took, the auditor
-- reads: its events begin with these; and they say the sets that the client put.
pub record ReadsPut (xs : List Spoken) (auditor : Member) : Type 0 where
  pub front : IsFront (events_of xs) auditor.events
  pub sets : SetsAreSaid xs
  pub further : FurtherSetsAreSaid xs

abbrev pub PutPayloadsAreRead : Type 0
PutPayloadsAreRead =
    (begun : Beginning) (answered : List Event) (streams : Streams) (xs : List Spoken)
    (held : World) (server auditor : Member) → begun.first.number < 256 → BeginsWithNone begun →
    HasSpoken Client Server begun streams xs held → IsServer begun answered server →
    IsAuditor begun auditor → HasComeOf streams.server server.streams.server →
    HasComeOf server.streams.client streams.client →
    auditor.streams ≡ record { client = streams.client; server = server.streams.server } →
    IsLast (next auditor.held) → ReadsPut xs auditor

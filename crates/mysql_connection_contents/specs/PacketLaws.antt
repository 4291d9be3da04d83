-- What a machine puts by packets is spoken, payload by payload. Each law is the contract of a function in
-- src/packet_laws.rt.
-- MySQL: Client/Server Protocol, "MySQL Packets", "Connection Lifecycle" and "Prepared Statements".
use Rattle.std.specs.Prelude.{◌≡◌, ◌⊎◌, ◌<◌, ◌≤◌, ◌^◌, ℕ, true, List, ◌∷◌, ◌++◌, drop, length, map, Ok, Some}
use Rattle.std.specs.List.{AllByRecursion, flat_map, list_all}
use Rattle.mysql_command_rules.specs.Sent.{AreSent, SentPayload, payloads_of}
use Rattle.mysql_command_rules.specs.declared.road.Road.{Road}
use Rattle.mysql_commands.specs.Replies.{statement_of}
use Rattle.mysql_connection_contents.specs.Calls.{Calls, Done, events_in, is_by, streams_from}
use Rattle.mysql_connection_contents.specs.Contents.{BeginsWithNone, Leaves, PreparesIn}
use Rattle.mysql_connection_contents.specs.Contents.{Spoken, events_of, is_due, payloads_about}
use Rattle.mysql_connection_contents.specs.Deliveries.{IsByStatement}
use Rattle.mysql_connection_contents.specs.Records.{HasSpoken}
use Rattle.mysql_connection_machine.specs.Laws.{PutsSent}
use Rattle.mysql_connection_machine.specs.Machines.{Machine}
use Rattle.mysql_connection_machine.specs.PuttingPackets.{PutsAll, PutsPackets}
use Rattle.mysql_connection_machine.specs.PuttingSets.{PutsSets}
use Rattle.mysql_connection_recoding.specs.Agreement.{is_about_parameters}
use Rattle.mysql_connection_rules.specs.Standing.Phase.{Over}
use Rattle.mysql_connection_rules.specs.Streams.{Beginning, Piece, Streams, grow, limit_of}
use Rattle.mysql_connection_rules.specs.declared.reason.Reason.TheVariants as reasons
use Rattle.mysql_connection_rules.specs.declared.side.Side.{Side}
use Rattle.mysql_connection_rules.specs.declared.side.Side.TheVariants.{Client, Server}
use Rattle.mysql_connection_statements.specs.Statements.{last_prepared}
use Rattle.mysql_receive.specs.Query.{Statement as ReceivedStatement}
use Rattle.mysql_send.specs.Executions.{execution_payloads}
use Rattle.mysql_values.specs.Value.{Value}
use Rattle.mysql_wire.specs.Stream.{framings}
use Rattle.mysql_wire.specs.Stream.Numbering.{EachFromZero}

-- A machine of one side has put these payloads behind what it had put and taken before: its side has said
-- each of them now, in their order, and the bytes that were appended are what came of its stream.
pub record HasSaid (own other : Side) (begun : Beginning) (streams : Streams) (xs : List Spoken)
    (payloads : List (List ℕ)) (before : List ℕ) (new : Machine) (behind : List ℕ) : Type 0 where
  pub said : List Spoken
  pub bytes : List ℕ
  pub payloads_are : map (λ x. x.payload) said ≡ payloads
  pub its_own : AllByRecursion (λ x. x.side ≡ own) said
  pub appended : behind ≡ before ++ bytes
  pub spoken : HasSpoken own other begun (grow own (Piece bytes) streams) (xs ++ said) new.world

-- So it is of what is put by packets.
abbrev pub PacketsAreSpoken : Type 0
PacketsAreSpoken = (own other : Side) (begun : Beginning) (streams : Streams) (xs : List Spoken)
    (old new : Machine) (payloads : List (List ℕ)) (before behind : List ℕ) →
    HasSpoken own other begun streams xs old.world → PutsAll old own payloads before new behind →
    HasSaid own other begun streams xs payloads before new behind

-- WHERE A COMMAND IS DUE

-- These payloads were said, each of them where a command was due.
pub record HasSaidCommands (begun : Beginning) (streams : Streams) (xs : List Spoken) (payloads : List (List ℕ))
    (before : List ℕ) (new : Machine) (behind : List ℕ) : Type 0 where
  pub has : HasSaid Client Server begun streams xs payloads before new behind
  pub commands : AllByRecursion (λ x. is_due x.standing.phase ≡ true) has.said

-- So it is of all that a client puts by packets where a command is due. Where a file is due they would be
-- its bytes.
abbrev pub PacketsAreCommands : Type 0
PacketsAreCommands = (begun : Beginning) (streams : Streams) (xs : List Spoken) (old new : Machine)
    (payloads : List (List ℕ)) (before behind : List ℕ) →
    HasSpoken Client Server begun streams xs old.world → is_due old.world.standing.phase ≡ true →
    PutsAll old Client payloads before new behind →
    HasSaidCommands begun streams xs payloads before new behind

-- A command about the parameters of the statement of this id, which it names.
pub record IsOf (id : ℕ) (payload : List ℕ) : Type 0 where
  pub about : is_about_parameters payload ≡ true
  pub names : statement_of payload ≡ Some id

-- They were said about that statement: nothing else was, and none of them was anything else.
pub record HasSaidAbout (begun : Beginning) (streams : Streams) (xs : List Spoken) (payloads : List (List ℕ))
    (before : List ℕ) (new : Machine) (behind : List ℕ) (id : ℕ) : Type 0 where
  pub has : HasSaid Client Server begun streams xs payloads before new behind
  pub about : payloads_about id has.said ≡ payloads

-- So it is of payloads that name a statement, by another id than that of whichever was prepared last.
abbrev pub SentPacketsAreAbout : Type 0
SentPacketsAreAbout = (begun : Beginning) (streams : Streams) (xs : List Spoken) (old new : Machine)
    (payloads : List (List ℕ)) (before behind : List ℕ) (id : ℕ) →
    HasSpoken Client Server begun streams xs old.world → is_due old.world.standing.phase ≡ true →
    id < last_prepared → AllByRecursion (IsOf id) payloads →
    PutsAll old Client payloads before new behind →
    HasSaidAbout begun streams xs payloads before new behind id

-- THE SETS THAT ARE SENT

-- Each payload that is sent of sets behind the prepare of their statement is about it: executions, their long
-- data, bulk executions.
abbrev pub SentSetsAreOf : Type 0
SentSetsAreOf = (road : Road) (statement : ReceivedStatement) (room : ℕ) (values : List (List Value))
    (sent : List SentPayload) → IsByStatement road → statement.id < 2 ^ 32 →
    AreSent road statement room values sent → AllByRecursion (IsOf statement.id) (drop 1 (payloads_of sent))

-- So is each of what `Query::send_more` appends of sets.
abbrev pub FurtherSetsAreOf : Type 0
FurtherSetsAreOf = (id : ℕ) (sets : List (List Value)) → id < 2 ^ 32 →
    AllByRecursion (IsOf id) (flat_map (execution_payloads id) sets)

-- Of packets about a statement the first were put, and were said about it. Behind them stand those that are
-- left.
pub record PutsAbout (begun : Beginning) (streams : Streams) (xs : List Spoken) (old : Machine)
    (payloads : List (List ℕ)) (before rest : List ℕ) (new : Machine) (behind : List ℕ) (id : ℕ) : Type 0 where
  pub put : PutsSent old Client payloads EachFromZero before rest new behind
  pub said : HasSaidAbout begun streams xs put.taken before new behind id

-- So it is where a command is due, and packets of such payloads are put, each within the client's limit.
abbrev pub PutPacketsAreAbout : Type 0
PutPacketsAreAbout = (begun : Beginning) (streams : Streams) (xs : List Spoken) (old new : Machine)
    (payloads : List (List ℕ)) (before behind : List ℕ) (used id : ℕ) →
    HasSpoken Client Server begun streams xs old.world → is_due old.world.standing.phase ≡ true →
    id < last_prepared → AllByRecursion (IsOf id) payloads →
    AllByRecursion (λ payload. length payload ≤ limit_of Client old.world.limits) payloads →
    PutsPackets old Client (framings payloads EachFromZero) before (Ok used) new behind →
    PutsAbout begun streams xs old payloads before (drop used (framings payloads EachFromZero)) new behind id

-- COUNTS

-- What `put_sets` compares with the number of a query's places is what the server's answer to the prepare has, as
-- long as the statement stays: where it puts sets, the answer has as many parameters as the query has places.
abbrev pub CountsAreChecked : Type 0
CountsAreChecked = (begun : Beginning) (streams : Streams) (before behind : List Spoken) (answer : Spoken)
    (old new : Machine) (id count places used : ℕ) (packets out appended : List ℕ) →
    begun.first.number < 256 → BeginsWithNone begun →
    HasSpoken Client Server begun streams (before ++ answer ∷ behind) old.world →
    PreparesIn id count answer.standing.phase answer.event → AllByRecursion (Leaves id) behind →
    id < last_prepared → PutsSets old id places packets out (Ok used) new appended → count ≡ places

-- A CLIENT'S CALLS

-- The record of what a client put and took goes on with its calls: these payloads more were said. Their
-- events are those that the calls took and put.
pub record GoesOn (begun : Beginning) (streams : Streams) (xs : List Spoken) (calls : List Done) (new : Machine) :
    Type 0 where
  pub more : List Spoken
  pub spoken : HasSpoken Client Server begun (streams_from streams calls) (xs ++ more) new.world
  pub events : events_of more ≡ events_in calls

-- So it does with any calls of a client, unless last words of the server ended the connection.
abbrev pub ClientsGoOn : Type 0
ClientsGoOn = (begun : Beginning) (streams : Streams) (xs : List Spoken) (old new : Machine) (calls : List Done) →
    begun.first.number < 256 → HasSpoken Client Server begun streams xs old.world → Calls old calls new →
    list_all (is_by Client) calls ≡ true →
    GoesOn begun streams xs calls new ⊎ (new.world.standing.phase ≡ Over reasons.Farewell)

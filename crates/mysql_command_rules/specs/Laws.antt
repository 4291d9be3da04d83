-- The laws of streams that were sent.
-- MySQL: Client/Server Protocol, "Command Phase".
use Rattle.std.specs.Prelude.{◌≡◌, ◌≢◌, ℕ, ◌+◌, ◌<◌, ◌≤◌, ◌^◌, ◌-◌, false, List, ◌++◌, length, map, None, Ok}
use Rattle.std.specs.List.{AllByRecursion, AllZip}
use Rattle.mysql_values.specs.Queries.{AllAlone}
use Rattle.mysql_values.specs.Values.{FitsFields}
use Rattle.mysql_values.specs.Mode.{Mode}
use Rattle.mysql_values.specs.Spelling.TheVariants.{Hexadecimal}
use Rattle.mysql_values.specs.Sql.{Sql, read_by}
use Rattle.mysql_values.specs.Value.{Value}
use Rattle.mysql_values.specs.declared.params.Params.{Params}
use Rattle.mysql_values.specs.Params.{IsMeaning}
use Rattle.mysql_values.specs.Tokens.{HasTokens, backslash}
use Rattle.mysql_receive.specs.declared.audit.End.TheVariants.{Whole}
use Rattle.mysql_receive.specs.Audit.{AuditOf, IsAbout, Reads}
use Rattle.mysql_receive.specs.InForce.{is_waiting, nothing_yet, state_after}
use Rattle.mysql_receive.specs.Query.{Statement, statement_of}
use Rattle.mysql_receive.specs.Reading.{Set}
use Rattle.mysql_bulk_builder.specs.Cut.{Row, rows_size}
use Rattle.mysql_bulk_builder.specs.TypedCut.{Typing}
use Rattle.mysql_command_rules.specs.declared.road.Road.{Road}
use Rattle.mysql_command_rules.specs.declared.road.Road.TheVariants.{Text}
use Rattle.mysql_command_rules.specs.Commands.{bulk_request, types_size}
use Rattle.mysql_command_rules.specs.Sets.{GiveTheSame, Given, all_given}
use Rattle.mysql_command_rules.specs.Sent.{AreSent, SentPayload, payloads_of}
use Rattle.mysql_command_rules.specs.Cause.{cause_of}
use Rattle.mysql_command_rules.specs.Reading.{AreMeanings, HaveContents, IsReadable, ReadsBack, SendsWhole}
use Rattle.mysql_command_rules.specs.Reading.{SentReadable, StreamReadsAs}

-- What is sent reads, payload by payload, as the contents of the sets that stand whole with each,
-- and no long data wait behind it.
pub record ReadsEach (statement : Statement) (limit : ℕ) (sent : List SentPayload) : Type 0 where
  pub within : AllByRecursion (λ payload. length payload ≤ limit) (payloads_of sent)
  pub reads : List (List Set)
  pub contents : AllZip (λ payload sets. HaveContents payload.sets sets) sent reads
  pub each : length sent < 2 ^ 64 → Reads statement nothing_yet 0 (payloads_of sent) reads
  pub ends : is_waiting statement (state_after statement nothing_yet (payloads_of sent)) ≡ false

-- What is sent of sets without a cause that can be read back reads as these sets, by each road.
abbrev pub SentPayloadsRead : Road → Type 0
SentPayloadsRead road =
    (query : Sql) (tokens : List (List ℕ)) (id limit : ℕ) (values : List (List Value)) (sent : List SentPayload)
    → HasTokens query.mode query.text tokens → id < 2 ^ 32 → 4 ≤ limit
    → cause_of road (statement_of query tokens id) limit (map Ok values) ≡ None →
    AreSent road (statement_of query tokens id) (limit - 4) values sent
    → AllByRecursion (IsReadable road (statement_of query tokens id).query) values →
    ReadsEach (statement_of query tokens id) limit sent

-- Each payload that is sent of sets without a cause has at most `limit - 4` bytes: the limit counts
-- a packet with its header.
abbrev pub SentPayloadsFit : Type 0
SentPayloadsFit =
    (road : Road) (statement : Statement) (limit : ℕ) (values : List (List Value)) (sent : List SentPayload)
    → cause_of road statement limit (map Ok values) ≡ None →
    AreSent road statement (limit - 4) values sent →
    AllByRecursion (λ s. length s.payload ≤ limit - 4) sent

-- what was appended reads, to its end, as the contents of these sets of values
pub record CarriesValues (query : Sql) (values : List (List Value)) (id limit : ℕ) (old new : List ℕ) : Type 0 where
  pub stream : List ℕ
  pub appended : new ≡ old ++ stream
  pub contents : List Set
  pub each : HaveContents values contents
  pub audit : AuditOf query id limit stream (record { sets = contents; ending = Whole })

-- Values that were sent, in fewer than 2 ^ 64 bytes, are carried by what was appended, whichever sets gave them.
abbrev pub SentValuesAreCarried : Type 0
SentValuesAreCarried =
    (road : Road) (query : Sql) (sets : List (List ℕ) → List Given) (id limit : ℕ)
    (old new : List ℕ) → id < 2 ^ 32 → 4 ≤ limit → length new < 2 ^ 64
    → (sent : SentReadable road query sets id limit old new) → CarriesValues query sent.sends.values id limit old new

-- A query and an id have one statement.
abbrev pub OneStatement : Type 0
OneStatement = (query : Sql) (id : ℕ) (statement other : Statement) →
    IsAbout statement query id → IsAbout other query id → statement ≡ other

-- Sets that were sent, in fewer than 2 ^ 64 bytes, are read back, each front of their stream reads
-- as the sets that stand whole in it, and by bulk no requests could be fewer.
pub record IsDelivered (road : Road) (query : Sql) (sets : List (List ℕ) →
    List Given) (id limit : ℕ) (old new : List ℕ) : Type 0 where
  pub read_back : ReadsBack query sets id limit old new
  pub whole : SendsWhole road query sets id limit old new

abbrev pub SentSetsAreDelivered : Type 0
SentSetsAreDelivered =
    (road : Road) (query : Sql) (sets : List (List ℕ) → List Given) (id limit : ℕ)
    (old new : List ℕ) → id < 2 ^ 32 → 4 ≤ limit → length new < 2 ^ 64
    → SentReadable road query sets id limit old new → IsDelivered road query sets id limit old new

-- Parameter sets mean what each of them means by itself.
abbrev pub SetsMeanEach : Type 0
SetsMeanEach = (query : Sql) (sets : List Params) (contents : List Set) →
    AreMeanings query (all_given sets) contents → AllZip (IsMeaning query) sets contents

-- Sets that are appended behind others, each by whichever road, read as all of them one after
-- another, in fewer than 2 ^ 64 bytes.
abbrev pub SentStreamsJoin : Type 0
SentStreamsJoin =
    (query : Sql) (sets others : List (List ℕ) → List Given) (id limit : ℕ)
    (old mid new : List ℕ) → length new < 2 ^ 64
    → ReadsBack query sets id limit old mid → ReadsBack query others id limit mid new →
    ReadsBack query (λ names. sets names ++ others names) id limit old new

-- Sets that give the same read as the same contents, by whichever road, id and limit they are sent.
abbrev pub RoadsReadEqually : Type 0
RoadsReadEqually =
    (query : Sql) (sets others : List (List ℕ) → List Given) (id limit other_id other_limit : ℕ)
    (stream other : List ℕ) (contents other_contents : List Set) → GiveTheSame sets others
    → StreamReadsAs query sets id limit stream contents →
    StreamReadsAs query others other_id other_limit other other_contents → contents ≡
    other_contents

-- A text without a backslash has the same tokens in each mode.
abbrev pub TokensInEachMode : Type 0
TokensInEachMode = (mode other : Mode) (text : List ℕ) (tokens : List (List ℕ)) →
    AllByRecursion (λ b. b ≢ backslash) text → HasTokens mode text tokens → HasTokens other text tokens

-- What is sent by text in hexadecimal is also what would be sent in each mode in which the query has
-- the same tokens and its placeholders stand alone, and it can be read back there. The numbers of the
-- values fit their fields, as those of all values in a program do.
abbrev pub HexadecimalInEachMode : Type 0
HexadecimalInEachMode =
    (text : List ℕ) (mode other : Mode) (sets : List (List ℕ) → List Given) (id limit : ℕ) (old new : List ℕ)
    (sent : SentReadable Text (read_by mode Hexadecimal text) sets id limit old new) →
    AllByRecursion (λ values. AllByRecursion (λ value. FitsFields value) values) sent.sends.values →
    HasTokens other text sent.sends.tokens → AllAlone (read_by other Hexadecimal text) →
    SentReadable Text (read_by other Hexadecimal text) sets id limit old new

-- A bulk request takes seven bytes, the types that it carries, and its rows.
abbrev pub RequestsHaveTheirSize : Type 0
RequestsHaveTheirSize =
    (id columns : ℕ) (rows : List Row) (start : ℕ) (typing : Typing) (count : ℕ) →
    length (bulk_request id columns rows start typing count) ≡
    7 + types_size typing columns + rows_size rows start count

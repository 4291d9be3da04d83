-- The laws of sets that are written one after another, by text and by execute.
-- MySQL: Client/Server Protocol, "COM_QUERY", "COM_STMT_PREPARE", "COM_STMT_EXECUTE".
use Rattle.std.specs.Prelude.{◌≡◌, ◌+◌, ◌<◌, ◌≤◌, ℕ, List, [], length, take, get_or, Option, Result, IfErr, OnOk}
use Rattle.std.specs.Io.KnownBytes.{Appends, Keeps}
use Rattle.mysql_wire.specs.Bytes.{AreBytes}
use Rattle.mysql_values.specs.Sql.{Sql}
use Rattle.mysql_values.specs.declared.params.Params.{Params}
use Rattle.mysql_command_rules.specs.declared.refusal.Refusal.{Refusal}
use Rattle.mysql_command_rules.specs.declared.road.Road.{Road}
use Rattle.mysql_command_rules.specs.declared.send_to_error.SendToError.{SendToError}
use Rattle.mysql_command_rules.specs.declared.send_to_error.SendToError.TheVariants.{Refused}
use Rattle.mysql_command_rules.specs.Buffering.{Flushes, StopsAt, TakesFront}
use Rattle.mysql_command_rules.specs.OneSet.{AppendsOne, IsApart, RefusesOne, first_sets}
use Rattle.mysql_command_rules.specs.Reading.{SentReadable}
use Rattle.mysql_command_rules.specs.Sending.{RefusesGiven}
use Rattle.mysql_command_rules.specs.Sets.{all_given, given_by}
use Rattle.mysql_command_rules.specs.Writing.{FailsAmong, Stops, Writes, WrittenSoFar}

-- what stands before the first set is buffered
abbrev pub WritingBegins : Type 0
WritingBegins =
    (road : Road) (query : Sql) (sets : List Params) (id limit : ℕ) (old : Option (List ℕ))
    (buffered : List ℕ) → SentReadable road query (first_sets 0 (all_given sets)) id limit [] buffered →
    WrittenSoFar road query sets id limit old old buffered 0

-- where the query is refused nothing is written
abbrev pub RefusedBefore : Type 0
RefusedBefore =
    (road : Road) → IsApart road →
    (query : Sql) (sets : List Params) (id limit : ℕ) (old new : Option (List ℕ)) → Keeps old new →
    (refusal : Refusal) → RefusesGiven road query (all_given []) id limit refusal →
    Stops road query sets id limit old new (Refused refusal 0)

-- one more set is buffered behind those before it, and a front of the buffer is flushed
abbrev pub OneMoreIsWritten : Type 0
OneMoreIsWritten =
    (road : Road) → IsApart road →
    (query : Sql) (sets : List Params) (id limit number : ℕ) (old mid new : Option (List ℕ))
    (buffered more left : List ℕ) (params : Params) → number < length sets →
    params ≡ get_or sets number params →
    WrittenSoFar road query sets id limit old mid buffered number →
    AppendsOne road query id limit number (λ names. given_by names params) buffered more →
    Flushes mid new more left →
    WrittenSoFar road query sets id limit old new left (number + 1)

-- the next set is refused, or the writer fails
abbrev pub StopsWithOneMore : Type 0
StopsWithOneMore =
    (road : Road) → IsApart road →
    (query : Sql) (sets : List Params) (id limit number : ℕ) (old mid new : Option (List ℕ))
    (buffered more : List ℕ) (params : Params) → number < length sets →
    params ≡ get_or sets number params →
    WrittenSoFar road query sets id limit old mid buffered number →
    (put : Result (Unit {0}) Refusal) →
    OnOk put (AppendsOne road query id limit number (λ names. given_by names params) buffered more) →
    IfErr put (RefusesOne road query id limit number (λ names. given_by names params)) →
    take (length buffered) more ≡ buffered →
    (start : ℕ) → start ≡ length buffered →
    (error : SendToError) → StopsAt mid new put number start more error →
    Stops road query sets id limit old new error

-- the buffer is flushed behind the last set
abbrev pub AllAreWritten : Type 0
AllAreWritten =
    (road : Road) (query : Sql) (sets : List Params) (id limit number : ℕ)
    (old mid new : Option (List ℕ)) (buffered : List ℕ) → length sets ≤ number →
    WrittenSoFar road query sets id limit old mid buffered number → AreBytes buffered →
    Appends mid new buffered → Writes road query (all_given sets) id limit old new

-- or the writer fails within it
abbrev pub FailsBehindAll : Type 0
FailsBehindAll =
    (road : Road) (query : Sql) (sets : List Params) (id limit number : ℕ)
    (old mid new : Option (List ℕ)) (buffered : List ℕ) → number ≤ length sets →
    WrittenSoFar road query sets id limit old mid buffered number → AreBytes buffered →
    TakesFront mid new buffered → FailsAmong road query sets id limit old new

-- Sets are written in turn: what holds before the first, with each, and behind the last.
pub record WrittenInTurn : Type 0 where
  pub begin : WritingBegins
  pub refused : RefusedBefore
  pub more : OneMoreIsWritten
  pub stopped : StopsWithOneMore
  pub all : AllAreWritten
  pub failed : FailsBehindAll

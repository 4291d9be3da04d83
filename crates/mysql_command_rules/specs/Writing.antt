-- Sets that are written to a writer: what it takes where all of them are written, and where not.
-- MySQL: Client/Server Protocol, "COM_QUERY", "COM_STMT_PREPARE", "COM_STMT_SEND_LONG_DATA", "COM_STMT_EXECUTE".
use Rattle.std.specs.Prelude.{◌≡◌, ◌⊎◌, ◌+◌, ◌<◌, ◌≤◌, ℕ, List, [], ◌++◌, length, take, Option}
use Rattle.std.specs.Io.KnownBytes.{Appends, Keeps}
use Rattle.mysql_wire.specs.Bytes.{AreBytes}
use Rattle.mysql_values.specs.Sql.{Sql}
use Rattle.mysql_values.specs.declared.params.Params.{Params}
use Rattle.mysql_command_rules.specs.declared.refusal.Refusal.{Refusal}
use Rattle.mysql_command_rules.specs.declared.road.Road.{Road}
use Rattle.mysql_command_rules.specs.OneSet.{first_sets}
use Rattle.mysql_command_rules.specs.Reading.{SentReadable}
use Rattle.mysql_command_rules.specs.Sending.{RefusesGiven}
use Rattle.mysql_command_rules.specs.Sets.{Given, all_given}
use Rattle.mysql_command_rules.specs.Buffering.{TakesFront}
use Rattle.mysql_command_rules.specs.declared.send_to_error.SendToError.{SendToError}
use Rattle.mysql_command_rules.specs.declared.send_to_error.SendToError.TheVariants.{Refused, Io}

-- sets that give this for the query's names are written: the writer takes a stream that carries them
pub record Writes (road : Road) (query : Sql) (sets : List (List ℕ) → List Given) (id limit : ℕ)
    (old new : Option (List ℕ)) : Type 0 where
  pub stream : List ℕ
  pub bytes : AreBytes stream
  pub taken : Appends old new stream
  pub carries : SentReadable road query sets id limit [] stream

-- the query is refused, whichever sets it has, and nothing is written
pub record StopsAtQuery (road : Road) (query : Sql) (id limit : ℕ) (old new : Option (List ℕ))
    (refusal : Refusal) (count : ℕ) : Type 0 where
  pub why : RefusesGiven road query (all_given []) id limit refusal
  pub none : count ≡ 0
  pub kept : Keeps old new

-- one of the sets is refused, and all sets before it are written
pub record StopsAtSet (road : Road) (query : Sql) (sets : List Params) (id limit : ℕ)
    (old new : Option (List ℕ)) (refusal : Refusal) (count : ℕ) : Type 0 where
  pub inside : count < length sets
  pub why : RefusesGiven road query (all_given (take (count + 1) sets)) id limit refusal
  pub before : Writes road query (all_given (take count sets)) id limit old new

-- the writer fails within a stream that carries sets which give this for the query's names: it
-- takes a front, not all of it
pub record FailsWithin (road : Road) (query : Sql) (sets : List (List ℕ) →
    List Given) (id limit : ℕ) (old new : Option (List ℕ)) : Type 0 where
  pub stream : List ℕ
  pub bytes : AreBytes stream
  pub taken : TakesFront old new stream
  pub carries : SentReadable road query sets id limit [] stream

-- the writer fails within the first sets, so many
pub record FailsAmong (road : Road) (query : Sql) (sets : List Params) (id limit : ℕ)
    (old new : Option (List ℕ)) : Type 0 where
  pub count : ℕ
  pub inside : count ≤ length sets
  pub within : FailsWithin road query (all_given (take count sets)) id limit old new

-- Why not all sets are written, and what then is: sets are refused as they are where they are
-- appended, or the writer fails.
abbrev pub Stops : Road → Sql → List Params → ℕ → ℕ → Option (List ℕ) → Option (List ℕ) → SendToError → Type 0
Stops road query sets id limit old new (Refused refusal count) =
    RefusesGiven road query (all_given sets) id limit refusal
    × (StopsAtQuery road query id limit old new refusal count ⊎
    StopsAtSet road query sets id limit old new refusal count)
Stops road query sets id limit old new (Io error) = FailsAmong road query sets id limit old new

-- the first sets, so many, are sent: a front of what carries them is written, and the rest is buffered
pub record WrittenSoFar (road : Road) (query : Sql) (sets : List Params) (id limit : ℕ)
    (old now : Option (List ℕ)) (buffered : List ℕ) (count : ℕ) : Type 0 where
  pub written : List ℕ
  pub bytes : AreBytes written
  pub taken : Appends old now written
  pub carries : SentReadable road query (first_sets count (all_given sets)) id limit [] (written ++ buffered)

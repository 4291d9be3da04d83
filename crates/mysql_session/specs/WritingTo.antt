-- Sets that are handed to a writer as they are sent, and what it took where not all of them were.
-- MySQL: Client/Server Protocol, "Protocol Basics: MySQL Packets", "Command Phase".
use Rattle.std.specs.Prelude.{◌≡◌, ◌↔◌, ◌<◌, ◌≤◌, ◌^◌, ℕ, List, [], length, take, Option}
use Rattle.std.specs.Io.KnownBytes.{Appends, Keeps}
use Rattle.std.specs.List.{concat}
use Rattle.std.specs.declared.io.Error.{Error}
use Rattle.mysql_wire.specs.Bytes.{AreBytes}
use Rattle.mysql_wire.specs.Stream.{StandWhole}
use Rattle.mysql_wire.specs.Stream.Numbering.{EachFromZero}
use Rattle.mysql_values.specs.Sql.{Sql}
use Rattle.mysql_values.specs.declared.params.Params.{Params}
use Rattle.mysql_receive.specs.Audit.{Audit, AuditOf, IsNoFault}
use Rattle.mysql_receive.specs.Receiving.{IsMemory, IsReceived}
use Rattle.mysql_command_rules.specs.declared.road.Road.{Road}
use Rattle.mysql_command_rules.specs.declared.road.Road.TheVariants.{Text, Execute, Bulk}
use Rattle.mysql_command_rules.specs.Reading.{SentReadable}
use Rattle.mysql_command_rules.specs.Sending.{RefusesGiven}
use Rattle.mysql_command_rules.specs.Sent.{payloads_of, sets_of}
use Rattle.mysql_command_rules.specs.Sets.{Given, all_given}
use Rattle.mysql_command_rules.specs.Buffering.{TakesFront}
use Rattle.mysql_command_rules.specs.Writing.{FailsWithin, Stops}
use Rattle.mysql_command_rules.specs.declared.send_to_error.SendToError.{SendToError}
use Rattle.mysql_command_rules.specs.declared.send_to_error.SendToError.TheVariants.{Refused, Io}
use Rattle.mysql_session.specs.Delivery.{Delivers}

-- Sets that give this for the query's names are delivered to a writer: it takes a stream that carries them, so that no
-- cause speaks against them, and that delivers them where it has fewer than 2 ^ 64 bytes.
pub record DeliversTo (road : Road) (query : Sql) (sets : List (List ℕ) →
    List Given) (id limit : ℕ) (old new : Option (List ℕ)) : Type 0 where
  pub stream : List ℕ
  pub bytes : AreBytes stream
  pub taken : Appends old new stream
  pub carries : SentReadable road query sets id limit [] stream
  pub delivers : length stream < 2 ^ 64 → Delivers road query sets id limit [] stream

-- By bulk sets are refused before anything is written, and a writer that fails does so within what carries all of them.
abbrev pub StopsRequests : Sql → List Params → ℕ → ℕ → Option (List ℕ) → Option (List ℕ) → SendToError → Type 0
StopsRequests query sets id limit old new (Refused refusal count) =
    RefusesGiven Bulk query (all_given sets) id limit refusal × (count ≡ 0) × Keeps old new
StopsRequests query sets id limit old new (Io error) = FailsWithin Bulk query (all_given sets) id limit old new

-- Why not all sets are delivered, and what then is written.
abbrev pub StopsSending : Road → Sql → List Params → ℕ → ℕ → Option (List ℕ) → Option (List ℕ) →
    SendToError → Type 0
StopsSending Text query sets id limit old new error = Stops Text query sets id limit old new error
StopsSending Execute query sets id limit old new error = Stops Execute query sets id limit old new error
StopsSending Bulk query sets id limit old new error = StopsRequests query sets id limit old new error

-- ---- what is read of what a failed writer took

-- A front of a stream that delivers sets has one audit, and `receive` answers this of it in whichever pieces, but
-- Memory: no fault, and from the first on as many of the sets' contents as stand whole in the front.
pub record FrontReads (road : Road) (query : Sql) (sets : List (List ℕ) →
    List Given) (id limit : ℕ) (stream front : List ℕ) : Type 0 where
  pub delivery : Delivers road query sets id limit [] stream
  pub count : ℕ
  pub whole : StandWhole EachFromZero (payloads_of delivery.sent) front count
  pub audit : Audit
  pub one : (other : Audit) → AuditOf query id limit front other ↔ (other ≡ audit)
  pub received : (pieces : List (List ℕ)) (answer : Audit) → concat pieces ≡ front →
      IsReceived query id limit pieces answer → (IsMemory answer.ending → ⊥) → answer ≡ audit
  pub no_fault : IsNoFault audit.ending
  pub reads : audit.sets ≡ take (length (sets_of (take count delivery.sent))) delivery.contents

-- A failed writer took a front of a stream that carries the first sets, so many, by bulk all, and not all of that
-- stream. Where the stream has fewer than 2 ^ 64 bytes, the front reads as the sets that stand whole in it.
pub record TakesReadable (road : Road) (query : Sql) (sets : List Params) (id limit : ℕ)
    (old new : Option (List ℕ)) : Type 0 where
  pub count : ℕ
  pub inside : count ≤ length sets
  pub all : road ≡ Bulk → count ≡ length sets
  pub stream : List ℕ
  pub carries : SentReadable road query (all_given (take count sets)) id limit [] stream
  pub taken : TakesFront old new stream
  pub read : length stream < 2 ^ 64 → FrontReads road query (all_given (take count sets)) id limit stream taken.front

-- A writer that failed while sets were sent to it took such a front.
abbrev pub FailedWritersAreRead : Type 0
FailedWritersAreRead =
    (road : Road) (query : Sql) (sets : List Params) (id limit : ℕ) (old new : Option (List ℕ))
    (error : Error) → id < 2 ^ 32 → 4 ≤ limit
    → StopsSending road query sets id limit old new (Io error) → TakesReadable road query sets id limit old new

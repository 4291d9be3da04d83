-- The laws of sets that are delivered, and lists of objects beside the parameter sets that are made of them.
-- MySQL: Client/Server Protocol, "Command Phase"; MySQL Reference Manual, "PREPARE Statement" (parameter markers).
use Rattle.std.specs.Prelude.{◌≡◌, ℕ, ◌<◌, ◌≤◌, ◌^◌, List, ◌++◌, length, Option}
use Rattle.std.specs.List.{concat}
use Rattle.mysql_wire.specs.Bytes.{AreBytes}
use Rattle.mysql_values.specs.Sql.{Sql}
use Rattle.mysql_values.specs.Parsed.{names_of}
use Rattle.mysql_values.specs.Value.{Value}
use Rattle.mysql_values.specs.declared.params.Params.{Params}
use Rattle.mysql_receive.specs.declared.audit.End.TheVariants.{Whole}
use Rattle.mysql_receive.specs.Audit.{Audit}
use Rattle.mysql_receive.specs.Receiving.{IsMemory, IsReceived}
use Rattle.mysql_command_rules.specs.declared.road.Road.{Road}
use Rattle.mysql_command_rules.specs.declared.road.Road.TheVariants.{Execute}
use Rattle.mysql_command_rules.specs.Laws.{IsDelivered}
use Rattle.mysql_command_rules.specs.Reading.{SentReadable}
use Rattle.mysql_command_rules.specs.Sets.{GiveTheSame, Given, all_given, all_given_in_places}
use Rattle.mysql_recoding.specs.Causes.{values_of_sets}
use Rattle.mysql_recoding.specs.Recoding.{Recodes}
use Rattle.mysql_session.specs.Delivery.{Delivers}
use Rattle.mysql_session.specs.Kept.{AppendsFurther, KeptQuery}
use Rattle.mysql_session.specs.Objects.{AreMade, all_given_by_objects}

-- Sets that were sent in a form that can be read back, in fewer than 2 ^ 64 bytes, are delivered.
abbrev pub ReadableSetsAreDelivered : Type 0
ReadableSetsAreDelivered =
    (road : Road) (query : Sql) (sets : List (List ℕ) → List Given) (id limit : ℕ)
    (old new : List ℕ) → id < 2 ^ 32 → 4 ≤ limit → length new < 2 ^ 64 → AreBytes new
    → SentReadable road query sets id limit old new → Delivers road query sets id limit old new

-- Sets that are delivered were sent, are read back as what they mean, and each front of their
-- stream reads as the sets that stand whole in it.
abbrev pub DeliveriesAreReadBack : Type 0
DeliveriesAreReadBack =
    (road : Road) (query : Sql) (sets : List (List ℕ) → List Given) (id limit : ℕ) (old new : List ℕ)
    → Delivers road query sets id limit old new → IsDelivered road query sets id limit old new

-- Whatever `receive` answers of what was appended, in whichever pieces, but Memory, is what the sets mean, and Whole.
abbrev pub DeliveriesAreReceived : Type 0
DeliveriesAreReceived =
    (road : Road) (query : Sql) (sets : List (List ℕ) → List Given) (id limit : ℕ)
    (old new : List ℕ) (pieces : List (List ℕ)) (answer : Audit)
    → (delivery : Delivers road query sets id limit old new) → new ≡ old ++ concat pieces →
    IsReceived query id limit pieces answer
    → (IsMemory answer.ending → ⊥) → answer ≡ record { sets = delivery.contents; ending = Whole }

-- What recoding appends, in fewer than 2 ^ 64 bytes, delivers by execute the values of the stream's contents.
abbrev pub RecodingsAreDelivered : Type 0
RecodingsAreDelivered =
    (query : Sql) (id limit : ℕ) (stream old new : List ℕ) → id < 2 ^ 32 → 4 ≤ limit →
    limit < 2 ^ 64 → length new < 2 ^ 64 → AreBytes stream → AreBytes new
    → (is : Recodes query id limit stream old new) →
    Delivers Execute query (all_given_in_places (values_of_sets is.audit.sets)) id limit old new

-- Sets of values that are sent further by execute, numbered on from sets that were delivered and
-- appended behind them, are delivered with them, in fewer than 2 ^ 64 bytes.
abbrev pub FurtherSetsAreDelivered : Type 0
FurtherSetsAreDelivered =
    (query : KeptQuery) (sets : List (List ℕ) → List Given) (limit first : ℕ)
    (more : List (List Value)) (old mid new : List ℕ) → query.id < 2 ^ 32 → 4 ≤ limit →
    length new < 2 ^ 64 → AreBytes new
    → (delivery : Delivers Execute query.sql sets query.id limit old mid) →
    length (sets (names_of delivery.tokens)) ≡ first →
    AppendsFurther query limit first more mid new
    → Delivers Execute query.sql (λ names. sets names ++ all_given_in_places more names) query.id limit old new

-- Parameter sets that are made of lists of objects give every query what the lists give.
abbrev pub MadeSetsGiveTheSame : Type 0
MadeSetsGiveTheSame = (lists : List (List (Option Value))) (sets : List Params) →
    AreMade lists sets → GiveTheSame (all_given sets) (all_given_by_objects lists)

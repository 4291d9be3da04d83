-- The laws of recoding: what was recoded carries the same sets, and there is one form for the same sets.
-- MySQL: Client/Server Protocol, "Command Phase".
use Rattle.std.specs.Prelude.{◌≡◌, ◌⊎◌, ℕ, ◌+◌, ◌-◌, ◌<◌, ◌≤◌, ◌^◌, pos, FitsSigned, List, ◌∷◌, ◌++◌, length, map, None}
use Rattle.std.specs.List.{AllByRecursion}
use Rattle.std.specs.Int.{w64}
use Rattle.mysql_wire.specs.Bytes.{AreBytes}
use Rattle.mysql_wire.specs.Stream.{IsSplit, Split, framings}
use Rattle.mysql_wire.specs.Stream.Numbering.{EachFromZero}
use Rattle.mysql_values.specs.Sql.{Sql}
use Rattle.mysql_values.specs.Content.{Content}
use Rattle.mysql_values.specs.Content.TheVariants as content
use Rattle.mysql_values.specs.Contents.{content_value}
use Rattle.mysql_values.specs.Place.{Place}
use Rattle.mysql_values.specs.Queries.{places_of}
use Rattle.mysql_values.specs.Tokens.{HasTokens}
use Rattle.mysql_receive.specs.declared.audit.End.TheVariants.{Whole}
use Rattle.mysql_receive.specs.Audit.{Audit, AuditOf}
use Rattle.mysql_receive.specs.Reading.{Set}
use Rattle.mysql_values.specs.Binding.{values_cause}
use Rattle.mysql_command_rules.specs.declared.refusal.Refusal.TheVariants as refusals
use Rattle.mysql_receive.specs.Query.{Statement, statement_of}
use Rattle.mysql_command_rules.specs.Reading.{SentReadable}
use Rattle.mysql_command_rules.specs.Sent.{AreSent, SentPayload, payloads_of, prepare_of}
use Rattle.mysql_command_rules.specs.Sets.{all_given_in_places}
use Rattle.mysql_command_rules.specs.declared.road.Road.TheVariants.{Execute}
use Rattle.mysql_recoding.specs.declared.errors.RecodeError.{RecodeError}
use Rattle.mysql_recoding.specs.Causes.{recoding_cause, values_of_sets}
use Rattle.mysql_recoding.specs.Recoding.{IsRecodingCause, Recodes}

-- a content that a command can carry: nothing, a number from -2^63 to 2^64-1, or bytes
abbrev pub IsCarried : Content → Type 0
IsCarried content.Null = Unit {0}
IsCarried (content.Number number) = FitsSigned w64 number ⊎ ((n : ℕ) × (number ≡ pos n) × (n < 2 ^ 64))
IsCarried (content.Bytes bytes) = AreBytes bytes

-- a set has such a content for each of these placeholders, and nothing speaks against the values
-- that it is sent as: their count, or a float
pub record FillsPlaces (places : List Place) (set : Set) : Type 0 where
  pub count : length set ≡ length places
  pub each : AllByRecursion IsCarried set
  pub right : (number : ℕ) →
      values_cause (refusals.WrongCount number) (λ place. refusals.Float number place)
      (length places) (map content_value set) ≡ None

-- Each set that a stream carries fills the query's placeholders.
abbrev pub CarriedSetsFillPlaces : Type 0
CarriedSetsFillPlaces =
    (query : Sql) (tokens : List (List ℕ)) (id limit : ℕ) (stream : List ℕ) (audit : Audit) →
    HasTokens query.mode query.text tokens → AreBytes stream
    → AuditOf query id limit stream audit → AllByRecursion (FillsPlaces (places_of query tokens)) audit.sets

-- What recoding appends, in fewer than 2 ^ 64 bytes, carries the sets of the stream that was recoded, to its end.
abbrev pub RecodingsCarryTheSame : Type 0
RecodingsCarryTheSame =
    (query : Sql) (id limit : ℕ) (stream old recoded : List ℕ) → id < 2 ^ 32 → 4 ≤ limit →
    limit < 2 ^ 64 → length recoded < 2 ^ 64 → AreBytes stream
    → (is : Recodes query id limit stream old (old ++ recoded)) →
    AuditOf query id limit recoded (record { sets = is.audit.sets; ending = Whole })

-- What recoding appends is what execute sends of the values of the stream's contents, in a form that can be read back.
abbrev pub RecodingsAreSent : Type 0
RecodingsAreSent =
    (query : Sql) (id limit : ℕ) (stream old new : List ℕ) → limit < 2 ^ 64 → AreBytes stream
    → (is : Recodes query id limit stream old new) →
    SentReadable Execute query (all_given_in_places (values_of_sets is.audit.sets)) id limit old
    new

-- What recoding appends, in fewer than 2 ^ 64 bytes, recodes to the same bytes.
abbrev pub RecodingsRecodeToThemselves : Type 0
RecodingsRecodeToThemselves =
    (query : Sql) (id limit : ℕ) (stream old other recoded : List ℕ) → id < 2 ^ 32 → 4 ≤ limit →
    limit < 2 ^ 64 → length recoded < 2 ^ 64 → AreBytes stream
    → Recodes query id limit stream old (old ++ recoded) → Recodes query id limit recoded other (other ++ recoded)

-- Two streams have equal sets exactly where what recoding them appends is equal, in fewer than 2 ^ 64 bytes.
pub record RecodeEqually (sets others : List Set) (recoded other : List ℕ) : Type 0 where
  pub bytes : sets ≡ others → recoded ≡ other
  pub carried : recoded ≡ other → sets ≡ others

abbrev pub EqualSetsRecodeEqually : Type 0
EqualSetsRecodeEqually =
    (query : Sql) (id limit : ℕ) (stream behind old recoded after other : List ℕ) → id < 2 ^ 32 →
    4 ≤ limit → limit < 2 ^ 64 → length recoded < 2 ^ 64 → AreBytes stream → AreBytes behind →
    AreBytes recoded
    → (first : Recodes query id limit stream old (old ++ recoded)) →
    (second : Recodes query id limit behind after (after ++ other))
    → RecodeEqually first.audit.sets second.audit.sets recoded other

-- A stream is recoded in one way, or refused for one cause, and never both.
pub record IsDecided (query : Sql) (id limit : ℕ) (stream old : List ℕ) : Type 0 where
  pub one : (new other : List ℕ) → Recodes query id limit stream old new →
      Recodes query id limit stream old other → new ≡ other
  pub cause_one : (error other : RecodeError) → IsRecodingCause query id limit stream error →
      IsRecodingCause query id limit stream other → error ≡ other
  pub not_both : (new : List ℕ) (error : RecodeError) → Recodes query id limit stream old new →
      IsRecodingCause query id limit stream error → ⊥

abbrev pub RecodingsAreDecided : Type 0
RecodingsAreDecided = (query : Sql) (id limit : ℕ) (stream old : List ℕ) → AreBytes stream →
    IsDecided query id limit stream old

-- the sets of two whole streams one behind the other
abbrev pub both : Audit → Audit → Audit
both first second = record { sets = first.sets ++ second.sets; ending = Whole }

-- Two whole streams one behind the other carry the sets of both; they can be recoded exactly where
-- each of them can, and then what is sent of the second one behind the prepare is sent behind what
-- is sent of the first one, and so stand their bytes.
pub record RecodesJoined (query : Sql) (id limit : ℕ) (statement : Statement)
    (stream behind : List ℕ) (first second : Audit) : Type 0 where
  pub says : AuditOf query id limit (stream ++ behind) (both first second)
  pub from_each : recoding_cause statement limit first ≡ None →
      recoding_cause statement limit second ≡ None →
      recoding_cause statement limit (both first second) ≡ None
  pub to_first : recoding_cause statement limit (both first second) ≡ None → recoding_cause statement limit first ≡ None
  pub to_second : recoding_cause statement limit (both first second) ≡ None →
      recoding_cause statement limit second ≡ None
  pub recoded : (sent more : List SentPayload) → AreSent Execute statement (limit - 4) (values_of_sets first.sets) sent
      → AreSent Execute statement (limit - 4) (values_of_sets second.sets) (prepare_of statement ∷ more)
      → AreSent Execute statement (limit - 4) (values_of_sets (both first second).sets) (sent ++ more)
  pub framed : (sent more : List SentPayload)
      → framings (payloads_of (sent ++ more)) EachFromZero ≡
      framings (payloads_of sent) EachFromZero ++ framings (payloads_of more) EachFromZero

abbrev pub JoinedStreamsRecode : Type 0
JoinedStreamsRecode =
    (query : Sql) (tokens : List (List ℕ)) (id limit : ℕ) (stream behind : List ℕ)
    (front back : Split) (first second : Audit) → HasTokens query.mode query.text tokens
    → IsSplit limit EachFromZero stream front → IsSplit limit EachFromZero behind back →
    length front.payloads + length back.payloads < 2 ^ 64
    → AuditOf query id limit stream first → AuditOf query id limit behind second → first.ending ≡
    Whole → second.ending ≡ Whole
    → RecodesJoined query id limit (statement_of query tokens id) stream behind first second

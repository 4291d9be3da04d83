-- What is read back of a stream that was sent.
-- MySQL: Client/Server Protocol, "Protocol Basics: MySQL Packets", "Command Phase".
use Rattle.std.specs.Prelude.{◌≡◌, ℕ, List, ◌++◌, filter, length, map, take, ◌-◌, Some, Ok}
use Rattle.std.specs.List.{AllByRecursion}
use Rattle.mysql_wire.specs.Stream.{StandWhole}
use Rattle.mysql_wire.specs.Stream.Numbering.{EachFromZero}
use Rattle.mysql_values.specs.Sql.{Sql}
use Rattle.mysql_values.specs.Values.{FitsFields}
use Rattle.mysql_values.specs.Parsed.{names_of}
use Rattle.mysql_values.specs.Queries.{is_place}
use Rattle.mysql_values.specs.Tokens.{HasTokens}
use Rattle.mysql_values.specs.Value.{Value}
use Rattle.mysql_values.specs.Values.{content_of}
use Rattle.mysql_receive.specs.declared.audit.End.TheVariants.{Whole}
use Rattle.mysql_receive.specs.Audit.{Audit, AuditOf, IsNoFault}
use Rattle.mysql_receive.specs.Query.{Query, statement_of}
use Rattle.mysql_receive.specs.Reading.{Set, TextReadsAs}
use Rattle.mysql_command_rules.specs.declared.road.Road.{Road}
use Rattle.mysql_command_rules.specs.declared.road.Road.TheVariants.{Text, Execute, Bulk}
use Rattle.mysql_command_rules.specs.Sets.{Given}
use Rattle.mysql_command_rules.specs.Sent.{SentPayload, payloads_of, query_text_of, sets_of, stream_of}
use Rattle.mysql_command_rules.specs.Sending.{HasFewest, SendsGiven}

-- these are the contents of sets of values, of which none is a float
abbrev pub HaveContents : List (List Value) → List Set → Type 0
HaveContents sets contents = map (map content_of) sets ≡ map (map Some) contents

-- what sets mean that give this for the query's names: the contents of their values, in each as
-- many as the query has placeholders, and none a float
pub record AreMeanings (query : Sql) (sets : List (List ℕ) → List Given) (contents : List Set) : Type 0 where
  pub tokens : List (List ℕ)
  pub has : HasTokens query.mode query.text tokens
  pub values : List (List Value)
  pub given : sets (names_of tokens) ≡ map Ok values
  pub counts : AllByRecursion (λ set. length set ≡ length (filter is_place tokens)) values
  pub each : HaveContents values contents

-- these contents are what the sets mean, and the stream reads as them, to its end
pub record StreamReadsAs (query : Sql) (sets : List (List ℕ) → List Given) (id limit : ℕ)
    (stream : List ℕ) (contents : List Set) : Type 0 where
  pub meanings : AreMeanings query sets contents
  pub audit : AuditOf query id limit stream (record { sets = contents; ending = Whole })

-- what is appended is read back as what the sets mean
pub record ReadsBack (query : Sql) (sets : List (List ℕ) → List Given) (id limit : ℕ)
    (old new : List ℕ) : Type 0 where
  pub stream : List ℕ
  pub appended : new ≡ old ++ stream
  pub contents : List Set
  pub reads : StreamReadsAs query sets id limit stream contents

-- Each front of the stream of these payloads reads, without a fault, as exactly the contents of the
-- sets of the payloads that stand whole in it.
abbrev pub FrontsRead : Sql → ℕ → ℕ → List SentPayload → Type 0
FrontsRead query id limit sent =
    (front back : List ℕ) (audit : Audit) → stream_of sent ≡ front ++ back → AuditOf query id limit front audit
    → (k : ℕ) × StandWhole EachFromZero (payloads_of sent) front k ×
    HaveContents (sets_of (take k sent)) audit.sets × IsNoFault audit.ending

-- what was appended of sets that give this for the query's names: each front of it reads as the
-- sets that stand whole in it, and by bulk no requests could be fewer
pub record SendsWhole (road : Road) (query : Sql) (sets : List (List ℕ) →
    List Given) (id limit : ℕ) (old new : List ℕ) : Type 0 where
  pub sends : SendsGiven road query sets id limit old new
  pub fronts : FrontsRead query id limit sends.sent
  pub fewest : HasFewest road (statement_of query sends.tokens id) (limit - 4) sends.values sends.sent

-- what was sent of a set's values can be read back: by text the query reads as their contents, by
-- the other roads their numbers fit their fields
abbrev pub IsReadable : Road → Query → List Value → Type 0
IsReadable Text query values = (contents : Set) × (map content_of values ≡ map Some contents) ×
    TextReadsAs query.sql (query_text_of query values) contents
IsReadable Execute query values = AllByRecursion (λ value. FitsFields value) values
IsReadable Bulk query values = AllByRecursion (λ value. FitsFields value) values

-- what is sent of sets that give this for the query's names, and what was sent of each can be read back
pub record SentReadable (road : Road) (query : Sql) (sets : List (List ℕ) →
    List Given) (id limit : ℕ) (old new : List ℕ) : Type 0 where
  pub sends : SendsGiven road query sets id limit old new
  pub readable : AllByRecursion (IsReadable road (statement_of query sends.tokens id).query) sends.values

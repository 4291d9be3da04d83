-- The front page: what is promised of the sets that `send` and `send_values` append.
-- docs/THEOREM.md reads it aloud, word by word. MySQL: Client/Server Protocol, "Protocol Basics:
-- MySQL Packets", "Command Phase".
use Rattle.std.specs.Prelude.{◌≡◌, ◌↔◌, ◌≤◌, ◌-◌, ℕ, List, ◌++◌, filter, length, map, None, Ok}
use Rattle.std.specs.List.{AllByRecursion, concat}
use Rattle.mysql_values.specs.Sql.{Sql}
use Rattle.mysql_values.specs.Parsed.{names_of}
use Rattle.mysql_values.specs.Queries.{is_place}
use Rattle.mysql_values.specs.Tokens.{HasTokens}
use Rattle.mysql_values.specs.Value.{Value}
use Rattle.mysql_receive.specs.declared.audit.End.TheVariants.{Whole}
use Rattle.mysql_receive.specs.Audit.{Audit, AuditOf}
use Rattle.mysql_receive.specs.Query.{statement_of}
use Rattle.mysql_receive.specs.Reading.{Set}
use Rattle.mysql_command_rules.specs.declared.road.Road.{Road}
use Rattle.mysql_command_rules.specs.Cause.{cause_of}
use Rattle.mysql_command_rules.specs.Reading.{FrontsRead, HaveContents, IsReadable}
use Rattle.mysql_command_rules.specs.Sending.{HasFewest}
use Rattle.mysql_command_rules.specs.Sent.{AreSent, SentPayload, stream_of}
use Rattle.mysql_command_rules.specs.Sets.{Given}

-- A stream, in whichever pieces it comes, has one audit in the query's mode: these contents, and Whole.
abbrev pub ReadsWholeAs : Sql → ℕ → ℕ → List ℕ → List Set → Type 0
ReadsWholeAs query id limit stream contents =
    (pieces : List (List ℕ)) (audit : Audit) → concat pieces ≡ stream →
    AuditOf query id limit (concat pieces) audit ↔ (audit ≡
    record { sets = contents; ending = Whole })

-- Sets that give this for the query's names are delivered by what was appended, to a server in the
-- query's mode.
pub record Delivers (road : Road) (query : Sql) (sets : List (List ℕ) →
    List Given) (id limit : ℕ) (old new : List ℕ) : Type 0 where
  -- The query has these tokens, and each set gives values for its names, as many as it has placeholders.
  pub tokens : List (List ℕ)
  pub has : HasTokens query.mode query.text tokens
  pub values : List (List Value)
  pub given : sets (names_of tokens) ≡ map Ok values
  pub counts : AllByRecursion (λ set. length set ≡ length (filter is_place tokens)) values
  -- No cause speaks against sending them.
  pub no_cause : cause_of road (statement_of query tokens id) limit (map Ok values) ≡ None
  -- These payloads are sent of them, each within the limit with its header of four bytes, and their stream is appended.
  pub sent : List SentPayload
  pub are_sent : AreSent road (statement_of query tokens id) (limit - 4) values sent
  pub within : AllByRecursion (λ s. length s.payload ≤ limit - 4) sent
  pub appended : new ≡ old ++ stream_of sent
  -- The stream reads as what the values mean, to its end, and as nothing else.
  pub contents : List Set
  pub meanings : HaveContents values contents
  -- Each set can be read back: by text its query reads as its contents, by the other roads the
  -- numbers of its values fit their fields.
  pub readable : AllByRecursion (IsReadable road (statement_of query tokens id).query) values
  pub read_back : ReadsWholeAs query id limit (stream_of sent) contents
  -- Each front of it reads, without a fault, as the sets that stand whole in it.
  pub fronts : FrontsRead query id limit sent
  -- By bulk no cut of the values that fits has fewer requests.
  pub fewest : HasFewest road (statement_of query tokens id) (limit - 4) values sent

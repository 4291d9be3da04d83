-- What sending appends, and why nothing is sent.
-- MySQL: Client/Server Protocol, "Protocol Basics: MySQL Packets", "Command Phase".
use Rattle.std.specs.Prelude.{◌≡◌, ◌⊎◌, ◌≤◌, ◌+◌, ◌-◌, ℕ, List, ◌++◌, length, map, Some, None, Ok}
use Rattle.mysql_values.specs.Sql.{Sql}
use Rattle.mysql_values.specs.Value.{Value}
use Rattle.mysql_values.specs.Tokens.{HasTokens}
use Rattle.mysql_values.specs.Parsed.{names_of}
use Rattle.mysql_bulk_builder.specs.TypedCut.{IsTypedCut, Part, TypedCutFits}
use Rattle.mysql_receive.specs.Query.{Statement, place_count, statement_of}
use Rattle.mysql_command_rules.specs.declared.refusal.Refusal.{Refusal}
use Rattle.mysql_command_rules.specs.declared.refusal.Refusal.TheVariants as refusals
use Rattle.mysql_command_rules.specs.declared.road.Road.{Road}
use Rattle.mysql_command_rules.specs.declared.road.Road.TheVariants.{Text, Execute, Bulk}
use Rattle.mysql_command_rules.specs.Sets.{Given}
use Rattle.mysql_command_rules.specs.Sent.{AreSent, SentPayload, stream_of}
use Rattle.mysql_command_rules.specs.Cause.{cause_of}

-- no cause speaks against sending sets that give this for the query's names, and the framings of
-- what is sent of their values are appended
pub record SendsGiven (road : Road) (query : Sql) (sets : List (List ℕ) →
    List Given) (id limit : ℕ) (old new : List ℕ) : Type 0 where
  pub tokens : List (List ℕ)
  pub has : HasTokens query.mode query.text tokens
  pub values : List (List Value)
  pub given : sets (names_of tokens) ≡ map Ok values
  pub none : cause_of road (statement_of query tokens id) limit (sets (names_of tokens)) ≡ None
  pub sent : List SentPayload
  pub are_sent : AreSent road (statement_of query tokens id) (limit - 4) values sent
  pub appended : new ≡ old ++ stream_of sent

-- the first cause for which sets that give this for the query's names are not sent
pub record IsCause (road : Road) (query : Sql) (sets : List (List ℕ) → List Given) (id limit : ℕ)
    (refusal : Refusal) : Type 0 where
  pub tokens : List (List ℕ)
  pub has : HasTokens query.mode query.text tokens
  pub first : cause_of road (statement_of query tokens id) limit (sets (names_of tokens)) ≡ Some refusal

-- why they are refused: Memory may stand in place of any answer; each other refusal is the first cause
abbrev pub RefusesGiven : Road → Sql → (List (List ℕ) → List Given) → ℕ → ℕ → Refusal → Type 0
RefusesGiven road query sets id limit refusal = (refusal ≡ refusals.Memory) ⊎ IsCause road query sets id limit refusal

-- By bulk no cut of the sets' values that fits, whichever of its parts carry types, has fewer
-- requests than stand behind the prepare.
abbrev pub HasFewest : Road → Statement → ℕ → List (List Value) → List SentPayload → Type 0
HasFewest Text statement room sets sent = Unit {0}
HasFewest Execute statement room sets sent = Unit {0}
HasFewest Bulk statement room sets sent =
    (other : List Part) → IsTypedCut sets other →
    TypedCutFits room (place_count statement.query) sets other → length sent ≤ 1 + length other

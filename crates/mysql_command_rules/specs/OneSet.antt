-- One set behind others: what the steps of sending promise, by text and by execute. MySQL:
-- Client/Server Protocol, "COM_QUERY", "COM_STMT_PREPARE", "COM_STMT_SEND_LONG_DATA",
-- "COM_STMT_EXECUTE".
use Rattle.std.specs.Prelude.{◌≡◌, ◌⊎◌, ◌-◌, ℕ, List, [], ◌∷◌, ◌++◌, take, slice_get, Option, Some, None, Ok}
use Rattle.mysql_values.specs.Sql.{Sql}
use Rattle.mysql_values.specs.Parsed.{names_of}
use Rattle.mysql_values.specs.Tokens.{HasTokens}
use Rattle.mysql_values.specs.Value.{Value}
use Rattle.mysql_receive.specs.Query.{Statement, place_count, statement_of}
use Rattle.mysql_command_rules.specs.declared.refusal.Refusal.{Refusal}
use Rattle.mysql_command_rules.specs.declared.refusal.Refusal.TheVariants as refusals
use Rattle.mysql_command_rules.specs.declared.road.Road.{Road}
use Rattle.mysql_command_rules.specs.declared.road.Road.TheVariants.{Text, Execute, Bulk}
use Rattle.mysql_command_rules.specs.Cause.{set_cause}
use Rattle.mysql_command_rules.specs.Reading.{IsReadable}
use Rattle.mysql_command_rules.specs.Sent.{SentPayload, as_execution, as_text, prepare_of, stream_of, whole_command}
use Rattle.mysql_command_rules.specs.Sets.{Given}

-- by text and by execute each set has packets of its own; by bulk sets share requests
abbrev pub IsApart : Road → Type 0
IsApart Text = Unit {0}
IsApart Execute = Unit {0}
IsApart Bulk = ⊥

-- what is sent before all sets
abbrev pub front_of : Road → Statement → List SentPayload
front_of Text statement = []
front_of Execute statement = prepare_of statement ∷ []
front_of Bulk statement = prepare_of statement ∷ []

-- what is sent of one set by itself
abbrev pub one_set : Road → Statement → List Value → List SentPayload
one_set Text statement values = as_text statement values
one_set Execute statement values = as_execution statement values
one_set Bulk statement values = []

-- what speaks against the set of a number by itself, within a limit
abbrev pub cause_of_set : Road → Statement → ℕ → ℕ → Given → Option Refusal
cause_of_set road statement limit number given =
    set_cause (whole_command road statement) (place_count statement.query) (limit - 4) number given

-- the first of sets, so many
abbrev pub first_sets : ℕ → (List (List ℕ) → List Given) → List (List ℕ) → List Given
first_sets count sets names = take count (sets names)

-- the set of this number gives this, for any names
abbrev pub GivesAt : (List (List ℕ) → List Given) → ℕ → (List (List ℕ) → Given) → Type 0
GivesAt sets number given = (names : List (List ℕ)) → slice_get (sets names) number ≡ Some (given names)

-- what is sent of the set of this number is appended: it gives values, nothing speaks against them,
-- and what is sent of them can be read back
pub record AppendsSet (road : Road) (statement : Statement) (limit number : ℕ) (given : Given)
    (old new : List ℕ) : Type 0 where
  pub values : List Value
  pub gives : given ≡ Ok values
  pub none : cause_of_set road statement limit number (Ok values) ≡ None
  pub readable : IsReadable road statement.query values
  pub appended : new ≡ old ++ stream_of (one_set road statement values)

-- the same of a query and an id, whose statement is that of the query's tokens
abbrev pub AppendsOne : Road → Sql → ℕ → ℕ → ℕ → (List (List ℕ) → Given) → List ℕ → List ℕ → Type 0
AppendsOne road query id limit number given old new =
    (tokens : List (List ℕ)) × HasTokens query.mode query.text tokens ×
    AppendsSet road (statement_of query tokens id) limit number (given (names_of tokens)) old new

-- why the set of this number isn't sent: Memory, or the first cause that speaks against it
abbrev pub RefusesOne : Road → Sql → ℕ → ℕ → ℕ → (List (List ℕ) → Given) → Refusal → Type 0
RefusesOne road query id limit number given refusal = (refusal ≡ refusals.Memory) ⊎
    ((tokens : List (List ℕ)) × HasTokens query.mode query.text tokens ×
    (cause_of_set road (statement_of query tokens id) limit number (given (names_of tokens)) ≡
    Some refusal))

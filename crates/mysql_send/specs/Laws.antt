-- The law of executions that are appended behind sets that were sent.
-- MySQL: Client/Server Protocol, "COM_STMT_EXECUTE".
use Rattle.std.specs.Prelude.{◌≡◌, ℕ, List, ◌++◌, length}
use Rattle.mysql_values.specs.Sql.{Sql}
use Rattle.mysql_values.specs.Parsed.{names_of}
use Rattle.mysql_values.specs.Queries.{places_of}
use Rattle.mysql_values.specs.Value.{Value}
use Rattle.mysql_command_rules.specs.declared.road.Road.TheVariants.{Execute}
use Rattle.mysql_command_rules.specs.Reading.{SentReadable}
use Rattle.mysql_command_rules.specs.Sets.{Given, all_given_in_places}
use Rattle.mysql_send.specs.Executions.{AppendsMore, limits_of}

-- Executions of sets of values, numbered on from sets that were sent by execute and appended behind
-- them, are sent with them.
abbrev pub FurtherSetsAreSent : Type 0
FurtherSetsAreSent =
    (query : Sql) (sets : List (List ℕ) → List Given) (id limit first : ℕ)
    (more : List (List Value)) (old mid new : List ℕ)
    → (sent : SentReadable Execute query sets id limit old mid) → length (sets (names_of sent.sends.tokens)) ≡ first
    → AppendsMore id (limits_of (places_of query sent.sends.tokens) limit) first more mid new
    → SentReadable Execute query (λ names. sets names ++ all_given_in_places more names) id limit old new

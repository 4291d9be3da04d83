-- A query that is kept, for calls that each send or read sets of it. MySQL Reference Manual,
-- "PREPARE Statement" (parameter markers); MySQL: Client/Server Protocol, "COM_STMT_PREPARE" (the
-- statement's id), "COM_STMT_EXECUTE".
use Rattle.std.specs.Prelude.{◌≡◌, ◌≢◌, ◌⊎◌, ◌<◌, ◌≤◌, ℕ, List, length, false, true, Result, Ok, Err}
use Rattle.mysql_values.specs.Place.{Place}
use Rattle.mysql_values.specs.Queries.{HasMixed, HasPlaces, places_of}
use Rattle.mysql_values.specs.Sql.{Sql}
use Rattle.mysql_values.specs.Tokens.{HasTokens}
use Rattle.mysql_values.specs.Value.{Value}
use Rattle.mysql_command_rules.specs.Cause.{max_places}
use Rattle.mysql_command_rules.specs.Sending.{RefusesGiven}
use Rattle.mysql_command_rules.specs.Sets.{Given}
use Rattle.mysql_command_rules.specs.declared.road.Road.{Road}
use Rattle.mysql_command_rules.specs.declared.refusal.Refusal.{Refusal}
use Rattle.mysql_command_rules.specs.declared.refusal.Refusal.TheVariants.{Memory, Mixed, TooManyPlaces}
use Rattle.mysql_send.specs.Executions.{AppendsMore, RefusesMore, limits_of}
use Rattle.mysql_session.specs.declared.wrong_count.WrongCount.{WrongCount}

-- its text for a server in a mode, with the spelling of byte strings by text, and the id of its statement
pub record KeptQuery : Type 0 where
  pub sql : Sql
  pub id : ℕ

-- a query is kept that stands for this text and mode, spelling and id; its placeholders are of one kind
pub record KeepsQuery (sql : Sql) (id : ℕ) (query : KeptQuery) : Type 0 where
  pub is : query ≡ record { sql = sql; id = id }
  pub one_kind : HasMixed sql false

-- None is kept: both kinds of placeholder occur, or memory ran out. So what `send` is asked of the
-- same text and id is refused by each road, whichever the sets are.
pub record IsNotKept (sql : Sql) (id : ℕ) (refusal : Refusal) : Type 0 where
  pub mixed : (refusal ≡ Memory) ⊎ ((refusal ≡ Mixed) × HasMixed sql true)
  pub refused : (road : Road) (sets : List (List ℕ) → List Given) (limit : ℕ) →
      RefusesGiven road sql sets id limit refusal

-- the server counted as many parameters as the query has placeholders; or another number, and both are told
abbrev pub ChecksCount : Sql → (parameters : ℕ) → Result (Unit {0}) WrongCount → Type 0
ChecksCount query parameters (Ok done) = (places : List Place) × HasPlaces query places × (length places ≡ parameters)
ChecksCount query parameters (Err wrong) = (places : List Place) × HasPlaces query places ×
    (length places ≢ parameters) × (wrong ≡ record { places = length places; parameters = parameters })

-- further executions are appended, of which the first has this number: the statement can be
-- prepared, nothing speaks against any set, and the framings of its execution follow those of the
-- one before
pub record AppendsFurther (query : KeptQuery) (limit first : ℕ) (sets : List (List Value))
    (old new : List ℕ) : Type 0 where
  pub tokens : List (List ℕ)
  pub has : HasTokens query.sql.mode query.sql.text tokens
  pub few : length (places_of query.sql tokens) ≤ max_places
  pub appends : AppendsMore query.id (limits_of (places_of query.sql tokens) limit) first sets old new

-- why further executions are refused, with these placeholders
pub data WhyRefused (id : ℕ) (places : List Place) (limit first : ℕ) (sets : List (List Value))
    (refusal : Refusal) : Type 0 where
  -- they are too many
  too_many_places : refusal ≡ TooManyPlaces → max_places < length places →
      WhyRefused id places limit first sets refusal
  -- memory ran out, or a cause speaks against one of the sets, the first that does
  at_a_set : length places ≤ max_places → RefusesMore id (limits_of places limit) first sets refusal →
      WhyRefused id places limit first sets refusal

-- further executions are refused
pub record RefusesFurther (query : KeptQuery) (limit first : ℕ) (sets : List (List Value))
    (refusal : Refusal) : Type 0 where
  pub tokens : List (List ℕ)
  pub has : HasTokens query.sql.mode query.sql.text tokens
  pub why : WhyRefused query.id (places_of query.sql tokens) limit first sets refusal

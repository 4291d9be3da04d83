-- The laws of sets that are sent one after another, by text and by execute.
-- MySQL: Client/Server Protocol, "COM_QUERY", "COM_STMT_PREPARE", "COM_STMT_EXECUTE".
use Rattle.std.specs.Prelude.{◌≡◌, ◌+◌, ◌-◌, ◌<◌, ◌≤◌, ℕ, List, ◌++◌, length, take, get_or, Some, None, Ok}
use Rattle.mysql_values.specs.Sql.{Sql}
use Rattle.mysql_values.specs.Tokens.{HasTokens}
use Rattle.mysql_values.specs.declared.params.Params.{Params}
use Rattle.mysql_receive.specs.Query.{statement_of}
use Rattle.mysql_command_rules.specs.declared.refusal.Refusal.{Refusal}
use Rattle.mysql_command_rules.specs.declared.road.Road.{Road}
use Rattle.mysql_command_rules.specs.Cause.{query_cause}
use Rattle.mysql_command_rules.specs.MadeSets.{AllMade, IsSetAt, MadeUpTo}
use Rattle.mysql_command_rules.specs.OneSet.{AppendsOne, GivesAt, IsApart, RefusesOne, first_sets, front_of}
use Rattle.mysql_command_rules.specs.Reading.{SentReadable}
use Rattle.mysql_command_rules.specs.Sending.{RefusesGiven}
use Rattle.mysql_command_rules.specs.Sent.{stream_of}
use Rattle.mysql_command_rules.specs.Sets.{Given, all_given, given_by}

-- a query against which nothing speaks begins the stream of no sets
abbrev pub QueriesBegin : Type 0
QueriesBegin =
    (road : Road) → IsApart road →
    (query : Sql) (sets : List (List ℕ) → List Given) (id limit : ℕ) (old new : List ℕ)
    (tokens : List (List ℕ)) → HasTokens query.mode query.text tokens →
    query_cause road (statement_of query tokens id) (limit - 4) ≡ None →
    new ≡ old ++ stream_of (front_of road (statement_of query tokens id)) →
    SentReadable road query (first_sets 0 sets) id limit old new

-- what speaks against the query is the first cause, whichever sets it has
abbrev pub QueriesAreRefused : Type 0
QueriesAreRefused =
    (road : Road) (query : Sql) (sets : List (List ℕ) → List Given) (id limit : ℕ)
    (refusal : Refusal) (tokens : List (List ℕ)) → HasTokens query.mode query.text tokens →
    query_cause road (statement_of query tokens id) (limit - 4) ≡ Some refusal →
    RefusesGiven road query sets id limit refusal

-- the next set is sent behind those before it
abbrev pub OneMoreIsSent : Type 0
OneMoreIsSent =
    (road : Road) → IsApart road →
    (query : Sql) (sets : List (List ℕ) → List Given) (id limit number : ℕ) (old mid new : List ℕ)
    (given : List (List ℕ) → Given) → GivesAt sets number given →
    SentReadable road query (first_sets number sets) id limit old mid →
    AppendsOne road query id limit number given mid new →
    SentReadable road query (first_sets (number + 1) sets) id limit old new

-- where the next set is refused, all are, and so are the first ones up to it
abbrev pub OneMoreIsRefused : Type 0
OneMoreIsRefused =
    (road : Road) → IsApart road →
    (query : Sql) (sets : List (List ℕ) → List Given) (id limit number : ℕ) (old mid : List ℕ)
    (given : List (List ℕ) → Given) → GivesAt sets number given →
    SentReadable road query (first_sets number sets) id limit old mid →
    (refusal : Refusal) → RefusesOne road query id limit number given refusal →
    RefusesGiven road query sets id limit refusal ×
    RefusesGiven road query (first_sets (number + 1) sets) id limit refusal

-- where no set is left all are sent
abbrev pub AllAreSent : Type 0
AllAreSent =
    (road : Road) (query : Sql) (sets : List (List ℕ) → List Given) (id limit number : ℕ)
    (old new : List ℕ) → ((names : List (List ℕ)) → length (sets names) ≤ number) →
    SentReadable road query (first_sets number sets) id limit old new →
    SentReadable road query sets id limit old new

-- what stood before the sets stands in front of what is appended behind them
abbrev pub FrontsStay : Type 0
FrontsStay =
    (road : Road) (query : Sql) (sets : List (List ℕ) → List Given) (id limit : ℕ)
    (old mid new : List ℕ) → SentReadable road query sets id limit old mid →
    take (length mid) new ≡ mid → take (length old) new ≡ old

-- the set of a number in a list
abbrev pub ListsGive : Type 0
ListsGive =
    (sets : List Params) (number : ℕ) (params : Params) → number < length sets →
    params ≡ get_or sets number params → GivesAt (all_given sets) number (λ names. given_by names params)

-- Sets are sent in turn: what holds before the first, with each, and behind the last.
pub record SentInTurn : Type 0 where
  pub begin : QueriesBegin
  pub refused : QueriesAreRefused
  pub more : OneMoreIsSent
  pub refused_more : OneMoreIsRefused
  pub all : AllAreSent
  pub kept : FrontsStay
  pub of_list : ListsGive

-- Sets are made in turn: what holds before the first, with each, and behind the last.
pub record MadeInTurn : Type 0 where
  pub begin : (given : List (List ℕ) → List Given) → MadeUpTo given 0
  pub more : (given : List (List ℕ) → List Given) (number : ℕ) (params : Params) →
      IsSetAt given number (Ok params) → MadeUpTo given number → MadeUpTo given (number + 1)
  pub all : (given : List (List ℕ) → List Given) (number : ℕ) →
      ((names : List (List ℕ)) → length (given names) ≤ number) → MadeUpTo given number → AllMade given

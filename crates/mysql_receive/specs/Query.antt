-- A query, as its placeholders cut it, and its statement at a server.
-- MySQL: Client/Server Protocol, "COM_QUERY" and "COM_STMT_PREPARE".
use Rattle.std.specs.Prelude.{ℕ, Bool, List, length}
use Rattle.std.specs.List.{join_with_byte, list_all}
use Rattle.mysql_values.specs.Place.{Place}
use Rattle.mysql_values.specs.Queries.{HasPlaces, IsParsed, pieces_of, places_of}
use Rattle.mysql_values.specs.Sql.{Sql}
use Rattle.mysql_values.specs.Tokens.{question}

-- the query's text and the mode in which the server reads it, the text with a question mark for
-- each placeholder, and the placeholders
pub record Query : Type 0 where
  pub sql : Sql
  pub parsed : List ℕ
  pub places : List Place

-- a statement: its query, and the id that it has at the server
pub record Statement : Type 0 where
  pub query : Query
  pub id : ℕ

-- the statement of a query with these tokens
abbrev pub statement_of : Sql → List (List ℕ) → ℕ → Statement
statement_of query tokens id =
    record {
      query = record {
        sql = query;
        parsed =
            join_with_byte question (pieces_of tokens);
        places = places_of query tokens;
      };
      id = id;
    }

-- the parsed text and the placeholders are those of the query
pub record IsQuery (query : Query) : Type 0 where
  pub parsed : IsParsed query.sql query.parsed
  pub places : HasPlaces query.sql query.places

-- the most placeholders that a statement can have: they are counted in two bytes
abbrev pub max_places : ℕ
max_places = 65535

-- how many placeholders it has
abbrev pub place_count : Query → ℕ
place_count query = length query.places

-- each placeholder stands alone
abbrev pub all_alone : Query → Bool
all_alone query = list_all (λ place. place.alone) query.places

-- A query as it is parsed for a server.
-- MySQL Reference Manual, "PREPARE Statement" (parameter markers).
use Rattle.std.specs.Prelude.{◌≡◌, ℕ, List, map, filter, drop, slice_range}
use Rattle.mysql_queries.specs.Tokens.{HasTokens}
use Rattle.mysql_queries.specs.Queries.{is_name}
use Rattle.mysql_queries.specs.Sql.{Sql}
use Rattle.mysql_queries.specs.declared.placeholders.Place.{Place}

-- the query with question marks, and its names in order
pub record Parsed : Type 0 where
  pub query : List ℕ
  pub names : List (List ℕ)

-- the names of a query with these tokens, without their colons
abbrev pub names_of : List (List ℕ) → List (List ℕ)
names_of tokens = map (drop 1) (filter is_name tokens)

-- the names of the query are these, in order
abbrev pub HasNames : Sql → List (List ℕ) → Type 0
HasNames query names = (tokens : List (List ℕ)) × HasTokens query.mode query.text tokens × (names ≡ names_of tokens)

-- the names at placeholders of a query, without their colons
abbrev pub names_at : List ℕ → List Place → List (List ℕ)
names_at query places = map (λ place. drop 1 (slice_range query place.start place.end))
    (filter (λ place. place.name) places)

-- What is found of a query's text when it is parsed.
-- MySQL Reference Manual, "PREPARE Statement" (parameter markers).
use Rattle.std.specs.Prelude.{◌≡◌, map}
use Rattle.std.specs.Cow.{cow_slice_items}
use Rattle.mysql_queries.specs.Parsed.{names_at}
use Rattle.mysql_queries.specs.Queries.{HasPlaces, first_not_alone, is_mixed}
use Rattle.mysql_queries.specs.Query.{Query}
use Rattle.mysql_queries.specs.Sql.{Sql, read_by}
use Rattle.mysql_queries.specs.declared.parsed_query.ParsedQuery.TheInside.{Inside}

-- its text, as a server in its mode reads it, with byte strings in its spelling
abbrev pub sql_of_inside : Inside → Sql
sql_of_inside q = read_by q.mode q.spelling (cow_slice_items q.text)

-- that, and its placeholders
abbrev pub query_of : Inside → Query
query_of q = record { sql = sql_of_inside q; places = q.places.items }

-- the placeholders are those of the text, and the rest is what they say
pub record IsFound (q : Inside) : Type 0 where
  pub places : HasPlaces (sql_of_inside q) q.places.items
  pub names : map cow_slice_items q.names.items ≡ names_at (cow_slice_items q.text) q.places.items
  pub mixed : q.mixed ≡ is_mixed q.places.items
  pub not_alone : q.not_alone ≡ first_not_alone q.places.items

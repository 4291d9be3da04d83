-- A query as contracts see it: its text for a server in a mode, and its placeholders.
-- MySQL Reference Manual, "PREPARE Statement" (parameter markers).
use Rattle.std.specs.Prelude.{List}
use Rattle.mysql_queries.specs.Sql.{Sql}
use Rattle.mysql_queries.specs.declared.placeholders.Place.{Place}

-- its text, with the mode in which it is read and its spelling, and its placeholders in order
pub record Query : Type 0 where
  pub sql : Sql
  pub places : List Place

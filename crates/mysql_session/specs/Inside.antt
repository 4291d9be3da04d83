-- What a query that is kept holds of its text.
-- MySQL Reference Manual, "PREPARE Statement" (parameter markers).
use Rattle.mysql_session.specs.Kept.{KeptQuery}
use Rattle.mysql_session.specs.declared.query.Query.TheInside.{Inside}

-- what contracts see of it
abbrev pub kept_query : Inside → KeptQuery
kept_query q = record { sql = q.statement.sql; id = q.statement.id }

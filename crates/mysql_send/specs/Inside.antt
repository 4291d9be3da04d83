-- What a statement holds of its query.
-- MySQL: Client/Server Protocol, "COM_STMT_PREPARE".
use Rattle.std.specs.Prelude.{length}
use Rattle.std.specs.Cow.{cow_slice_items}
use Rattle.mysql_values.specs.Parsed.{names_at}
use Rattle.mysql_send.specs.Statement.{IsStatement, SentStatement}
use Rattle.mysql_send.specs.declared.execute.statement.Statement.TheInside.{Inside}

-- what contracts see of it
abbrev pub sent_statement : Inside → SentStatement
sent_statement s = record {
  sql = s.query.sql;
  parsed = record { query = cow_slice_items s.marked; names = names_at s.query.sql.text s.query.places };
  places = length s.query.places;
  id = s.id;
}

-- it is the statement of its query
abbrev pub IsFound : Inside → Type 0
IsFound s = IsStatement (sent_statement s).sql (sent_statement s).parsed (sent_statement s).places

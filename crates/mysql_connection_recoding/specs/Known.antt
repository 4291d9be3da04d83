-- What contracts see of the ids of statements.
-- MySQL: Client/Server Protocol, "Prepared Statements".
use Rattle.std.specs.BTreeMap.{get}
use Rattle.std.specs.Ordering.{nat_cmp}
use Rattle.mysql_connection_recoding.specs.declared.statement_ids.StatementIds.{StatementIds}
use Rattle.mysql_connection_recoding.specs.Recoding.{Ids}

-- the id on the other connection of each statement that is known
abbrev pub known : StatementIds → Ids
known s id = get nat_cmp s.by_id id

-- How a statement of a query is made, and why none is. MySQL: Client/Server Protocol,
-- "COM_STMT_PREPARE"; MySQL Reference Manual, "PREPARE Statement" (parameter markers).
use Rattle.std.specs.Prelude.{◌≡◌, ◌⊎◌, ℕ, List, false, true}
use Rattle.mysql_values.specs.Queries.{HasMixed}
use Rattle.mysql_values.specs.Sql.{Sql}
use Rattle.mysql_command_rules.specs.declared.road.Road.{Road}
use Rattle.mysql_command_rules.specs.Sending.{RefusesGiven}
use Rattle.mysql_command_rules.specs.Sets.{Given}
use Rattle.mysql_command_rules.specs.declared.refusal.Refusal.{Refusal}
use Rattle.mysql_command_rules.specs.declared.refusal.Refusal.TheVariants as refusals
use Rattle.mysql_send.specs.Statement.{RefusesPrepare, SentStatement}

-- it is the query's and has this id; the query's placeholders are of one kind
pub record IsMade (query : Sql) (id : ℕ) (statement : SentStatement) : Type 0 where
  pub sql_is : statement.sql ≡ query
  pub id_is : statement.id ≡ id
  pub one_kind : HasMixed query false

-- None is made: both kinds of placeholder occur, or memory ran out. So it isn't prepared either, and
-- its sets are refused by each road, whichever they are.
pub record IsNotMade (query : Sql) (id : ℕ) (refusal : Refusal) : Type 0 where
  pub mixed : (refusal ≡ refusals.Memory) ⊎ ((refusal ≡ refusals.Mixed) × HasMixed query true)
  pub prepare : (room : ℕ) → RefusesPrepare query id room refusal
  pub refused : (road : Road) (sets : List (List ℕ) → List Given) (limit : ℕ) →
      RefusesGiven road query sets id limit refusal

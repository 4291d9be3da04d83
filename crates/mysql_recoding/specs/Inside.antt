-- What a recoder's fields stand for, and what is true of them.
-- MySQL: Client/Server Protocol, "COM_STMT_PREPARE" (the number of parameters has two bytes).
use Rattle.std.specs.Prelude.{◌≡◌, ◌≤◌}
use Rattle.mysql_receive.specs.Query.{IsQuery}
use Rattle.mysql_recoding.specs.declared.recoder.Recoder.TheInside.{Inside}
use Rattle.mysql_recoding.specs.AsItComes.{Recoded}

abbrev pub recoder_of : Inside → Recoded
recoder_of r = record {
  receiver = r.receiver;
  places = r.places;
  count = r.count;
  prepare =
      r.prepare.items;
  refused = r.refused;
}

-- it sends by its receiver's statement and limit, and that statement can be prepared
pub record IsKept (r : Inside) : Type 0 where
  pub query : IsQuery r.receiver.statement.query
  pub id_is : r.stmt_id ≡ r.receiver.statement.id
  pub limit_is : r.limit ≡ r.receiver.limit
  pub room : 4 ≤ r.limit
  pub few : r.places ≤ 65535

use Rattle.mysql_connection_contents.proofs.Prepared.{both_begin_with_none, ids_begin_own, ids_stay_own}
use Rattle.mysql_connection_contents.proofs.laws.statements_keep_own_ids.Goals as goal

pub returns : goal.returns
returns c = record { none = both_begin_with_none; begins = ids_begin_own; stays = ids_stay_own }

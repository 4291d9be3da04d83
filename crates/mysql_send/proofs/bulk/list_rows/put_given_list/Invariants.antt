use Rattle.mysql_send.proofs.ListRows.{ListSoFar}
use Rattle.mysql_send.proofs.bulk.list_rows.put_given_list.Given as goal

abbrev pub invariant-values : goal.invariant-values
invariant-values l = ListSoFar l.initial.firsts l.firsts l.row l.column l.initial.out.items l.out.items

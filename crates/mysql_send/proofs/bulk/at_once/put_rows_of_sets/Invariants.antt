use Rattle.std.proofs.Common.{map}
use Rattle.std.specs.Cow.{cow_slice_items}
use Rattle.mysql_bulk_builder.specs.RowLists.{row_in}
use Rattle.mysql_send.proofs.AtOnce.{AtOnce}
use Rattle.mysql_send.proofs.bulk.at_once.put_rows_of_sets.Given as goal

abbrev pub invariant-sets : goal.invariant-sets
invariant-sets l = AtOnce (map cow_slice_items l.statement.names.now)
    (record { places = l.statement.places; bytes = l.room }) l.sets l.set (row_in l.firsts)
    l.initial.out.items l.out.items

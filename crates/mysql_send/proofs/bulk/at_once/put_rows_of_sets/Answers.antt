use Rattle.std.specs.List.{flat_map}
use Rattle.mysql_send.proofs.Lists.{kept_behind}
use Rattle.mysql_send.specs.BulkSets.{row_bytes}
use Rattle.mysql_send.proofs.SetRows.{width_is}
use Rattle.mysql_send.proofs.bulk.at_once.put_rows_of_sets.Goals as goal

pub put_row_of_set-requires : goal.put_row_of_set-requires
put_row_of_set-requires c =
    width_is c.sets.firsts c.args.statement.now.places c.sets.invariant.rows
    c.sets.invariant.firsts_are

pub returns-in_err-put-clause-kept : goal.returns-in_err-put-clause-kept
returns-in_err-put-clause-kept c =
    kept_behind c.args.out.now.items (flat_map row_bytes c.sets.invariant.rows) c.sets.out.items
    c.put_row_of_set.new.out.items c.sets.invariant.bytes c.put_row_of_set.ensures.kept

pub returns-then-not-put-clause-kept : goal.returns-then-not-put-clause-kept
returns-then-not-put-clause-kept c =
    kept_behind c.args.out.now.items (flat_map row_bytes c.sets.invariant.rows) c.sets.out.items
    c.put_row_of_set.new.out.items c.sets.invariant.bytes c.put_row_of_set.ensures.kept

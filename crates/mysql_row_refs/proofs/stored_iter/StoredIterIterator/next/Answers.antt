use Rattle.std.proofs.Common.{ap, sym, ◌∙◌}
use Rattle.std.specs.Option.{option_map}
use Rattle.mysql_row_refs.specs.RowRefs.{row_ref_view}
use Rattle.mysql_row_refs.proofs.KeptRows.{rows_from}
use Rattle.mysql_row_refs.proofs.stored_iter.StoredIterIterator.next.Goals as goal

pub returns-clause-steps : goal.returns-clause-steps
returns-clause-steps c =
    rows_from c.args.self.now.stored.now.rows c.args.self.now.next (row_ref_view c.in_ok-row.row)
    (sym c.row.ensures ∙ ap (option_map row_ref_view) c.in_ok-row.was)

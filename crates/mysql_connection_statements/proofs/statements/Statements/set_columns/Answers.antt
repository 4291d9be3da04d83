use Rattle.std.proofs.Common.{refl}
use Rattle.std.specs.Option.{option_map}
use Rattle.mysql_rows.specs.Views.{shared_columns}
use Rattle.mysql_connection_statements.specs.Statements.{having_columns}
use Rattle.mysql_connection_statements.proofs.Changes.{changed_in_place, unchanged_in_place}
use Rattle.mysql_connection_statements.proofs.Totals.{too_large}
use Rattle.mysql_connection_statements.proofs.statements.Statements.set_columns.Goals as goal

pub returns-clause-ok : goal.returns-clause-ok
returns-clause-ok c =
    rw (← c.self.view_is) (changed_in_place _ c.args.id
    (having_columns (option_map shared_columns c.args.columns) c.args.size)
    c.in-Some.statement.now c.set_columns.new.self _ _
    c.in-Some.ensures.ordered c.in-Some.ensures.value c.set_columns.ensures
    (c.get_mut.follows.holds c.set_columns.new.self).0
    (rw (
      ← c.size.ensures.size,
      ← c.size_with_columns-after.ensures.size (option_map shared_columns c.args.columns),
    )
    c.in_ok-stored.ensures.ok))

pub returns-in_err-stored-clause-unchanged : goal.returns-in_err-stored-clause-unchanged
returns-in_err-stored-clause-unchanged c =
    rw (← c.self.view_is) (unchanged_in_place _ _ c.args.id c.in-Some.statement.now c.in-Some.statement.now _
    c.in-Some.ensures.value refl (c.get_mut.follows.holds c.in-Some.statement.now).0)

pub returns-in_err-stored-clause-err : goal.returns-in_err-stored-clause-err
returns-in_err-stored-clause-err c =
    let these = option_map shared_columns c.args.columns in
    rw (← c.self.view_is) (too_large _ _ c.args.id c.in-Some.statement.now (having_columns these c.args.size) _
    c.in-Some.ensures.value (rw (
      ← c.size.ensures.size,
      ← c.size_with_columns-after.ensures.size these,
    ) c.in_err-stored.ensures.err))

use Rattle.std.proofs.Common.{refl}
use Rattle.mysql_connection_statements.specs.Statements.{with_long_data}
use Rattle.mysql_connection_statements.proofs.Changes.{changed_in_place, unchanged_in_place}
use Rattle.mysql_connection_statements.proofs.statements.Statements.add_long_data.Goals as goal

pub returns-clause-ok : goal.returns-clause-ok
returns-clause-ok c =
    rw (← c.self.view_is) (changed_in_place _ c.args.id
    (with_long_data c.args.place c.args.bytes.now c.args.size) c.in-Some.statement.now
    c.add_long_data.new.self _ _
    c.in-Some.ensures.ordered c.in-Some.ensures.value c.in_ok-add_long_data.ensures.ok
    (c.get_mut.follows.holds c.add_long_data.new.self).0
    (rw (← c.size.ensures.size, ← c.size_with_long_data-after.ensures.size c.args.bytes.now) c.in_ok-stored.ensures.ok))

pub returns-in_err-stored-clause-err : goal.returns-in_err-stored-clause-err
returns-in_err-stored-clause-err c =
    rw (← c.self.view_is) (unchanged_in_place _ _ c.args.id c.in-Some.statement.now c.in-Some.statement.now _
    c.in-Some.ensures.value refl (c.get_mut.follows.holds c.in-Some.statement.now).0)

pub returns-in_err-add_long_data-clause-err : goal.returns-in_err-add_long_data-clause-err
returns-in_err-add_long_data-clause-err c =
    rw (← c.self.view_is) (unchanged_in_place _ _ c.args.id c.in-Some.statement.now c.add_long_data.new.self _
    c.in-Some.ensures.value c.in_err-add_long_data.ensures.err (c.get_mut.follows.holds c.add_long_data.new.self).0)

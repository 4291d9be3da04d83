use Rattle.std.proofs.Common.{refl}
use Rattle.mysql_connection_statements.specs.Statements.{executed}
use Rattle.mysql_connection_statements.proofs.Changes.{changed_in_place, unchanged_in_place}
use Rattle.mysql_connection_statements.proofs.statements.Statements.execute.Goals as goal

pub returns-clause-ok : goal.returns-clause-ok
returns-clause-ok c =
    rw (← c.self.view_is) (changed_in_place _ c.args.id (executed c.args.types.now)
    c.in-Some.statement.now c.execute.new.self _ _
    c.in-Some.ensures.ordered c.in-Some.ensures.value c.in_ok-pending.ensures.ok
    (c.get_mut.follows.holds c.execute.new.self).0
    (rw (← c.size.ensures.size, ← c.size_executed-after.ensures.size) c.in_ok-stored.ensures.ok))

pub returns-in_err-stored-clause-err : goal.returns-in_err-stored-clause-err
returns-in_err-stored-clause-err c =
    rw (← c.self.view_is) (unchanged_in_place _ _ c.args.id c.in-Some.statement.now c.in-Some.statement.now _
    c.in-Some.ensures.value refl (c.get_mut.follows.holds c.in-Some.statement.now).0)

pub returns-in_err-pending-clause-err : goal.returns-in_err-pending-clause-err
returns-in_err-pending-clause-err c =
    rw (← c.self.view_is) (unchanged_in_place _ _ c.args.id c.in-Some.statement.now c.execute.new.self _
    c.in-Some.ensures.value c.in_err-pending.ensures.err (c.get_mut.follows.holds c.execute.new.self).0)

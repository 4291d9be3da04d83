use Rattle.std.proofs.Common.{refl}
use Rattle.mysql_connection_statements.specs.Statements.{is_reset}
use Rattle.mysql_connection_statements.proofs.Changes.{changed_in_place, unchanged_in_place}
use Rattle.mysql_connection_statements.proofs.statements.Statements.reset.Goals as goal

pub returns-clause-ok : goal.returns-clause-ok
returns-clause-ok c =
    rw (← c.self.view_is) (changed_in_place _ c.args.id (is_reset) c.in-Some.statement.now c.reset.new.self _ _
    c.in-Some.ensures.ordered c.in-Some.ensures.value c.reset.ensures (c.get_mut.follows.holds c.reset.new.self).0
    (rw (← c.size.ensures.size, ← c.size_reset.ensures.size) c.in_ok-stored.ensures.ok))

pub returns-in_err-stored-clause-unchanged : goal.returns-in_err-stored-clause-unchanged
returns-in_err-stored-clause-unchanged c =
    rw (← c.self.view_is) (unchanged_in_place _ _ c.args.id c.in-Some.statement.now c.in-Some.statement.now _
    c.in-Some.ensures.value refl (c.get_mut.follows.holds c.in-Some.statement.now).0)

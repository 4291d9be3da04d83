use Rattle.std.proofs.Common.{refl}
use Rattle.mysql_connection_statements.specs.Statements.{taken_back}
use Rattle.mysql_connection_statements.proofs.Changes.{changed_in_place, unchanged_in_place}
use Rattle.mysql_connection_statements.proofs.statements.Statements.take_back.Goals as goal

pub returns-clause-ok : goal.returns-clause-ok
returns-clause-ok c =
    rw (← c.self.view_is) (changed_in_place _ c.args.pending.id
    (taken_back c.args.code c.args.pending) c.in-Some.statement.now c.take_back.new.self _ _
    c.in-Some.ensures.ordered c.in-Some.ensures.value c.take_back.ensures
    (c.get_mut.follows.holds c.take_back.new.self).0
    (rw (← c.size.ensures.size, ← c.size_taken_back-after.ensures.size) c.in_ok-stored.ensures.ok))

pub returns-in_err-stored-clause-unchanged : goal.returns-in_err-stored-clause-unchanged
returns-in_err-stored-clause-unchanged c =
    rw (← c.self.view_is) (unchanged_in_place _ _ c.args.pending.id c.in-Some.statement.now c.in-Some.statement.now _
    c.in-Some.ensures.value refl (c.get_mut.follows.holds c.in-Some.statement.now).0)

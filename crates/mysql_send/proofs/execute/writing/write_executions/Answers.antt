use Rattle.std.proofs.Common.{arith, ◌-◌}
use Rattle.std.proofs.lemmas.Result.{err_from_is_err_and}
use Rattle.mysql_command_rules.specs.declared.road.Road.TheVariants.{Execute}
use Rattle.mysql_send.proofs.execute.writing.write_executions.Goals as goal

pub returns-in_err-flush_set-clause-err : goal.returns-in_err-flush_set-clause-err
returns-in_err-flush_set-clause-err g c =
    let p = err_from_is_err_and c.from_residual.result c.from_residual.ensures.1 in
    rw (p.1, p.2) (
    c.written_in_turn.ensures.stopped Execute tt c.args.statement.now.sql c.args.sets.now
    c.args.statement.now.id c.args.limit c.sets.set (g.W.Write.contents c.args.to.now)
    (g.W.Write.contents c.sets.to) (g.W.Write.contents c.flush_set.new.to)
    c.sets.buffer.items c.put_set-put.new.out.items c.index-sets-set.result c.sets-test.true
    c.index-sets-set.is c.sets.invariant
    c.put_set-put.result c.put_set-put.ensures.ok c.put_set-put.ensures.err c.put_set-put.ensures.kept
    c.len-start.result (omega (arith, c.len-start.ensures, c.sets.buffer.ok.0))
    c.in_err-flush_set.field-0.0 c.in_err-flush_set.ensures.err)

pub returns-in_err-flush-clause-err : goal.returns-in_err-flush-clause-err
returns-in_err-flush-clause-err g c =
    let p = err_from_is_err_and c.from_residual-in_err-flush.result c.from_residual-in_err-flush.ensures.1 in
    rw (p.1, p.2) (
    c.written_in_turn.ensures.failed Execute c.args.statement.now.sql c.args.sets.now
    c.args.statement.now.id c.args.limit c.sets.set (g.W.Write.contents c.args.to.now)
    (g.W.Write.contents c.sets.to) (g.W.Write.contents c.flush.new.to)
    c.sets.buffer.items (omega arith) c.sets.invariant c.flush.ensures.bytes c.in_err-flush.ensures.err)

pub returns-clause-ok : goal.returns-clause-ok
returns-clause-ok g c =
    c.written_in_turn.ensures.all Execute c.args.statement.now.sql c.args.sets.now
    c.args.statement.now.id c.args.limit c.sets.set (g.W.Write.contents c.args.to.now)
    (g.W.Write.contents c.sets.to) (g.W.Write.contents c.flush.new.to)
    c.sets.buffer.items (omega arith) c.sets.invariant c.flush.ensures.bytes c.in_ok-flush.ensures.ok

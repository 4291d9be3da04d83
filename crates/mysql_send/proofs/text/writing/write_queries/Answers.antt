use Rattle.std.proofs.Common.{arith}
use Rattle.std.proofs.lemmas.Result.{err_from_is_err_and}
use Rattle.mysql_command_rules.specs.declared.road.Road.TheVariants.{Text}
use Rattle.mysql_send.proofs.Lists.{where_put}
use Rattle.mysql_send.proofs.Texts.{where_err, where_ok}
use Rattle.mysql_send.proofs.text.writing.write_queries.Goals as goal

pub returns-in_err-flush_set-clause-err : goal.returns-in_err-flush_set-clause-err
returns-in_err-flush_set-clause-err g c =
    let p = err_from_is_err_and c.from_residual.result c.from_residual.ensures.1 in
    rw (p.1, p.2) (λ id.
    c.written_in_turn.ensures.stopped Text tt c.args.query.now.sql c.args.sets.now id c.args.limit
    c.sets.set (g.W.Write.contents c.args.to.now) (g.W.Write.contents c.sets.to)
    (g.W.Write.contents c.flush_set.new.to)
    c.sets.buffer.items c.put_query-put.new.out.items c.index-sets-set.result c.sets-test.true
    c.index-sets-set.is (c.sets.invariant id)
    c.put_query-put.result (where_ok _ c.put_query-put.result id c.put_query-put.ensures.ok)
    (where_err _ c.put_query-put.result id c.put_query-put.ensures.err)
    c.put_query-put.ensures.kept
    c.len-start.result (omega (arith, c.len-start.ensures, c.sets.buffer.ok.0))
    c.in_err-flush_set.field-0.0 c.in_err-flush_set.ensures.err)

pub sets-preserved : goal.sets-preserved
sets-preserved g c = λ id.
    c.written_in_turn.ensures.more Text tt c.args.query.now.sql c.args.sets.now id c.args.limit
    c.sets.set (g.W.Write.contents c.args.to.now) (g.W.Write.contents c.sets.to)
    (g.W.Write.contents c.flush_set.new.to)
    c.sets.buffer.items c.put_query-put.new.out.items c.flush_set.new.buffer.items
    c.index-sets-set.result c.sets-test.true c.index-sets-set.is (c.sets.invariant id)
    (where_put c.put_query-put.result c.in_ok-flush_set.ensures.put c.put_query-put.ensures.ok id)
    c.in_ok-flush_set.ensures.ok

pub returns-in_err-flush-clause-err : goal.returns-in_err-flush-clause-err
returns-in_err-flush-clause-err g c =
    let p = err_from_is_err_and c.from_residual-in_err-flush.result c.from_residual-in_err-flush.ensures.1 in
    rw (p.1, p.2) (λ id.
    c.written_in_turn.ensures.failed Text c.args.query.now.sql c.args.sets.now id c.args.limit
    c.sets.set (g.W.Write.contents c.args.to.now) (g.W.Write.contents c.sets.to)
    (g.W.Write.contents c.flush.new.to)
    c.sets.buffer.items (omega arith) (c.sets.invariant id) c.flush.ensures.bytes c.in_err-flush.ensures.err)

pub returns-clause-ok : goal.returns-clause-ok
returns-clause-ok g c = λ id.
    c.written_in_turn.ensures.all Text c.args.query.now.sql c.args.sets.now id c.args.limit
    c.sets.set (g.W.Write.contents c.args.to.now) (g.W.Write.contents c.sets.to)
    (g.W.Write.contents c.flush.new.to)
    c.sets.buffer.items (omega arith) (c.sets.invariant id) c.flush.ensures.bytes c.in_ok-flush.ensures.ok

use Rattle.std.proofs.Common.{◌≡◌, ◌++◌, ◌∷◌, [], map}
use Rattle.std.proofs.lemmas.Result.{err_from_is_err_and}
use Rattle.std.proofs.lemmas.List.{map_push}
use Rattle.mysql_field_lists.specs.Lists.{elements_at}
use Rattle.mysql_replication.specs.Blocks.{sid_at}
use Rattle.mysql_replication.specs.Sids.{sid_view}
use Rattle.mysql_field_lists.specs.ElementLaws.{goes_on, ends, is_done}
use Rattle.mysql_replication.proofs.block.sids_from.Goals as goal

pub returns-in_err-sid : goal.returns-in_err-sid
returns-in_err-sid c =
    let p = err_from_is_err_and c.from_residual.result c.from_residual.ensures.1 in
    rw (p.1, p.2) (ends (sid_at c.args.tagged) c.in_err-sid.field-0.0
    (map sid_view c.loop.sids.items) c.args.count c.loop.counter c.loop.rest.0.now
    (elements_at (sid_at c.args.tagged) c.args.count c.args.rest.now.0.now) c.loop-test.true
    c.in_err-sid.ensures c.loop.invariant)

pub loop-preserved : goal.loop-preserved
loop-preserved c =
    let sid = c.in_ok-sid.sid in
    let e : map sid_view c.push.new.self.items ≡ map sid_view c.loop.sids.items ++ sid_view sid ∷
    [] = rw c.in_ok-push.ensures.items (map_push _ c.loop.sids.items sid) in
    rw e (goes_on (sid_at c.args.tagged) (map sid_view c.loop.sids.items) c.args.count
    c.loop.counter c.loop.rest.0.now (sid_view sid) c.sid_from.new.rest.0.now
    (elements_at (sid_at c.args.tagged) c.args.count c.args.rest.now.0.now) c.loop-test.true
    c.in_ok-sid.ensures c.loop.invariant)

pub returns : goal.returns
returns c = is_done (sid_at c.args.tagged) (map sid_view c.loop.sids.items) c.args.count
    c.loop.counter c.loop.rest.0.now
    (elements_at (sid_at c.args.tagged) c.args.count c.args.rest.now.0.now) c.loop-test.false c.loop.invariant

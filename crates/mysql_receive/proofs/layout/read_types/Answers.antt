use Rattle.std.proofs.Common.{◌≡◌, ◌++◌, ◌∷◌, []}
use Rattle.std.proofs.lemmas.Result.{err_from_is_err_and}
use Rattle.mysql_receive.specs.Layout.{types_at}
use Rattle.mysql_receive.proofs.Loops.{types_go_on, types_end, types_done}
use Rattle.mysql_receive.proofs.layout.read_types.Goals as goal

pub returns-in_err-next : goal.returns-in_err-next
returns-in_err-next c =
    let p = err_from_is_err_and c.from_residual.result c.from_residual.ensures.1 in
    rw (p.1, p.2) (types_end c.in_err-next.field-0.0 c.loop.types.items c.args.short c.args.count
    c.loop.counter c.loop.rest.now (types_at c.args.short c.args.count c.args.bytes.now)
    c.loop-test.true c.in_err-next.ensures c.loop.invariant)

pub loop-preserved : goal.loop-preserved
loop-preserved c =
    let n = c.in_ok-next.next in
    let e : c.push.new.self.items ≡ c.loop.types.items ++ n ∷ [] = c.in_ok-push.ensures.items in
    rw e (types_go_on c.loop.types.items c.args.short c.args.count c.loop.counter c.loop.rest.now n
    c.in_ok-next.after.now (types_at c.args.short c.args.count c.args.bytes.now)
    c.loop-test.true c.in_ok-next.ensures c.loop.invariant)

pub returns : goal.returns
returns c = types_done c.loop.types.items c.args.short c.args.count c.loop.counter c.loop.rest.now
    (types_at c.args.short c.args.count c.args.bytes.now) c.loop-test.false c.loop.invariant

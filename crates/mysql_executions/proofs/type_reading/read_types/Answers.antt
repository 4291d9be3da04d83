use Rattle.std.proofs.Common.{◌≡◌, ◌++◌, ◌∷◌, []}
use Rattle.mysql_executions.specs.Types.{types_read}
use Rattle.mysql_executions.proofs.Loops.{types_go_on, types_end, types_done}
use Rattle.mysql_executions.proofs.type_reading.read_types.Goals as goal

pub returns-in-Err-Other : goal.returns-in-Err-Other
returns-in-Err-Other c = types_end c.args.named c.loop.found.items c.args.count c.loop.counter
    c.loop.rest.now (types_read c.args.named c.args.count c.args.bytes.now) c.loop-test.true
    (rw c.in-Err-Other.field-0-is at c.in-Err-Other.ensures) c.loop.invariant

pub loop-preserved : goal.loop-preserved
loop-preserved c =
    let e : c.push.new.self.items ≡ c.loop.found.items ++ c.in-Ok.next ∷ [] = c.in_ok-push-in-Ok.ensures.items in
    rw e (types_go_on c.args.named c.loop.found.items c.args.count c.loop.counter c.loop.rest.now
    (types_read c.args.named c.args.count c.args.bytes.now) c.in-Ok.next c.in-Ok.after.now
    c.loop-test.true c.in-Ok.ensures c.loop.invariant)

pub returns : goal.returns
returns c = types_done c.args.named c.loop.found.items c.args.count c.loop.counter c.loop.rest.now
    (types_read c.args.named c.args.count c.args.bytes.now) c.loop-test.false c.loop.invariant

use Rattle.std.proofs.Common.{◌≡◌, ◌++◌, ◌∷◌, [], get_or, false, arith}
use Rattle.std.proofs.lemmas.Result.{err_from_is_err_and}
use Rattle.mysql_receive.specs.Reading.{columns_at}
use Rattle.mysql_receive.proofs.Loops.{at_place, columns_done, columns_end, columns_go_on, zero_type}
use Rattle.mysql_receive.proofs.reading.read_columns.Goals as goal

pub returns-in_err-next : goal.returns-in_err-next
returns-in_err-next c =
    let p = err_from_is_err_and c.from_residual-in_err-next.result c.from_residual-in_err-next.ensures.1 in
    let types = c.args.types.now in
    rw (p.1, p.2) (columns_end types (columns_at types c.args.bytes.now) c.in_err-next.field-0.0
    c.loop-kind.set.items c.loop-kind.kind-index (get_or types c.loop-kind.kind-index zero_type)
    c.loop-kind.rest.now
    (at_place types c.loop-kind.kind-index zero_type c.loop-kind-test.true) c.in_err-next.ensures
    c.loop-kind.invariant.0)

pub loop-kind-preserved : goal.loop-kind-preserved
loop-kind-preserved c =
    let types = c.args.types.now in
    let e : c.push_reserved.new.self.items ≡ c.loop-kind.set.items ++ c.in_ok-next.next ∷ [] =
    c.push_reserved.ensures.items in (
      rw e (columns_go_on types (columns_at types c.args.bytes.now) c.loop-kind.set.items
          c.loop-kind.kind-index (get_or types c.loop-kind.kind-index zero_type)
          c.loop-kind.rest.now c.in_ok-next.next c.in_ok-next.after.now
          (at_place types c.loop-kind.kind-index zero_type c.loop-kind-test.true)
          c.in_ok-next.ensures c.loop-kind.invariant.0),
      omega (arith, c.push_reserved.ensures.capacity, c.loop-kind.invariant.1),
      omega (arith, c.push_reserved.ensures.len, c.loop-kind.invariant.2),
    )

pub returns : goal.returns
returns c =
    let types = c.args.types.now in
    columns_done types (columns_at types c.args.bytes.now) c.loop-kind.set.items
    c.loop-kind.kind-index c.loop-kind.rest.now c.loop-kind-test.false c.loop-kind.invariant.0

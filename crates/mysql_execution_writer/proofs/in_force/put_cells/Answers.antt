use Rattle.std.proofs.Common.{◌≡◌, ◌≤◌, ◌+◌, ◌++◌, [], ◌∷◌, drop, length, map, sym, arith}
use Rattle.std.proofs.lemmas.List.{drop_all}
use Rattle.mysql_execution_writer.specs.Cells.{are_parameters, as_read, parameters_bytes}
use Rattle.mysql_execution_writer.proofs.Begins.{begins_more}
use Rattle.mysql_execution_writer.proofs.InForce.{own_goes_on}
use Rattle.mysql_execution_writer.proofs.Loops.{at_place, fit_ends, fit_goes_on, parameters_done, parameters_go_on}
use Rattle.mysql_execution_writer.proofs.in_force.put_cells.Goals as goal

pub loop-place-preserved : goal.loop-place-preserved
loop-place-preserved c =
    let types = drop c.loop-place.place c.args.types.now in
    let values = drop c.loop-place.place c.args.values.now in
    let later = drop (c.loop-place.place + 1) c.args.types.now in
    let others = drop (c.loop-place.place + 1) c.args.values.now in
    let value = c.index-values-place.result in
    let here : values ≡ value ∷ others =
    at_place c.args.values.now c.loop-place.place value c.loop-place-test.true
    c.index-values-place.is in
    let put = c.in_ok-append_own_value.ensures in
    record {
      fit = fit_goes_on [] c.loop-place.place types values (are_parameters [] 0 c.args.types.now c.args.values.now)
          c.type_at-kind.result value later others c.type_at-kind.ensures here put.fits c.loop-place.invariant.fit;
      written = parameters_go_on [] c.loop-place.place types values c.loop-place.out.items
          c.append_own_value.new.out.items
          (c.args.out.now.items ++ parameters_bytes [] 0 c.args.types.now c.args.values.now)
          c.type_at-kind.result value later others c.type_at-kind.ensures here put.written
          c.loop-place.invariant.written;
      kept = begins_more c.args.out.now.items c.loop-place.out.items _
          c.append_own_value.new.out.items put.written c.loop-place.invariant.kept;
      own = own_goes_on (map as_read c.args.values.now ≡ c.args.values.now) value others values here
          put.own c.loop-place.invariant.own;
    }

pub returns-clause-fits : goal.returns-clause-fits
returns-clause-fits c =
    let types = drop c.loop-place.place c.args.types.now in
    let values = drop c.loop-place.place c.args.values.now in
    let all : length c.args.types.now ≤ c.loop-place.place = omega arith in
    sym (fit_ends [] c.loop-place.place types values (are_parameters [] 0 c.args.types.now c.args.values.now)
    (drop_all c.loop-place.place c.args.types.now all)
    (drop_all c.loop-place.place c.args.values.now c.loop-place-test.false)
    c.loop-place.invariant.fit)

pub returns-clause-ok : goal.returns-clause-ok
returns-clause-ok c =
    parameters_done [] c.loop-place.place (drop c.loop-place.place c.args.types.now)
    (drop c.loop-place.place c.args.values.now)
    c.loop-place.out.items (c.args.out.now.items ++ parameters_bytes [] 0 c.args.types.now c.args.values.now)
    (drop_all c.loop-place.place c.args.values.now c.loop-place-test.false) c.loop-place.invariant.written

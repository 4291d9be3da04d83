use Rattle.std.proofs.Common.{◌≡◌, Some, None, map, arith}
use Rattle.mysql_convert.specs.Sets.{too_long}
use Rattle.mysql_convert.proofs.Places.{first_too_long}
use Rattle.mysql_values.specs.declared.params.SetError.TheVariants as set_error
use Rattle.mysql_convert.proofs.objects.values_of_list.Goals as goal

pub returns-in_err-value-clause-err : goal.returns-in_err-value-clause-err
returns-in_err-value-clause-err g c =
    let f : g.T.ToValue.as_value c.index-list-place.result ≡ None →
    too_long 0 (map g.T.ToValue.as_value c.args.list.now) ≡
    Some (set_error.TooLong c.loop-place.place) =
    λ n. first_too_long g.T.ToValue.as_value c.args.list.now c.loop-place.place
    c.loop-place.values.items c.index-list-place.result c.loop-place-test.true
    c.index-list-place.is c.loop-place.invariant.made n in
    grind (arith, f)

use Rattle.std.proofs.Common.{rules, ◌≡◌, ◌++◌, ◌∷◌, [], ◌==◌, length, false}
use Rattle.std.specs.Global.{Vec}
use Rattle.mysql_values.specs.Content.{Content}
use Rattle.std.proofs.lemmas.Result.{err_from_is_err_and}
use Rattle.std.proofs.lemmas.List.{map_push}
use Rattle.mysql_receive.specs.Reading.{RowsAt}
use Rattle.mysql_receive.specs.Views.{sets_of}
use Rattle.mysql_receive.proofs.Rows.{row_left, rows_more, row_refused}
use Rattle.mysql_receive.proofs.reading.read_rows.Goals as goal

pub returns-in_err-set : goal.returns-in_err-set
returns-in_err-set c =
    let p = err_from_is_err_and c.from_residual.result c.from_residual.ensures.1 in
    let some : false ≡ (length c.loop-rest.rest.now == 0) = search rules in
    rw (p.1, p.2) (row_refused (λ (x : Vec (Vec Content)). sets_of x.items)
    (λ sets. RowsAt c.args.types.now c.args.bytes.now sets []) c.in_err-set.field-0.0
    c.args.types.now c.args.bytes.now (sets_of c.loop-rest.sets.items) c.loop-rest.rest.now
    c.loop-rest.invariant some c.in_err-set.ensures)

pub loop-rest-smaller : goal.loop-rest-smaller
loop-rest-smaller c = row_left c.args.types.now c.loop-rest.rest.now (
  c.in_ok-set.set.items,
  c.in_ok-set.after.now,
) c.in_ok-set.ensures

pub loop-rest-preserved : goal.loop-rest-preserved
loop-rest-preserved c =
    let pushed : sets_of c.push.new.self.items ≡ sets_of c.loop-rest.sets.items ++
    c.in_ok-set.set.items ∷ [] =
    rw c.in_ok-push.ensures.items (map_push _ c.loop-rest.sets.items c.in_ok-set.set) in
    rw pushed (rows_more c.args.types.now c.args.bytes.now (sets_of c.loop-rest.sets.items)
    c.loop-rest.rest.now c.in_ok-set.after.now c.in_ok-set.set.items c.loop-rest.invariant
    c.in_ok-set.ensures)

use Rattle.std.proofs.Common.{◌≡◌, ◌++◌, ◌∷◌, []}
use Rattle.std.proofs.lemmas.Result.{err_from_is_err_and}
use Rattle.mysql_field_lists.specs.Lists.{elements_at}
use Rattle.mysql_field_lists.specs.ElementLaws.{goes_on, ends, is_done}
use Rattle.mysql_field_lists.proofs.raw_seq.parse_numbers.Goals as goal

pub returns-in_err-item : goal.returns-in_err-item
returns-in_err-item g c =
    let p = err_from_is_err_and c.from_residual.result c.from_residual.ensures.1 in
    rw (p.1, p.2) (ends g.T.IntRepr.form.read_at c.in_err-item.field-0.0 c.loop.items.items
    c.args.count c.loop.counter c.loop.rest.0.now
    (elements_at g.T.IntRepr.form.read_at c.args.count c.args.rest.now.0.now) c.loop-test.true
    (λ _. c.in_err-item.ensures.0) c.loop.invariant)

pub loop-preserved : goal.loop-preserved
loop-preserved g c =
    let n = c.in_ok-item.item.0 in
    let e : c.push.new.self.items ≡ c.loop.items.items ++ n ∷ [] = c.in_ok-push.ensures.items in
    rw e (goes_on g.T.IntRepr.form.read_at c.loop.items.items c.args.count c.loop.counter
    c.loop.rest.0.now n c.parse.new.self.0.now
    (elements_at g.T.IntRepr.form.read_at c.args.count c.args.rest.now.0.now) c.loop-test.true
    c.in_ok-item.ensures c.loop.invariant)

pub returns : goal.returns
returns g c = is_done g.T.IntRepr.form.read_at c.loop.items.items c.args.count c.loop.counter c.loop.rest.0.now
    (elements_at g.T.IntRepr.form.read_at c.args.count c.args.rest.now.0.now) c.loop-test.false c.loop.invariant

use Rattle.std.proofs.Common.{◌≡◌, ◌++◌, ◌∷◌, [], map}
use Rattle.std.proofs.lemmas.Result.{err_from_is_err_and}
use Rattle.std.proofs.lemmas.List.{map_push}
use Rattle.mysql_fields.specs.Laws.{gives}
use Rattle.mysql_field_lists.specs.Lists.{elements_at}
use Rattle.mysql_field_lists.specs.ElementLaws.{goes_on, ends, is_done}
use Rattle.mysql_field_lists.proofs.lists.parse_elements.Goals as goal

pub returns-in_err-item : goal.returns-in_err-item
returns-in_err-item g c =
    let p = err_from_is_err_and c.from_residual.result c.from_residual.ensures.1 in
    rw (p.1, p.2) (ends (g.T.Readable.read_at tt) c.in_err-item.field-0.0
    (map g.T.Readable.shown c.loop.items.items) c.args.count c.loop.counter c.loop.rest.0.now
    (elements_at (g.T.Readable.read_at tt) c.args.count c.args.rest.now.0.now) c.loop-test.true
    (gives _ _ _ _ _ _ c.in_err-item.ensures).0 c.loop.invariant)

pub loop-preserved : goal.loop-preserved
loop-preserved g c =
    let n = c.in_ok-item.item in
    let e : map g.T.Readable.shown c.push.new.self.items ≡
    map g.T.Readable.shown c.loop.items.items ++ g.T.Readable.shown n ∷ [] =
    rw c.in_ok-push.ensures.items (map_push _ c.loop.items.items n) in
    rw e (goes_on (g.T.Readable.read_at tt) (map g.T.Readable.shown c.loop.items.items) c.args.count
    c.loop.counter c.loop.rest.0.now (g.T.Readable.shown n) c.parse.new.self.0.now
    (elements_at (g.T.Readable.read_at tt) c.args.count c.args.rest.now.0.now) c.loop-test.true
    (gives _ _ _ _ _ _ c.in_ok-item.ensures) c.loop.invariant)

pub returns : goal.returns
returns g c = is_done (g.T.Readable.read_at tt) (map g.T.Readable.shown c.loop.items.items)
    c.args.count c.loop.counter c.loop.rest.0.now
    (elements_at (g.T.Readable.read_at tt) c.args.count c.args.rest.now.0.now) c.loop-test.false c.loop.invariant

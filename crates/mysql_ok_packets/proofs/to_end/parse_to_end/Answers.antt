use Rattle.std.proofs.Common.{◌≡◌, ◌++◌, ◌∷◌, [], Ok, Err, length, map}
use Rattle.std.proofs.lemmas.Result.{err_from_is_err_and}
use Rattle.std.proofs.lemmas.List.{map_push}
use Rattle.mysql_fields.specs.Laws.{gives}
use Rattle.mysql_ok_packets.specs.Reading.{to_end_at}
use Rattle.mysql_ok_packets.proofs.Elements.{ends, goes_on, is_done, no_bytes, some_bytes}
use Rattle.mysql_ok_packets.proofs.to_end.parse_to_end.Goals as goal

pub returns-in_err-item : goal.returns-in_err-item
returns-in_err-item g c =
    let some = some_bytes (length c.loop-rest.rest.0.now) c.is_empty.result c.is_empty.ensures c.loop-rest-test.true in
    let p = err_from_is_err_and c.from_residual.result c.from_residual.ensures.1 in
    rw (p.1, p.2) (ends (g.T.Readable.read_at tt) c.in_err-item.field-0.0
    (map g.T.Readable.shown c.loop-rest.items.items) c.loop-rest.rest.0.now
    (to_end_at (g.T.Readable.read_at tt) c.args.rest.0.now) some
    (gives g.T.Readable.AsksForMemory g.T.Readable.shown c.loop-rest.rest.0.now
    c.parse.new.self.0.now (Err c.in_err-item.field-0.0)
    (g.T.Readable.read_at tt c.loop-rest.rest.0.now) c.in_err-item.ensures).0
    c.loop-rest.invariant)

pub loop-rest-smaller : goal.loop-rest-smaller
loop-rest-smaller g c = c.requires c.loop-rest.rest.0.now (
  g.T.Readable.shown c.in_ok-item.item,
  c.parse.new.self.0.now,
) (gives g.T.Readable.AsksForMemory g.T.Readable.shown
    c.loop-rest.rest.0.now c.parse.new.self.0.now (Ok c.in_ok-item.item)
    (g.T.Readable.read_at tt c.loop-rest.rest.0.now) c.in_ok-item.ensures)

pub loop-rest-preserved : goal.loop-rest-preserved
loop-rest-preserved g c =
    let some = some_bytes (length c.loop-rest.rest.0.now) c.is_empty.result c.is_empty.ensures c.loop-rest-test.true in
    let n = c.in_ok-item.item in
    let e : map g.T.Readable.shown c.push.new.self.items ≡
    map g.T.Readable.shown c.loop-rest.items.items ++ g.T.Readable.shown n ∷ [] =
    rw c.in_ok-push.ensures.items (map_push _ c.loop-rest.items.items n) in
    rw e (goes_on (g.T.Readable.read_at tt) c.requires
    (map g.T.Readable.shown c.loop-rest.items.items) c.loop-rest.rest.0.now
    (g.T.Readable.shown n) c.parse.new.self.0.now
    (to_end_at (g.T.Readable.read_at tt) c.args.rest.0.now) some
    (gives g.T.Readable.AsksForMemory g.T.Readable.shown c.loop-rest.rest.0.now
    c.parse.new.self.0.now (Ok c.in_ok-item.item)
    (g.T.Readable.read_at tt c.loop-rest.rest.0.now) c.in_ok-item.ensures)
    c.loop-rest.invariant)

pub returns : goal.returns
returns g c =
    let none = no_bytes (length c.loop-rest.rest.0.now) c.is_empty.result c.is_empty.ensures c.loop-rest-test.false in
    is_done (g.T.Readable.read_at tt) (map g.T.Readable.shown c.loop-rest.items.items) c.loop-rest.rest.0.now
    (to_end_at (g.T.Readable.read_at tt) c.args.rest.0.now) none c.loop-rest.invariant

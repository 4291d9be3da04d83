use Rattle.std.proofs.Common.{◌≡◌, ◌∷◌, [], ◌++◌, ◌+◌, length, lit<, sym, arith}
use Rattle.std.proofs.lemmas.Iterator.Consumers.{YieldsList-end, YieldsList-turn}
use Rattle.std.proofs.lemmas.Iterator.Splits.{YieldsList-from_str_split}
use Rattle.std.proofs.lemmas.List.{length_push}
use Rattle.std.proofs.lemmas.Result.{err_from_is_err_and}
use Rattle.mysql_replication.specs.Sids.{fields_of}
use Rattle.mysql_replication.specs.Intervals.{intervals_of}
use Rattle.mysql_replication.proofs.Reading.{refuses, turn_reads, turn_refuses, turns_end}
use Rattle.mysql_replication.proofs.sid.intervals_of.Goals as goal

pub returns-in_err-interval : goal.returns-in_err-interval
returns-in_err-interval c =
    let start = c.into_iter-field-iterator.ensures.into_iter_gives in
    let road = YieldsList-from_str_split {s = c.into_iter-field-iterator.result} 58 c.args.text.now
    (lit< tt) (rw start c.split-field-items.ensures.text)
    (rw start c.split-field-items.ensures.has_more)
    (rw start c.split-field-items.ensures.pattern) in
    let t = YieldsList-turn road c.loop-field.yielded _ c.loop-field.yielded_by _ _ c.in-Some.field
    c.in-Some.is c.next.ensures.steps in
    let p = err_from_is_err_and c.from_residual.result c.from_residual.ensures.1 in
    rw (p.1, p.2) (refuses c.in_err-interval.field-0.0 (intervals_of (fields_of c.args.text.now))
    (turn_refuses (fields_of c.args.text.now) (length c.loop-field.yielded) c.in-Some.field.now
    c.loop-field.intervals.items c.in_err-interval.field-0.0 c.loop-field.invariant t
    (sym c.in_err-interval.ensures)))

pub loop-field-preserved : goal.loop-field-preserved
loop-field-preserved c =
    let start = c.into_iter-field-iterator.ensures.into_iter_gives in
    let road = YieldsList-from_str_split {s = c.into_iter-field-iterator.result} 58 c.args.text.now
    (lit< tt) (rw start c.split-field-items.ensures.text)
    (rw start c.split-field-items.ensures.has_more)
    (rw start c.split-field-items.ensures.pattern) in
    let t = YieldsList-turn road c.loop-field.yielded _ c.loop-field.yielded_by _ _ c.in-Some.field
    c.in-Some.is c.next.ensures.steps in
    let e : length (c.loop-field.yielded ++ c.in-Some.field ∷ []) ≡
    length c.loop-field.yielded + 1 = length_push c.loop-field.yielded c.in-Some.field in
    rw (
      c.in_ok-push.ensures.items,
      e,
    ) (turn_reads (fields_of c.args.text.now) (length c.loop-field.yielded) c.in-Some.field.now
    c.loop-field.intervals.items c.in_ok-interval.interval c.loop-field.invariant t
    (sym c.in_ok-interval.ensures))

pub returns : goal.returns
returns c =
    let start = c.into_iter-field-iterator.ensures.into_iter_gives in
    let road = YieldsList-from_str_split {s = c.into_iter-field-iterator.result} 58 c.args.text.now
    (lit< tt) (rw start c.split-field-items.ensures.text)
    (rw start c.split-field-items.ensures.has_more)
    (rw start c.split-field-items.ensures.pattern) in
    let t = YieldsList-end road c.loop-field.yielded _ c.loop-field.yielded_by _ _ c.in-None.is c.next.ensures.steps in
    turns_end (fields_of c.args.text.now) (length c.loop-field.yielded) c.loop-field.intervals.items
    c.loop-field.invariant (omega (arith, t.1))

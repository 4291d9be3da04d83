use Rattle.std.proofs.Common.{ap, ◌∙◌, length, arith}
use Rattle.std.proofs.lemmas.Result.{err_from_is_err_and}
use Rattle.mysql_handshake_response.specs.Attributes.{all_attributes_at}
use Rattle.mysql_handshake_response.specs.AttributeViews.{attributes_view}
use Rattle.mysql_handshake_response.proofs.AttributeReading.{attribute-shorter, ends, goes_on, is_done, no_bytes}
use Rattle.mysql_handshake_response.proofs.AttributeReading.{put_after, some_bytes}
use Rattle.mysql_handshake_response.proofs.attributes.parse_all.Goals as goal

pub returns-in_err-key : goal.returns-in_err-key
returns-in_err-key c =
    let some = some_bytes (length c.loop-pairs.pairs.0.now) c.is_empty.result c.is_empty.ensures
    c.loop-pairs-test.true in
    let p = err_from_is_err_and c.from_residual.result c.from_residual.ensures.1 in
    rw (p.1, p.2) (ends c.in_err-key.field-0.0 (attributes_view c.loop-pairs.all)
    c.loop-pairs.pairs.0.now (all_attributes_at c.args.pairs.0.now) some
    (λ _. c.in_err-key.ensures) c.loop-pairs.invariant)

pub loop-pairs-smaller : goal.loop-pairs-smaller
loop-pairs-smaller c = let e = attribute-shorter c.loop-pairs.pairs.0.now _ c.in_ok-key.ensures in omega arith

pub loop-pairs-preserved : goal.loop-pairs-preserved
loop-pairs-preserved c =
    let some = some_bytes (length c.loop-pairs.pairs.0.now) c.is_empty.result c.is_empty.ensures
    c.loop-pairs-test.true in
    let next = goes_on (attributes_view c.loop-pairs.all) c.loop-pairs.pairs.0.now _
    c.parse_attribute.new.rest.0.now (all_attributes_at c.args.pairs.0.now) some
    c.in_ok-key.ensures c.loop-pairs.invariant in
    ap (λ all. put_after all (all_attributes_at c.parse_attribute.new.rest.0.now)) c.in_ok-put.ensures ∙ next

pub returns : goal.returns
returns c =
    let none = no_bytes (length c.loop-pairs.pairs.0.now) c.is_empty.result c.is_empty.ensures
    c.loop-pairs-test.false in
    is_done (attributes_view c.loop-pairs.all) c.loop-pairs.pairs.0.now
    (all_attributes_at c.args.pairs.0.now) none c.loop-pairs.invariant

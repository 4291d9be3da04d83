use Rattle.std.proofs.Common.{get_or, take, length, false, ap, ◌∙◌, Ok}
use Rattle.std.proofs.lemmas.List.{take_more, take_all}
use Rattle.mysql_receive.specs.Layout.{Types, types_at}
use Rattle.mysql_receive.proofs.Loops.{types_done, types_go_on, zero_type}
use Rattle.mysql_receive.proofs.layout.skip_kept_types.Goals as goal

pub loop-kind-preserved : goal.loop-kind-preserved
loop-kind-preserved c =
    let kept = c.args.kept.now in
    let i = c.loop-kind.kind-index in
    λ short. rw (take_more kept i zero_type c.loop-kind-test.true)
    (types_go_on (take i kept) short (length kept) i c.loop-kind.rest.now
    (get_or kept i zero_type) c.in_ok-rest.rest.now
    (types_at short (length kept) c.args.bytes.now) c.loop-kind-test.true
    (c.in_ok-rest.ensures short) (c.loop-kind.invariant short))

pub returns : goal.returns
returns c =
    let kept = c.args.kept.now in
    let i = c.loop-kind.kind-index in
    λ short. types_done (take i kept) short (length kept) i c.loop-kind.rest.now
    (types_at short (length kept) c.args.bytes.now) c.loop-kind-test.false
    (c.loop-kind.invariant short)
    ∙ ap (λ (l : Types). Ok (l, c.loop-kind.rest.now)) (take_all i kept c.loop-kind-test.false)

use Rattle.std.proofs.Common.{◌+◌, ◌++◌, [], ◌∷◌, drop, get_or, slice_range, map, sym, ap, ◌∙◌, append_assoc}
use Rattle.std.proofs.lemmas.List.{map-append}
use Rattle.mysql_queries.proofs.PlaceLists.{to_end}
use Rattle.std.specs.Cow.{cow_slice_items}
use Rattle.mysql_queries.specs.Parsed.{names_at}
use Rattle.mysql_queries.proofs.QuerySlices.{Next, next_in_order, no_place}
use Rattle.mysql_queries.proofs.QueryWritten.{name_more, name_skipped}
use Rattle.mysql_queries.proofs.named_params.names_among.Goals as goal
use Rattle.mysql_queries.proofs.named_params.names_among.Goals.{then-place+in_ok-push, else-place}

pub loop-place-preserved : goal.loop-place-preserved
loop-place-preserved c =
    let query = c.args.query.now in
    let places = c.args.places.now in
    let k = c.loop-place.place-index in
    let p = get_or places k no_place in
    let n : Next query c.loop-place.invariant.order.0 p (drop (k + 1) places) =
    next_in_order query c.loop-place.invariant.order.0 places k c.loop-place-test.true
    c.loop-place.invariant.order.1 in
    record {
      order = (p.end, n.rest);
      listed = elim c.if-place.branch [
        | then-place+in_ok-push w ↦ (let pushed = ap (λ v. v.items) w.names-is ∙ w.in_ok-push.ensures.items in
            c.loop-place.invariant.listed ∙
            ap (λ y. map cow_slice_items c.loop-place.names.items ++
            y) (name_more query places k c.loop-place-test.true w.if-place.true)
            ∙ sym (append_assoc (map cow_slice_items c.loop-place.names.items)
            (drop 1 (slice_range query p.start p.end) ∷
            []) (names_at query (drop (k + 1) places)))
            ∙ ap (λ y. y ++ names_at query (drop (k + 1) places))
            (sym (ap (map cow_slice_items) pushed ∙
            map-append cow_slice_items c.loop-place.names.items _
            ∙ ap (λ y. map cow_slice_items c.loop-place.names.items ++ y ∷
            []) (to_end (slice_range query p.start p.end) 1))))
        | else-place w ↦ (c.loop-place.invariant.listed ∙
            ap (λ y. map cow_slice_items c.loop-place.names.items ++
            y) (name_skipped query places k c.loop-place-test.true w.if-place.false)
            ∙ ap (λ y. map cow_slice_items y ++ names_at query (drop (k + 1) places))
            (sym (ap (λ v. v.items) w.names-is)))
      ];
    }

use Rattle.std.proofs.Common.{◌+◌, ◌++◌, [], ◌∷◌, drop, get_or, slice_range, sym, ap, ◌∙◌, append_assoc}
use Rattle.mysql_queries.specs.Tokens.{question}
use Rattle.mysql_queries.proofs.QuerySlices.{Next, next_in_order, no_place}
use Rattle.mysql_queries.proofs.QueryWritten.{marked, marked_more}
use Rattle.mysql_queries.proofs.named_params.with_marks.Goals as goal

pub loop-place-preserved : goal.loop-place-preserved
loop-place-preserved c =
    let query = c.args.query.now in
    let places = c.args.places.now in
    let k = c.loop-place.place-index in
    let p = get_or places k no_place in
    let n : Next query c.loop-place.at p (drop (k + 1) places) =
    next_in_order query c.loop-place.at places k c.loop-place-test.true
    c.loop-place.invariant.order in
    let pushed = c.in_ok-push.ensures.items ∙ ap (λ y. y ++ question ∷ []) c.in_ok-extend_from_slice.ensures.items in
    record {
      order = n.rest;
      in_range = n.in_range;
      written = c.loop-place.invariant.written ∙
          ap (λ y. c.loop-place.parsed.items ++
          y) (marked_more query c.loop-place.at places k c.loop-place-test.true)
          ∙ sym (append_assoc c.loop-place.parsed.items (slice_range query c.loop-place.at p.start)
          (question ∷ marked query p.end (drop (k + 1) places)))
          ∙ sym (append_assoc (c.loop-place.parsed.items ++
          slice_range query c.loop-place.at p.start) (question ∷
          []) (marked query p.end (drop (k + 1) places)))
          ∙ ap (λ y. y ++ marked query p.end (drop (k + 1) places)) (sym pushed);
    }

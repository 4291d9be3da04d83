use Rattle.std.proofs.Common.{◌+◌, ◌++◌, drop, get_or, slice_range, sym, ap, ◌∙◌, subst}
use Rattle.mysql_queries.specs.Queries.{Slices}
use Rattle.mysql_queries.specs.Sql.{read_by}
use Rattle.std.specs.Cmp.Lexicographic.{same_text, other_text}
use Rattle.mysql_queries.proofs.PlaceLists.{to_end}
use Rattle.mysql_queries.proofs.QuerySlices.{next_place, no_place, no_places_left}
use Rattle.mysql_queries.proofs.TextReading.{ReadTo, read_none, read_more, no_piece, no_literal, last_piece}
use Rattle.mysql_queries.proofs.TextReading.{no_last_piece, sliced, unsliced, lexed_too, piece_found, piece_missing}
use Rattle.mysql_queries.proofs.texts.read_text_in.Goals as goal

pub loop-place-init : goal.loop-place-init
loop-place-init c = subst
    (λ y. ReadTo c.args.mode c.args.spelling c.args.query.now c.args.places.now c.args.text.now 0
    c.args.places.now y c.args.text.now) (sym c.new-contents.ensures.items)
    (read_none (read_by c.args.mode c.args.spelling c.args.query.now) c.args.places.now
    c.args.text.now c.requires.places c.requires.alone)

pub returns-in_default : goal.returns-in_default
returns-in_default c contents h =
    no_piece c.args.mode c.args.spelling c.args.query.now c.args.places.now c.args.text.now
    c.loop-place.at (get_or c.args.places.now c.loop-place.place-index no_place)
    (drop (c.loop-place.place-index + 1) c.args.places.now) c.loop-place.contents.items
    c.loop-place.rest.now
    (subst (λ y. ReadTo c.args.mode c.args.spelling c.args.query.now c.args.places.now
    c.args.text.now c.loop-place.at y c.loop-place.contents.items c.loop-place.rest.now)
    (next_place c.args.places.now c.loop-place.place-index c.loop-place-test.true)
    c.loop-place.invariant)
    (piece_missing c.loop-place.rest.now
    (slice_range c.args.query.now c.loop-place.at
    (get_or c.args.places.now c.loop-place.place-index no_place).start)
    c.in_default.ensures.cases)
    contents (unsliced (read_by c.args.mode c.args.spelling c.args.query.now) c.args.text.now
    c.args.places.now contents c.requires.places h)

pub returns-in_default-2 : goal.returns-in_default-2
returns-in_default-2 c contents h =
    let piece = slice_range c.args.query.now c.loop-place.at
    (get_or c.args.places.now c.loop-place.place-index no_place).start in
    let none = rw c.in_default-2.is at c.in_ok-content.ensures.none in
    no_literal c.args.mode c.args.spelling c.args.query.now c.args.places.now c.args.text.now
    c.loop-place.at (get_or c.args.places.now c.loop-place.place-index no_place)
    (drop (c.loop-place.place-index + 1) c.args.places.now) c.loop-place.contents.items
    c.loop-place.rest.now c.in-Some.behind.now
    (subst (λ y. ReadTo c.args.mode c.args.spelling c.args.query.now c.args.places.now
    c.args.text.now c.loop-place.at y c.loop-place.contents.items c.loop-place.rest.now)
    (next_place c.args.places.now c.loop-place.place-index c.loop-place-test.true)
    c.loop-place.invariant)
    (piece_found c.loop-place.rest.now piece c.in-Some.behind.now c.in-Some.ensures.cases.0 c.in-Some.ensures.cases.1)
    none contents (unsliced (read_by c.args.mode c.args.spelling c.args.query.now) c.args.text.now
    c.args.places.now contents c.requires.places h)

pub loop-place-preserved : goal.loop-place-preserved
loop-place-preserved c =
    let query = c.args.query.now in
    let places = c.args.places.now in
    let p = get_or places c.loop-place.place-index no_place in
    let piece = slice_range query c.loop-place.at p.start in
    let found = rw c.in-Some-2.is at c.in_ok-content.ensures.found in
    let before = piece_found c.loop-place.rest.now piece c.in-Some.behind.now
    c.in-Some.ensures.cases.0 c.in-Some.ensures.cases.1 in
    subst (λ y. ReadTo c.args.mode c.args.spelling query places c.args.text.now p.end
    (drop (c.loop-place.place-index + 1) places) y c.in-Some-2.after.now)
    (sym c.in_ok-push.ensures.items)
    (read_more c.args.mode c.args.spelling query places c.args.text.now c.loop-place.at p
    (drop (c.loop-place.place-index + 1) places) c.loop-place.contents.items
    c.loop-place.rest.now found.0 c.in-Some-2.after.now c.in-Some-2.content
    (subst (λ y. ReadTo c.args.mode c.args.spelling query places c.args.text.now c.loop-place.at y
    c.loop-place.contents.items c.loop-place.rest.now)
    (next_place places c.loop-place.place-index c.loop-place-test.true) c.loop-place.invariant)
    (before ∙ ap (λ y. piece ++ y) found.1) found.2 found.3)

end_read : (c : goal.Then-eq) →
    Slices (read_by c.args.mode c.args.spelling c.args.query.now) c.args.text.now
    c.loop-place.contents.items
end_read c =
    let query = c.args.query.now in
    let places = c.args.places.now in
    let last = same_text c.loop-place.rest.now _ c.if-eq.ensures ∙ to_end query c.loop-place.at in
    sliced (read_by c.args.mode c.args.spelling query) c.args.text.now places
    c.loop-place.contents.items c.requires.places
    (last_piece c.args.mode c.args.spelling query places c.args.text.now c.loop-place.at
    c.loop-place.contents.items c.loop-place.rest.now
    (subst (λ y. ReadTo c.args.mode c.args.spelling query places c.args.text.now c.loop-place.at y
    c.loop-place.contents.items c.loop-place.rest.now)
    (no_places_left places c.loop-place.place-index c.loop-place-test.false)
    c.loop-place.invariant) last)

pub returns-then-eq : goal.returns-then-eq
returns-then-eq c = (
  end_read c,
  lexed_too (read_by c.args.mode c.args.spelling c.args.query.now) c.args.text.now
      c.args.places.now c.loop-place.contents.items c.requires.places c.requires.alone (end_read c),
)

pub returns-else-eq : goal.returns-else-eq
returns-else-eq c contents h =
    let query = c.args.query.now in
    let places = c.args.places.now in
    no_last_piece c.args.mode c.args.spelling query places c.args.text.now c.loop-place.at
    c.loop-place.contents.items c.loop-place.rest.now
    (subst (λ y. ReadTo c.args.mode c.args.spelling query places c.args.text.now c.loop-place.at y
    c.loop-place.contents.items c.loop-place.rest.now)
    (no_places_left places c.loop-place.place-index c.loop-place-test.false)
    c.loop-place.invariant)
    (λ e. other_text c.loop-place.rest.now _ c.if-eq.ensures (e ∙ sym (to_end query c.loop-place.at)))
    contents (unsliced (read_by c.args.mode c.args.spelling query) c.args.text.now places contents c.requires.places h)

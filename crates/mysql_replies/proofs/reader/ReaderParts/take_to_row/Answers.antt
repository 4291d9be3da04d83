use Rattle.std.proofs.Common.{rules, arith, ◌≡◌, ◌<◌, ◌≤◌, ◌++◌, [], length, Some, Err, refl, ap, sym, subst, ◌∙◌}
use Rattle.std.proofs.lemmas.List.{nil_from_length}
use Rattle.mysql_wire.specs.Incoming.{codec_by}
use Rattle.mysql_replies.specs.declared.fault.ReplyFault.TheVariants as faults
use Rattle.mysql_replies.specs.declared.borrowing.Place.TheVariants as places
use Rattle.mysql_replies.specs.declared.state.ReplyState.{ReplyState}
use Rattle.mysql_replies.specs.Holding.{ReaderGoesOn}
use Rattle.mysql_replies.specs.RowSteps.{StateBorrowsNext, StateBorrows}
use Rattle.mysql_replies.specs.States.{reader_state_of, reader_state, NumberedStateGoesOn, UnlessMemory, fault_named}
use Rattle.mysql_replies.proofs.RowSteps.{borrow_failed, borrow_short, borrowed_behind, paused_behind}
use Rattle.mysql_replies.proofs.Receiving.{taking_starts, paused_empty, not_empty, elsewhere, piece_bytes}
use Rattle.mysql_replies.proofs.Receiving.{piece_goes_on, piece_runs_short, goes_on_over, taking_next, refused_goes_on}
use Rattle.mysql_replies.proofs.Receiving.{failed_short, over_taken, waits_taken}
use Rattle.mysql_replies.proofs.reader.ReaderParts.take_to_row.Goals as goal

pub packets-init : goal.packets-init
packets-init c =
    let laws = c.framing_laws.ensures in
    let start = c.args.self.now.state in
    let old = c.args.self.now.packets in
    let piece = c.args.rest.now.now in
    let fed = old.bytes ++ piece in
    record {
      taking = taking_starts start (codec_by old) fed [] c.requires.reading c.requires.going
          c.requires.paused.refused c.requires.paused.can_go_on
          (piece_bytes laws (codec_by old) old.bytes fed [] piece refl c.requires.paused.bytes
          c.are_bytes.ensures.bytes) c.requires.paused.nothing_begun;
      over = paused_empty laws start (codec_by old) old.bytes [] c.requires.paused;
      keeps_none = refl;
      shorter = omega arith;
    }

pub returns-then-is_empty-clause-paused : goal.returns-then-is_empty-clause-paused
returns-then-is_empty-clause-paused c =
    let t = c.packets.invariant.taking in
    let over = c.is_over.ensures.over c.if-is_over.true in
    let used : c.packets.rest.now ≡ [] = nil_from_length c.packets.rest.now (search rules) in
    let taken = over_taken c.framing_laws.ensures c.args.self.now.state c.packets.self.state
    c.args.self.now.packets c.packets.self.packets c.args.rest.now.now c.packets.rest.now t
    c.requires.going over (c.packets.invariant.over over) used in
    (t.going, taken.0)

pub returns-then-is_empty-clause-found : goal.returns-then-is_empty-clause-found
returns-then-is_empty-clause-found c =
    let t = c.packets.invariant.taking in
    let over = c.is_over.ensures.over c.if-is_over.true in
    let used : c.packets.rest.now ≡ [] = nil_from_length c.packets.rest.now (search rules) in
    let taken = over_taken c.framing_laws.ensures c.args.self.now.state c.packets.self.state
    c.args.self.now.packets c.packets.self.packets c.args.rest.now.now c.packets.rest.now t
    c.requires.going over (c.packets.invariant.over over) used in
    (used, taken.1, taken.2)

pub returns-then-is_over-clause-goes_on : goal.returns-then-is_over-clause-goes_on
returns-then-is_over-clause-goes_on c =
    let laws = c.framing_laws.ensures in
    let start = c.args.self.now.state in
    let old = c.args.self.now.packets in
    let piece = c.args.rest.now.now in
    let fed = old.bytes ++ piece in
    let s = c.packets.self.state in
    let now = c.packets.self.packets in
    let src = now.bytes ++ c.packets.rest.now in
    let t = c.packets.invariant.taking in
    let over = c.is_over.ensures.over c.if-is_over.true in
    let begun = t.nothing_begun over in
    let kept = c.packets.invariant.over over in
    let some : src ≡ [] → ⊥ =
    λ none. not_empty c.packets.rest.now c.is_empty.result c.is_empty.ensures
    c.if-is_empty.false (ap (λ l. l ++ c.packets.rest.now) (sym kept) ∙ none) in
    let after = c.fail.new.self in
    subst (λ f. UnlessMemory {X =
    Unit {0}} (Err f) (ReaderGoesOn (reader_state start old) piece (reader_state after now)))
    (sym c.fail.ensures.same)
    (piece_goes_on laws start (codec_by old) old.bytes fed [] piece (reader_state after now)
    (Err faults.AfterEnd) c.requires.going refl
    (elsewhere (reader_state_of start (codec_by old) fed []) after
    (reader_state_of after (codec_by now) src []) (reader_state after now) (Err faults.AfterEnd)
    refl (ap (λ (s : ReplyState). s.fault) c.fail.ensures.state) refl refl
    (goes_on_over laws start s after (codec_by old) (codec_by now) fed [] src [] t.payloads
    t.received c.requires.going t.going c.fail.ensures.state over begun.0 begun.1 begun.2
    t.bytes some)))

pub returns-in-Ok-true-clause-paused : goal.returns-in-Ok-true-clause-paused
returns-in-Ok-true-clause-paused c =
    let now = c.packets.self.packets in
    let new = c.read_in_place.new.self in (
      c.in-Ok-true.ensures.ok.0,
      paused_behind c.framing_laws.ensures c.borrow.new.self now new (now.bytes ++
          c.packets.rest.now) (new.bytes ++ c.read_in_place.new.piece.now) c.in-Some.payload.now
          c.in-Some.ensures.found c.in-Some.ensures.between.0,
    )

pub returns-in-Ok-true-clause-found : goal.returns-in-Ok-true-clause-found
returns-in-Ok-true-clause-found c =
    let s = c.packets.self.state in
    let next = c.borrow.new.self in
    let payload = c.in-Some.payload.now in
    let ok = c.in-Ok-true.ensures.ok in
    let step : StateBorrows s payload next = rw c.in-Ok-true.field-0-test at c.in-Ok-true.ensures.step in
    let fits : length c.read_in_place.new.piece.now ≤ length c.args.rest.now.now =
    omega (arith, c.in-Some.ensures.between.2, c.packets.invariant.shorter) in
    borrowed_behind c.framing_laws.ensures c.args.self.now.state s next c.args.self.now.packets
    c.packets.self.packets c.read_in_place.new.self c.args.rest.now.now c.packets.rest.now
    c.read_in_place.new.piece.now payload (places.InPiece c.in-Some.payload)
    c.packets.invariant.taking c.requires.going c.in-Some.ensures.found c.in-Some.ensures.between.0
    fits ok.0 ok.1 step refl

pub packets-preserved-in-Ok-false : goal.packets-preserved-in-Ok-false
packets-preserved-in-Ok-false c =
    let start = c.args.self.now.state in
    let old = c.args.self.now.packets in
    let fed = old.bytes ++ c.args.rest.now.now in
    let s = c.packets.self.state in
    let now = c.packets.self.packets in
    let src = now.bytes ++ c.packets.rest.now in
    let new = c.read_in_place.new.self in
    let next = c.borrow.new.self in
    let payload = c.in-Some.payload.now in
    let ok = c.in-Ok-false.ensures.ok in
    let step : NumberedStateGoesOn s payload next = rw c.in-Ok-false.field-0-test at c.in-Ok-false.ensures.step in
    let none : new.bytes ≡ [] = c.in-Some.ensures.between.0 in
    record {
      taking = taking_next c.framing_laws.ensures start s next (codec_by old) (codec_by now)
          (codec_by new) fed [] src [] (new.bytes ++ c.read_in_place.new.piece.now) [] payload
          c.packets.invariant.taking c.in-Some.ensures.found refl c.in-Ok-false.ensures.reading ok.0
          ok.1 step;
      over = λ _. none;
      keeps_none = c.in-Ok-false.ensures.keeps_none ∙ c.packets.invariant.keeps_none;
      shorter = omega (arith, c.in-Some.ensures.between.2, c.packets.invariant.shorter);
    }

pub returns-in-Err-clause-goes_on : goal.returns-in-Err-clause-goes_on
returns-in-Err-clause-goes_on c =
    borrow_failed c.framing_laws.ensures c.args.self.now.state c.packets.self.state
    c.borrow.new.self c.args.self.now.packets c.packets.self.packets c.read_in_place.new.self
    c.args.rest.now.now c.packets.rest.now c.read_in_place.new.piece.now c.in-Some.payload.now
    c.in-Err.fault
    c.packets.invariant.taking c.requires.going c.in-Some.ensures.found c.in-Err.ensures.fault c.in-Err.ensures.step

pub returns-in-Err-clause-short : goal.returns-in-Err-clause-short
returns-in-Err-clause-short c =
    borrow_short c.framing_laws.ensures c.args.self.now.state c.packets.self.state c.borrow.new.self
    c.args.self.now.packets c.packets.self.packets c.read_in_place.new.self c.args.rest.now.now
    c.packets.rest.now c.in-Some.payload.now c.in-Err.fault
    c.packets.invariant.taking c.requires.going (c.is_over.ensures.awaiting c.if-is_over.false) c.in-Err.ensures.step

pub returns-in-Ok-true-borrow-clause-paused : goal.returns-in-Ok-true-borrow-clause-paused
returns-in-Ok-true-borrow-clause-paused c =
    let now = c.packets.self.packets in
    let new = c.advance.new.self in
    let left : (c.read_in_place.new.self ≡ c.packets.self.packets) ×
    (c.read_in_place.new.piece ≡ c.packets.rest) = search rules in
    let h = rw (left.0, left.1) at (rw c.in-Ok-true-advance.field-0-test at c.in-Ok-true-advance.ensures.ok) in
    let none : new.bytes ≡ [] = search rules in (
      c.in-Ok-true-borrow.ensures.ok.0,
      paused_behind c.framing_laws.ensures c.borrow-in-Ok-true-advance.new.self now new
          (now.bytes ++ c.packets.rest.now) (new.bytes ++ c.advance.new.piece.now) new.payload h none,
    )

pub returns-in-Ok-true-borrow-clause-found : goal.returns-in-Ok-true-borrow-clause-found
returns-in-Ok-true-borrow-clause-found c =
    let s = c.packets.self.state in
    let new = c.advance.new.self in
    let next = c.borrow-in-Ok-true-advance.new.self in
    let left : (c.read_in_place.new.self ≡ c.packets.self.packets) ×
    (c.read_in_place.new.piece ≡ c.packets.rest) = search rules in
    let h = rw (left.0, left.1) at (rw c.in-Ok-true-advance.field-0-test at c.in-Ok-true-advance.ensures.ok) in
    let none : new.bytes ≡ [] = search rules in
    let less : length c.advance.new.piece.now < length c.read_in_place.new.piece.now = search rules in
    let fewer : length c.advance.new.piece.now < length c.packets.rest.now = rw left.1 at less in
    let fits : length c.advance.new.piece.now ≤ length c.args.rest.now.now =
    omega (arith, fewer, c.packets.invariant.shorter) in
    let ok = c.in-Ok-true-borrow.ensures.ok in
    let step : StateBorrows s c.payload.result.now next =
    rw c.in-Ok-true-borrow.field-0-test at c.in-Ok-true-borrow.ensures.step in
    borrowed_behind c.framing_laws.ensures c.args.self.now.state s next c.args.self.now.packets
    c.packets.self.packets new c.args.rest.now.now c.packets.rest.now c.advance.new.piece.now
    new.payload places.InBuffer
    c.packets.invariant.taking c.requires.going h none fits ok.0 ok.1
    (subst (λ p. StateBorrows s p next) c.payload.ensures step) refl

pub packets-preserved : goal.packets-preserved
packets-preserved c =
    let start = c.args.self.now.state in
    let old = c.args.self.now.packets in
    let fed = old.bytes ++ c.args.rest.now.now in
    let s = c.packets.self.state in
    let now = c.packets.self.packets in
    let src = now.bytes ++ c.packets.rest.now in
    let new = c.advance.new.self in
    let next = c.borrow-in-Ok-true-advance.new.self in
    let left : (c.read_in_place.new.self ≡ c.packets.self.packets) ×
    (c.read_in_place.new.piece ≡ c.packets.rest) = search rules in
    let h = rw (left.0, left.1) at (rw c.in-Ok-true-advance.field-0-test at c.in-Ok-true-advance.ensures.ok) in
    let none : new.bytes ≡ [] = search rules in
    let less : length c.advance.new.piece.now < length c.read_in_place.new.piece.now = search rules in
    let fewer : length c.advance.new.piece.now < length c.packets.rest.now = rw left.1 at less in
    let ok = c.in-Ok-false-borrow.ensures.ok in
    let step : NumberedStateGoesOn s c.payload.result.now next =
    rw c.in-Ok-false-borrow.field-0-test at c.in-Ok-false-borrow.ensures.step in
    record {
      taking = taking_next c.framing_laws.ensures start s next (codec_by old) (codec_by now)
          (codec_by new) fed [] src [] (new.bytes ++ c.advance.new.piece.now) [] new.payload
          c.packets.invariant.taking h refl c.in-Ok-false-borrow.ensures.reading ok.0 ok.1
          (subst (λ p. NumberedStateGoesOn s p next) c.payload.ensures step);
      over = λ _. none;
      keeps_none = c.in-Ok-false-borrow.ensures.keeps_none ∙ c.packets.invariant.keeps_none;
      shorter = omega (arith, fewer, c.packets.invariant.shorter);
    }

pub returns-in-Err-borrow-clause-goes_on : goal.returns-in-Err-borrow-clause-goes_on
returns-in-Err-borrow-clause-goes_on c =
    let s = c.packets.self.state in
    let new = c.advance.new.self in
    let next = c.borrow-in-Ok-true-advance.new.self in
    let left : (c.read_in_place.new.self ≡ c.packets.self.packets) ×
    (c.read_in_place.new.piece ≡ c.packets.rest) = search rules in
    let h = rw (left.0, left.1) at (rw c.in-Ok-true-advance.field-0-test at c.in-Ok-true-advance.ensures.ok) in
    borrow_failed c.framing_laws.ensures c.args.self.now.state s next c.args.self.now.packets
    c.packets.self.packets new c.args.rest.now.now c.packets.rest.now c.advance.new.piece.now
    new.payload c.in-Err-borrow.fault
    c.packets.invariant.taking c.requires.going h c.in-Err-borrow.ensures.fault
    (subst (λ p. StateBorrowsNext s p (Err c.in-Err-borrow.fault) next) c.payload.ensures
    c.in-Err-borrow.ensures.step)

pub returns-in-Err-borrow-clause-short : goal.returns-in-Err-borrow-clause-short
returns-in-Err-borrow-clause-short c =
    borrow_short c.framing_laws.ensures c.args.self.now.state c.packets.self.state
    c.borrow-in-Ok-true-advance.new.self c.args.self.now.packets c.packets.self.packets
    c.advance.new.self c.args.rest.now.now c.packets.rest.now c.payload.result.now
    c.in-Err-borrow.fault
    c.packets.invariant.taking c.requires.going (c.is_over.ensures.awaiting c.if-is_over.false)
    c.in-Err-borrow.ensures.step

pub returns-in-Ok-false-advance-clause-found : goal.returns-in-Ok-false-advance-clause-found
returns-in-Ok-false-advance-clause-found c =
    let t = c.packets.invariant.taking in
    let new = c.advance.new.self in
    let left : (c.read_in_place.new.self ≡ c.packets.self.packets) ×
    (c.read_in_place.new.piece ≡ c.packets.rest) = search rules in
    let w = rw (left.0, left.1) at (rw c.in-Ok-false-advance.field-0-test at c.in-Ok-false-advance.ensures.ok) in
    let used : c.advance.new.piece.now ≡ [] = search rules in
    let none : new.payload ≡ [] = search rules in
    let taken = waits_taken c.framing_laws.ensures c.args.self.now.state c.packets.self.state
    c.args.self.now.packets c.packets.self.packets new c.args.rest.now.now c.packets.rest.now
    c.advance.new.piece.now t c.requires.going (c.is_over.ensures.awaiting c.if-is_over.false) w
    used none in
    (used, taken.1, taken.2)

pub returns-in-Ok-false-advance-clause-paused : goal.returns-in-Ok-false-advance-clause-paused
returns-in-Ok-false-advance-clause-paused c =
    let t = c.packets.invariant.taking in
    let new = c.advance.new.self in
    let left : (c.read_in_place.new.self ≡ c.packets.self.packets) ×
    (c.read_in_place.new.piece ≡ c.packets.rest) = search rules in
    let w = rw (left.0, left.1) at (rw c.in-Ok-false-advance.field-0-test at c.in-Ok-false-advance.ensures.ok) in
    let used : c.advance.new.piece.now ≡ [] = search rules in
    let none : new.payload ≡ [] = search rules in
    let taken = waits_taken c.framing_laws.ensures c.args.self.now.state c.packets.self.state
    c.args.self.now.packets c.packets.self.packets new c.args.rest.now.now c.packets.rest.now
    c.advance.new.piece.now t c.requires.going (c.is_over.ensures.awaiting c.if-is_over.false) w
    used none in
    (t.going, taken.0)

pub returns-in-Err-advance-clause-goes_on : goal.returns-in-Err-advance-clause-goes_on
returns-in-Err-advance-clause-goes_on c =
    let laws = c.framing_laws.ensures in
    let start = c.args.self.now.state in
    let old = c.args.self.now.packets in
    let piece = c.args.rest.now.now in
    let fed = old.bytes ++ piece in
    let s = c.packets.self.state in
    let now = c.packets.self.packets in
    let src = now.bytes ++ c.packets.rest.now in
    let t = c.packets.invariant.taking in
    let new = c.advance.new.self in
    let left : (c.read_in_place.new.self ≡ c.packets.self.packets) ×
    (c.read_in_place.new.piece ≡ c.packets.rest) = search rules in
    let w = rw (left.0, left.1) at c.in-Err-advance.ensures.refused in
    let named = c.fail-in-Err-advance.ensures.same ∙ c.fault_from.ensures ∙ ap fault_named w.answered in
    let is = c.fail-in-Err-advance.ensures.state ∙
    ap (λ f. record s { fault = Some f }) (sym c.fail-in-Err-advance.ensures.same) in
    let after = c.fail-in-Err-advance.new.self in
    piece_goes_on laws start (codec_by old) old.bytes fed [] piece (reader_state after new)
    (Err c.fail-in-Err-advance.result) c.requires.going refl
    (refused_goes_on laws start s after (codec_by old) (codec_by now) (codec_by new) fed [] src []
    new.bytes [] w.refusal c.fail-in-Err-advance.result t c.requires.going
    (c.is_over.ensures.awaiting c.if-is_over.false) named is (w.due t.received.read.refused))

pub returns-in-Err-advance-clause-short : goal.returns-in-Err-advance-clause-short
returns-in-Err-advance-clause-short c =
    let laws = c.framing_laws.ensures in
    let start = c.args.self.now.state in
    let old = c.args.self.now.packets in
    let piece = c.args.rest.now.now in
    let fed = old.bytes ++ piece in
    let s = c.packets.self.state in
    let now = c.packets.self.packets in
    let src = now.bytes ++ c.packets.rest.now in
    let t = c.packets.invariant.taking in
    let new = c.advance.new.self in
    let is = c.fail-in-Err-advance.ensures.state ∙
    ap (λ f. record s { fault = Some f }) (sym c.fail-in-Err-advance.ensures.same) in
    let after = c.fail-in-Err-advance.new.self in
    piece_runs_short laws start (codec_by old) old.bytes [] piece (Err c.fail-in-Err-advance.result)
    (reader_state after new)
    (failed_short start s after (codec_by old) (codec_by now) (codec_by new) fed [] src [] new.bytes
    [] c.fail-in-Err-advance.result t c.requires.going
    (c.is_over.ensures.awaiting c.if-is_over.false) is)

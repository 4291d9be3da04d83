use Rattle.std.proofs.Common.{rules, arith, ◌≡◌, ◌<◌, ◌++◌, [], length, Some, Err, refl, ap, sym, subst, ◌∙◌, true}
use Rattle.std.proofs.Common.{false}
use Rattle.std.specs.Prelude.{is_err}
use Rattle.std.proofs.lemmas.List.{nil_from_length}
use Rattle.mysql_wire.specs.Incoming.{codec_by}
use Rattle.mysql_replies.specs.declared.fault.ReplyFault.TheVariants as faults
use Rattle.mysql_replies.specs.declared.state.ReplyState.{ReplyState}
use Rattle.mysql_replies.specs.Holding.{ReaderGoesOn, StandsShort}
use Rattle.mysql_replies.specs.States.{reader_state_of, reader_state, NumberedStateGoesOn, OnMemory, UnlessMemory}
use Rattle.mysql_replies.specs.States.{fault_named}
use Rattle.mysql_replies.proofs.Receiving.{taking_starts, paused_empty, not_empty, elsewhere, piece_bytes}
use Rattle.mysql_replies.proofs.Receiving.{piece_goes_on, piece_runs_short, goes_on_over, taken_goes_on, taken_short}
use Rattle.mysql_replies.proofs.Receiving.{taking_next, no_ok, reading_faulty, taken_ok, taken_unless, refused_goes_on}
use Rattle.mysql_replies.proofs.Receiving.{failed_short, over_taken, waits_taken}
use Rattle.mysql_replies.proofs.reader.take_payloads.Goals as goal

pub packets-init : goal.packets-init
packets-init c =
    let laws = c.framing_laws.ensures in
    let start = c.args.state.now in
    let old = c.args.packets.now in
    let piece = c.args.piece.now in
    let fed = old.bytes ++ piece in
    record {
      taking = taking_starts start (codec_by old) fed [] c.requires.reading c.requires.going
          c.requires.paused.refused c.requires.paused.can_go_on
          (piece_bytes laws (codec_by old) old.bytes fed [] piece refl c.requires.paused.bytes
          (λ i. omega (arith, c.type_inv.piece i))) c.requires.paused.nothing_begun;
      over = paused_empty laws start (codec_by old) old.bytes [] c.requires.paused;
    }

pub packets-smaller : goal.packets-smaller
packets-smaller c =
    let left : (c.read_in_place.new.self ≡ c.packets.packets) ×
    (c.read_in_place.new.piece ≡ c.packets.rest) = search rules in
    let less : length c.advance.new.piece.now < length c.read_in_place.new.piece.now = search rules in
    rw left.1 at less

pub packets-preserved : goal.packets-preserved
packets-preserved c =
    let laws = c.framing_laws.ensures in
    let start = c.args.state.now in
    let old = c.args.packets.now in
    let piece = c.args.piece.now in
    let fed = old.bytes ++ piece in
    let s = c.packets.state in
    let now = c.packets.packets in
    let src = now.bytes ++ c.packets.rest.now in
    let t = c.packets.invariant.taking in
    let new = c.advance.new.self in
    let left : (c.read_in_place.new.self ≡ c.packets.packets) ×
    (c.read_in_place.new.piece ≡ c.packets.rest) = search rules in
    let h = rw (left.0, left.1) at (rw c.in-Ok-true.field-0-test at c.in-Ok-true.ensures.ok) in
    let goes = subst (λ p. UnlessMemory c.take-taken.result
    (NumberedStateGoesOn s p c.take-taken.new.self)) c.payload.ensures
    c.take-taken.ensures.goes_on in
    let passed : is_err c.take-taken.result ≡ false = sym c.is_err-in-Ok-true.ensures.value ∙ c.if-is_err-2.false in
    let ok = taken_ok c.take-taken.result passed c.take-taken.ensures.ok in
    let none : new.bytes ≡ [] = search rules in
    record {
      taking = taking_next laws start s c.take-taken.new.self (codec_by old) (codec_by now)
          (codec_by new) fed [] src [] (new.bytes ++ c.advance.new.piece.now) [] new.payload t h
          refl c.take-taken.ensures.reading ok.0 ok.1
          (taken_unless c.take-taken.result passed goes);
      over = λ _. none;
    }

pub returns-then-is_empty : goal.returns-then-is_empty
returns-then-is_empty c =
    let t = c.packets.invariant.taking in
    let over = c.is_over.ensures.over c.if-is_over.true in
    let used : c.packets.rest.now ≡ [] = nil_from_length c.packets.rest.now (search rules) in
    let taken = over_taken c.framing_laws.ensures c.args.state.now c.packets.state
    c.args.packets.now c.packets.packets c.args.piece.now c.packets.rest.now t c.requires.going
    over (c.packets.invariant.over over) used in
    record {
      reading = t.reading;
      paused = (t.going, taken.0);
      fault = tt;
      took = taken.1;
      goes_on =
          taken.2;
      short = tt;
    }

pub returns-then-is_over : goal.returns-then-is_over
returns-then-is_over c =
    let laws = c.framing_laws.ensures in
    let start = c.args.state.now in
    let old = c.args.packets.now in
    let piece = c.args.piece.now in
    let fed = old.bytes ++ piece in
    let s = c.packets.state in
    let now = c.packets.packets in
    let src = now.bytes ++ c.packets.rest.now in
    let t = c.packets.invariant.taking in
    let over = c.is_over.ensures.over c.if-is_over.true in
    let begun = t.nothing_begun over in
    let kept = c.packets.invariant.over over in
    let some : src ≡ [] → ⊥ =
    λ none. not_empty c.packets.rest.now c.is_empty.result c.is_empty.ensures
    c.if-is_empty.false (ap (λ l. l ++ c.packets.rest.now) (sym kept) ∙ none) in
    let after = c.fail.new.self in
    record {
      reading = reading_faulty s after faults.AfterEnd c.fail.ensures.state t.reading;
      paused = tt;
      fault = ap (λ (x : ReplyState). x.fault) c.fail.ensures.state ∙ ap Some (sym c.fail.ensures.same);
      took = tt;
      goes_on =
          subst (λ f. UnlessMemory {X = Unit {0}} (Err f)
          (ReaderGoesOn (reader_state start old) piece (reader_state after now)))
          (sym c.fail.ensures.same)
          (piece_goes_on laws start (codec_by old) old.bytes fed [] piece (reader_state after now)
          (Err faults.AfterEnd) c.requires.going refl
          (elsewhere (reader_state_of start (codec_by old) fed []) after
          (reader_state_of after (codec_by now) src []) (reader_state after now)
          (Err faults.AfterEnd) refl (ap (λ (s : ReplyState). s.fault) c.fail.ensures.state)
          refl refl
          (goes_on_over laws start s after (codec_by old) (codec_by now) fed [] src [] t.payloads
          t.received c.requires.going t.going c.fail.ensures.state over begun.0 begun.1 begun.2
          t.bytes some)));
      short = subst (λ f. OnMemory {X = Unit {0}} (Err f)
          (StandsShort (reader_state start old) ((reader_state start old).bytes ++
          piece) (reader_state after now))) (sym c.fail.ensures.same) tt;
    }

pub returns-then-is_err-2 : goal.returns-then-is_err-2
returns-then-is_err-2 c =
    let laws = c.framing_laws.ensures in
    let start = c.args.state.now in
    let old = c.args.packets.now in
    let piece = c.args.piece.now in
    let fed = old.bytes ++ piece in
    let s = c.packets.state in
    let now = c.packets.packets in
    let src = now.bytes ++ c.packets.rest.now in
    let t = c.packets.invariant.taking in
    let new = c.advance.new.self in
    let left : (c.read_in_place.new.self ≡ c.packets.packets) ×
    (c.read_in_place.new.piece ≡ c.packets.rest) = search rules in
    let h = rw (left.0, left.1) at (rw c.in-Ok-true.field-0-test at c.in-Ok-true.ensures.ok) in
    let goes = subst (λ p. UnlessMemory c.take-taken.result
    (NumberedStateGoesOn s p c.take-taken.new.self)) c.payload.ensures
    c.take-taken.ensures.goes_on in
    let failed : is_err c.take-taken.result ≡ true = sym c.is_err-in-Ok-true.ensures.value ∙ c.if-is_err-2.true in
    let next = c.take-taken.new.self in
    record {
      reading = c.take-taken.ensures.reading;
      paused = no_ok _ c.take-taken.result failed;
      fault = c.take-taken.ensures.fault;
      took = no_ok _ c.take-taken.result failed;
      goes_on =
          piece_goes_on laws start (codec_by old) old.bytes fed [] piece (reader_state next new)
          c.take-taken.result c.requires.going refl
          (elsewhere (reader_state_of start (codec_by old) fed []) next
          (reader_state_of next (codec_by new) (new.bytes ++ c.advance.new.piece.now) [])
          (reader_state next new) c.take-taken.result failed c.take-taken.ensures.fault refl
          refl
          (taken_goes_on laws start s next (codec_by old) (codec_by now) (codec_by new) fed [] src
          [] (new.bytes ++ c.advance.new.piece.now) [] new.payload c.take-taken.result failed t
          c.requires.going h refl c.take-taken.ensures.fault goes));
      short =
          piece_runs_short laws start (codec_by old) old.bytes [] piece c.take-taken.result
          (reader_state c.take-taken.new.self new)
          (taken_short start s c.take-taken.new.self (codec_by old) (codec_by now) (codec_by new)
          fed [] src [] new.bytes [] c.take-taken.result t c.requires.going
          (c.is_over.ensures.awaiting c.if-is_over.false) c.take-taken.ensures.short);
    }

pub returns-in-Ok-false : goal.returns-in-Ok-false
returns-in-Ok-false c =
    let t = c.packets.invariant.taking in
    let new = c.advance.new.self in
    let left : (c.read_in_place.new.self ≡ c.packets.packets) ×
    (c.read_in_place.new.piece ≡ c.packets.rest) = search rules in
    let w = rw (left.0, left.1) at (rw c.in-Ok-false.field-0-test at c.in-Ok-false.ensures.ok) in
    let used : c.advance.new.piece.now ≡ [] = search rules in
    let none : new.payload ≡ [] = search rules in
    let taken = waits_taken c.framing_laws.ensures c.args.state.now c.packets.state
    c.args.packets.now c.packets.packets new c.args.piece.now c.packets.rest.now
    c.advance.new.piece.now t c.requires.going (c.is_over.ensures.awaiting c.if-is_over.false) w
    used none in
    record {
      reading = t.reading;
      paused = (t.going, taken.0);
      fault = tt;
      took = taken.1;
      goes_on =
          taken.2;
      short = tt;
    }

pub returns-in-Err : goal.returns-in-Err
returns-in-Err c =
    let laws = c.framing_laws.ensures in
    let start = c.args.state.now in
    let old = c.args.packets.now in
    let piece = c.args.piece.now in
    let fed = old.bytes ++ piece in
    let s = c.packets.state in
    let now = c.packets.packets in
    let src = now.bytes ++ c.packets.rest.now in
    let t = c.packets.invariant.taking in
    let new = c.advance.new.self in
    let left : (c.read_in_place.new.self ≡ c.packets.packets) ×
    (c.read_in_place.new.piece ≡ c.packets.rest) = search rules in
    let w = rw (left.0, left.1) at c.in-Err.ensures.refused in
    let named = c.fail-in-Err.ensures.same ∙ c.fault_from.ensures ∙ ap fault_named w.answered in
    let is = c.fail-in-Err.ensures.state ∙ ap (λ f. record s { fault = Some f }) (sym c.fail-in-Err.ensures.same) in
    let after = c.fail-in-Err.new.self in
    record {
      reading = reading_faulty s after c.fail-in-Err.result is t.reading;
      paused = tt;
      fault = ap (λ (x : ReplyState). x.fault) is;
      took = tt;
      goes_on =
          piece_goes_on laws start (codec_by old) old.bytes fed [] piece (reader_state after new)
          (Err c.fail-in-Err.result) c.requires.going refl
          (refused_goes_on laws start s after (codec_by old) (codec_by now) (codec_by new) fed []
          src [] new.bytes [] w.refusal c.fail-in-Err.result t c.requires.going
          (c.is_over.ensures.awaiting c.if-is_over.false) named is
          (w.due t.received.read.refused));
      short =
          piece_runs_short laws start (codec_by old) old.bytes [] piece (Err c.fail-in-Err.result)
          (reader_state after new)
          (failed_short start s after (codec_by old) (codec_by now) (codec_by new) fed [] src []
          new.bytes [] c.fail-in-Err.result t c.requires.going
          (c.is_over.ensures.awaiting c.if-is_over.false) is);
    }

pub packets-preserved-in-Some : goal.packets-preserved-in-Some
packets-preserved-in-Some c =
    let laws = c.framing_laws.ensures in
    let start = c.args.state.now in
    let old = c.args.packets.now in
    let piece = c.args.piece.now in
    let fed = old.bytes ++ piece in
    let s = c.packets.state in
    let now = c.packets.packets in
    let src = now.bytes ++ c.packets.rest.now in
    let t = c.packets.invariant.taking in
    let new = c.read_in_place.new.self in
    let h = c.in-Some.ensures.found in
    let goes = c.take-placed.ensures.goes_on in
    let passed : is_err c.take-placed.result ≡ false = sym c.is_err.ensures.value ∙ c.if-is_err.false in
    let ok = taken_ok c.take-placed.result passed c.take-placed.ensures.ok in
    let none : new.bytes ≡ [] = c.in-Some.ensures.between.0 in
    record {
      taking = taking_next laws start s c.take-placed.new.self (codec_by old) (codec_by now)
          (codec_by new) fed [] src [] (new.bytes ++ c.read_in_place.new.piece.now) []
          c.in-Some.payload.now t h refl c.take-placed.ensures.reading ok.0 ok.1
          (taken_unless c.take-placed.result passed goes);
      over = λ _. none;
    }

pub returns-then-is_err : goal.returns-then-is_err
returns-then-is_err c =
    let laws = c.framing_laws.ensures in
    let start = c.args.state.now in
    let old = c.args.packets.now in
    let piece = c.args.piece.now in
    let fed = old.bytes ++ piece in
    let s = c.packets.state in
    let now = c.packets.packets in
    let src = now.bytes ++ c.packets.rest.now in
    let t = c.packets.invariant.taking in
    let new = c.read_in_place.new.self in
    let h = c.in-Some.ensures.found in
    let goes = c.take-placed.ensures.goes_on in
    let failed : is_err c.take-placed.result ≡ true = sym c.is_err.ensures.value ∙ c.if-is_err.true in
    let next = c.take-placed.new.self in
    record {
      reading = c.take-placed.ensures.reading;
      paused = no_ok _ c.take-placed.result failed;
      fault = c.take-placed.ensures.fault;
      took = no_ok _ c.take-placed.result failed;
      goes_on =
          piece_goes_on laws start (codec_by old) old.bytes fed [] piece (reader_state next new)
          c.take-placed.result c.requires.going refl
          (elsewhere (reader_state_of start (codec_by old) fed []) next
          (reader_state_of next (codec_by new) (new.bytes ++ c.read_in_place.new.piece.now) [])
          (reader_state next new) c.take-placed.result failed c.take-placed.ensures.fault refl
          refl
          (taken_goes_on laws start s next (codec_by old) (codec_by now) (codec_by new) fed [] src
          [] (new.bytes ++ c.read_in_place.new.piece.now) [] c.in-Some.payload.now
          c.take-placed.result failed t c.requires.going h refl c.take-placed.ensures.fault
          goes));
      short =
          piece_runs_short laws start (codec_by old) old.bytes [] piece c.take-placed.result
          (reader_state c.take-placed.new.self new)
          (taken_short start s c.take-placed.new.self (codec_by old) (codec_by now) (codec_by new)
          fed [] src [] new.bytes [] c.take-placed.result t c.requires.going
          (c.is_over.ensures.awaiting c.if-is_over.false) c.take-placed.ensures.short);
    }

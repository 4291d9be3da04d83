-- Rows that are borrowed: what a payload leads to, and what bytes were used.
use Rattle.std.proofs.Common.{◌≡◌, ℕ, ◌+◌, ◌^◌, ◌<◌, ◌≤◌, List, [], ◌∷◌, ◌++◌, length, Option, Some, None, Ok, Err}
use Rattle.std.proofs.Common.{refl, ap, sym, subst, arith, ◌∙◌, length-append}
use Rattle.std.proofs.lemmas.List.{append-nil}
use Rattle.mysql_columns.specs.Columns.{ColumnDefinition}
use Rattle.mysql_row_refs.specs.RowRefs.{row_ref_view}
use Rattle.mysql_row_refs.specs.declared.row_ref.RowRef.{RowRef}
use Rattle.mysql_row_refs.specs.declared.reader.RowReader.{RowReader}
use Rattle.mysql_rows.specs.Rows.{Row}
use Rattle.mysql_reply_events.specs.Standing.{RowAt}
use Rattle.mysql_wire.specs.Codec.{HandsOut, held, packet_number}
use Rattle.mysql_wire.specs.Incoming.{Incoming, codec_by}
use Rattle.mysql_wire.specs.Stream.{IsRest, framings}
use Rattle.mysql_wire.specs.Stream.Numbering.{OnFrom}
use Rattle.mysql_wire.specs.Stream.Rest.{Empty}
use Rattle.mysql_replies.specs.declared.part.Part.{Part as PartOf}
use Rattle.mysql_replies.specs.declared.part.Part.TheVariants as parts
use Rattle.mysql_replies.specs.declared.fault.ReplyFault.{ReplyFault}
use Rattle.mysql_replies.specs.declared.fault.ReplyFault.TheVariants as faults
use Rattle.mysql_replies.specs.declared.borrowing.Place.{Place}
use Rattle.mysql_replies.specs.declared.state.ReplyState.{ReplyState}
use Rattle.mysql_replies.specs.Holding.{HasFoundNoFault, ReaderState, ReaderGoesOn, StandsShort, TakesAll}
use Rattle.mysql_replies.specs.Borrowing.{BorrowsNext, BorrowsRow, rows_listed}
use Rattle.mysql_replies.specs.RowSteps.{StateBorrowsNext, ReaderBorrows, StateBorrows, keeping, payload_at, with_row}
use Rattle.mysql_replies.specs.Together as together
use Rattle.mysql_replies.specs.Together.{Part, RowsPart}
use Rattle.mysql_replies.specs.Reply.{GoingOn, Payload}
use Rattle.mysql_replies.specs.States.{FramingLaws, IsAwaiting, IsPaused, IsShortOf, NumberedStateGoesOn, OnMemory}
use Rattle.mysql_replies.specs.States.{StateGoesOn, UnlessMemory, faulted, open_reply, reader_state, reader_state_of}
use Rattle.mysql_replies.specs.States.{reply_so_far}
use Rattle.mysql_replies.specs.Taking.{Feeds}
use Rattle.mysql_replies.specs.Views.{part_view}
use Rattle.mysql_replies.proofs.Numbers.{goes_over_numbered}
use Rattle.mysql_replies.proofs.Receiving.{Since, Taking, all_taken, elsewhere, empty_rest, fault_is, fresh_paused}
use Rattle.mysql_replies.proofs.Receiving.{handed_number, held_nothing, if_fault, if_no_fault, not_both, on_is}
use Rattle.mysql_replies.proofs.Receiving.{piece_goes_on, piece_runs_short, received_next, stays_going_on}
use Rattle.mysql_replies.proofs.Receiving.{taken_goes_on, taken_short, unless_is}

-- What a payload without a place leads to, or one over which memory ran out.
pub failed_step : (before after : ReplyState) (payload : Payload) (fault : ReplyFault) →
    before.fault ≡ None → before.count + 1 < 2 ^ 64 → after.fault ≡ Some fault →
    UnlessMemory {X = Unit {0}} (Err fault) (StateGoesOn before payload after) →
    OnMemory {X = Unit {0}} (Err fault) (IsShortOf before after) →
    StateBorrowsNext before payload (Err fault) after
failed_step before after payload faults.Memory going room wrong goes short = short
failed_step before after payload fault going room wrong goes short =
    goes_over_numbered before after payload going room (λ e. not_both after.fault fault wrong e)
    goes

-- With one row more.
pub row_kept : (part : PartOf) (row : Row) → part_view (with_row part row) ≡ together.with_row (part_view part) row
row_kept parts.Nothing row = refl
row_kept (parts.Set known) row = refl
row_kept (parts.Rows open_rows) row = refl
row_kept (parts.RawRows found) row = refl
row_kept (parts.Statement stmt params columns) row = refl
row_kept (parts.Fields fields) row = refl

-- Bytes behind which others follow, where these are the last of a piece.
cut_piece : (front piece back rest : List ℕ) → front ++ piece ≡ back ++ rest →
    length rest ≤ length piece → (used : List ℕ) × (piece ≡ used ++ rest) × (front ++ used ≡ back)
cut_piece [] piece back rest same fits = (back, same, refl)
cut_piece (x ∷ front) piece [] rest same fits = absurd (omega (arith, fits, ap length same, length-append front piece))
cut_piece (x ∷ front) piece (y ∷ back) rest same fits =
    let others : front ++ piece ≡ back ++ rest = cc in
    let one : x ≡ y = cc in
    let c = cut_piece front piece back rest others fits in
    (c.0, c.1, (λ i. one i ∷ c.2 i))

-- What the bytes up to a payload that was handed out lead to.
pub record Used (start next : ReplyState) (old new : Incoming) (piece left : List ℕ) : Type 0 where
  pub used : List ℕ
  pub cut : piece ≡ used ++ left
  pub takes : TakesAll (reader_state start old) ((reader_state start old).bytes ++ used) (reader_state next new)
  pub goes_on : ReaderGoesOn (reader_state start old) used (reader_state next new)
  pub whole : (reader_state next new).bytes ≡ []

pub used_up : FramingLaws →
    (start s next : ReplyState) (old now new : Incoming) (piece rest left payload : List ℕ) →
    Taking start (codec_by old) (old.bytes ++ piece) [] s (codec_by now) (now.bytes ++ rest) [] →
    start.fault ≡ None → HandsOut (codec_by now) (now.bytes ++ rest) [] (codec_by new) (new.bytes ++
    left) payload → new.bytes ≡ [] → length left ≤ length piece → next.fault ≡ None → next.count ≡
    s.count + 1 → NumberedStateGoesOn s payload next → Used start next old new piece left
used_up laws start s next old now new piece rest left payload t began h none fits going count goes =
    let first = codec_by old in
    let codec = codec_by new in
    let src = new.bytes ++ left in
    let payloads = t.payloads ++ payload ∷ [] in
    let framed = framings payloads (OnFrom (packet_number first [])) in
    let byte = handed_number (codec_by now) codec (now.bytes ++ rest) [] src payload h in
    let r = received_next laws _ _ _ _ t.payloads s next (codec_by now) codec (now.bytes ++
    rest) [] src [] payload t.received h refl goes in
    let held_is : held codec src [] ≡ left = held_nothing laws codec src [] h.between byte refl ∙
    ap (λ k. k ++ left) none in
    let nothing : held codec new.bytes [] ≡ [] = held_nothing laws codec new.bytes [] h.between byte refl ∙ none in
    let whole : held first old.bytes [] ++ piece ≡ framed ++ left =
    sym (laws.piece first old.bytes [] piece) ∙ r.read.joined ∙ ap (λ k. framed ++ k) held_is in
    let c = cut_piece (held first old.bytes []) piece framed left whole fits in
    let since : Since start first (old.bytes ++ c.0) [] payloads next codec new.bytes [] = record {
      read = record {
        joined = laws.piece first old.bytes [] c.0 ∙ c.2 ∙ sym (ap (λ k. framed ++ k) nothing ∙ append-nil framed);
        within = r.read.within;
        number = r.read.number;
        limit_same = r.read.limit_same;
        refused = r.read.refused;
        goes_on = r.read.goes_on;
      };
      goes_on = r.goes_on;
    } in
    let counted : next.count ≡ start.count + length payloads =
    omega (arith, count, t.count, length-append t.payloads (payload ∷ [])) in
    let all =
    all_taken laws start next first codec old.bytes c.0 new.bytes payloads Empty since began going counted (λ f. f)
    (subst (λ k. IsRest codec.limit (packet_number codec []) k Empty) (sym nothing)
    (empty_rest codec.limit (packet_number codec []))) in
    record { used = c.0; cut = c.1; takes = all.0; goes_on = all.1; whole = nothing }

-- A row's payload was handed out, and the row can be borrowed.
pub borrowed_behind : FramingLaws →
    (start s next : ReplyState) (old now new : Incoming) (piece rest left payload : List ℕ)
    (place : Place) → Taking start (codec_by old) (old.bytes ++ piece) [] s (codec_by now)
    (now.bytes ++ rest) [] → start.fault ≡ None →
    HandsOut (codec_by now) (now.bytes ++ rest) [] (codec_by new) (new.bytes ++ left) payload →
    new.bytes ≡ [] → length left ≤ length piece → next.fault ≡ None → next.count ≡ s.count + 1 →
    StateBorrows s payload next → payload ≡ payload_at place new →
    ReaderBorrows (reader_state start old) piece place next new left
borrowed_behind laws start s next old now new piece rest left payload place t began h none fits going count one is =
    let u = used_up laws start s (keeping next one.row) old now new piece rest left payload t began
    h none fits going count one.goes_on in
    record {
      row = one.row;
      lies = subst (λ k. RowAt next.events.rows k one.row) is one.lies;
      columns = one.columns;
      rows = one.rows;
      part = one.part;
      used = u.used;
      cut = u.cut;
      takes = u.takes;
      goes_on = u.goes_on;
      whole = u.whole;
    }

-- Behind it no byte is held.
pub paused_behind : FramingLaws →
    (s : ReplyState) (now new : Incoming) (src src' payload : List ℕ) →
    HandsOut (codec_by now) src [] (codec_by new) src' payload → new.bytes ≡ [] →
    IsPaused s (codec_by new) new.bytes []
paused_behind laws s now new src src' payload h none =
    fresh_paused laws s (codec_by new) new.bytes [] h.between
    (handed_number (codec_by now) (codec_by new) src [] src' payload h) none refl

step_goes : (before after : ReplyState) (payload : Payload) (fault : ReplyFault) →
    StateBorrowsNext before payload (Err fault) after →
    UnlessMemory {X = Unit {0}} (Err fault) (NumberedStateGoesOn before payload after)
step_goes before after payload faults.Memory step = tt
step_goes before after payload fault step = step

step_falls_short : (before after : ReplyState) (payload : Payload) (fault : ReplyFault) →
    StateBorrowsNext before payload (Err fault) after →
    OnMemory {X = Unit {0}} (Err fault) (IsShortOf before after)
step_falls_short before after payload faults.Memory step = step
step_falls_short before after payload fault step = tt

-- A payload was handed out, and it has no place or memory ran out over it.
pub borrow_failed : FramingLaws →
    (start s next : ReplyState) (old now new : Incoming) (piece rest left payload : List ℕ)
    (fault : ReplyFault) → Taking start (codec_by old) (old.bytes ++ piece) [] s (codec_by now)
    (now.bytes ++ rest) [] → start.fault ≡ None →
    HandsOut (codec_by now) (now.bytes ++ rest) [] (codec_by new) (new.bytes ++ left) payload →
    next.fault ≡ Some fault → StateBorrowsNext s payload (Err fault) next →
    UnlessMemory {X = Unit {0}} (Err fault)
    (ReaderGoesOn (reader_state start old) piece (reader_state next new))
borrow_failed laws start s next old now new piece rest left payload fault t began h wrong step =
    let fed = old.bytes ++ piece in
    let src = now.bytes ++ rest in
    piece_goes_on laws start (codec_by old) old.bytes fed [] piece (reader_state next new) (Err fault) began refl
    (elsewhere (reader_state_of start (codec_by old) fed []) next
    (reader_state_of next (codec_by new) (new.bytes ++ left) []) (reader_state next new)
    (Err fault) refl wrong refl refl
    (taken_goes_on laws start s next (codec_by old) (codec_by now) (codec_by new) fed [] src []
    (new.bytes ++ left) [] payload (Err fault) refl t began h refl wrong
    (step_goes s next payload fault step)))

pub borrow_short : FramingLaws →
    (start s next : ReplyState) (old now new : Incoming) (piece rest payload : List ℕ)
    (fault : ReplyFault) → Taking start (codec_by old) (old.bytes ++ piece) [] s (codec_by now)
    (now.bytes ++ rest) [] → start.fault ≡ None → IsAwaiting s →
    StateBorrowsNext s payload (Err fault) next →
    OnMemory {X = Unit {0}} (Err fault)
    (StandsShort (reader_state start old) ((reader_state start old).bytes ++
    piece) (reader_state next new))
borrow_short laws start s next old now new piece rest payload fault t began some step =
    piece_runs_short laws start (codec_by old) old.bytes [] piece (Err fault) (reader_state next new)
    (taken_short start s next (codec_by old) (codec_by now) (codec_by new) (old.bytes ++
    piece) [] (now.bytes ++ rest) [] new.bytes [] (Err fault) t began some
    (step_falls_short s next payload fault step))

-- What a feed of a piece does: a fault was met before, the piece is taken, or a fault is met.
pub feeds_stays : (s : ReplyState) (packets : Incoming) (piece : List ℕ) (fault : ReplyFault) →
    s.fault ≡ Some fault → Feeds (reader_state s packets) (reader_state s packets) piece (Err fault)
feeds_stays s packets piece fault wrong = record {
  stays = if_fault _ _ fault (fault_is s ∙ wrong) (refl, refl);
  going = tt;
  fault = fault_is s ∙ wrong;
  takes = tt;
  goes_on = λ never. unless_is {X = Unit {0}} (Err fault) never
      (stays_going_on s (codec_by packets) packets.bytes [] piece fault wrong);
  short = λ none memory. not_both _ fault (fault_is s ∙ wrong) none;
}

pub feeds_all : (start next : ReplyState) (old new : Incoming) (piece : List ℕ) → start.fault ≡
    None → next.fault ≡ None →
    TakesAll (reader_state start old) ((reader_state start old).bytes ++
    piece) (reader_state next new) →
    ReaderGoesOn (reader_state start old) piece (reader_state next new) →
    Feeds (reader_state start old) (reader_state next new) piece (Ok tt)
feeds_all start next old new piece began going takes goes = record {
  stays = if_no_fault _ _ (fault_is start ∙ began);
  going = fault_is next ∙ going;
  fault = tt;
  takes = takes;
  goes_on = λ never. goes;
  short = λ none memory. absurd cc;
}

pub feeds_fails : (start next : ReplyState) (old new : Incoming) (piece : List ℕ)
    (fault : ReplyFault) → start.fault ≡ None → next.fault ≡ Some fault →
    UnlessMemory {X = Unit {0}} (Err fault)
    (ReaderGoesOn (reader_state start old) piece (reader_state next new)) →
    OnMemory {X = Unit {0}} (Err fault)
    (StandsShort (reader_state start old) ((reader_state start old).bytes ++
    piece) (reader_state next new)) →
    Feeds (reader_state start old) (reader_state next new) piece (Err fault)
feeds_fails start next old new piece fault began wrong goes short = record {
  stays = if_no_fault _ _ (fault_is start ∙ began);
  going = tt;
  fault = fault_is next ∙ wrong;
  takes = tt;
  goes_on = λ never. unless_is {X = Unit {0}} (Err fault) never goes;
  short = λ none memory. on_is {X = Unit {0}} (Err fault) memory short;
}

-- One row lies in a payload.
same_row : (reader : Option RowReader) (payload : Payload) (x y : Row) → RowAt reader payload x →
    RowAt reader payload y → x ≡ y
same_row (Some reader) payload x y one two = one.1 ∙ sym two.1
same_row None payload x y one two = absurd one

borrows_kept : (start next : ReplyState) (old new : Incoming) (piece rest used : List ℕ)
    (found : Row) (columns : List ColumnDefinition) (these : List Row) → part_view next.part ≡
    RowsPart columns these → start.fault ≡ None → next.fault ≡ None → piece ≡ used ++ rest →
    (reader_state next new).bytes ≡ [] →
    TakesAll (reader_state start old) ((reader_state start old).bytes ++
    used) (reader_state (keeping next found) new) →
    ReaderGoesOn (reader_state start old) used (reader_state (keeping next found) new) →
    BorrowsRow (reader_state start old) piece found (reader_state next new) rest
borrows_kept start next old new piece rest used found columns these is began going cut whole takes goes =
    let kept : ReaderState = record (reader_state next new) {
      so_far =
          GoingOn (record (open_reply next) { part = RowsPart columns (these ++ found ∷ []) });
    } in
    let part : part_view (with_row next.part found) ≡ RowsPart columns (these ++ found ∷ []) =
    row_kept next.part found ∙ ap (λ (k : Part). together.with_row k found) is in
    let same : reader_state (keeping next found) new ≡ kept =
    λ i. record (reader_state next new) { so_far = faulted (record (open_reply next) { part = part i }) (going i) } in
    record {
      used = used;
      cut = cut;
      s = open_reply next;
      going = ap (faulted (open_reply next)) going;
      columns = columns;
      rows = these;
      part = is;
      feeds = subst (λ k. Feeds (reader_state start old) k used (Ok tt)) same
          (feeds_all start (keeping next found) old new used began going takes goes);
      whole = whole;
    }

-- The row that is borrowed is the next one of the piece.
pub borrows_row : (start next : ReplyState) (old new : Incoming) (piece rest : List ℕ)
    (place : Place) (found : Row) →
    ReaderBorrows (reader_state start old) piece place next new rest →
    RowAt next.events.rows (payload_at place new) found → start.fault ≡ None → next.fault ≡ None →
    BorrowsRow (reader_state start old) piece found (reader_state next new) rest
borrows_row start next old new piece rest place found behind lies began going =
    let is : behind.row ≡ found = same_row next.events.rows (payload_at place new) behind.row found behind.lies lies in
    borrows_kept start next old new piece rest behind.used found behind.columns behind.rows
    behind.part began going behind.cut behind.whole
    (subst (λ k. TakesAll (reader_state start old) ((reader_state start old).bytes ++
    behind.used) (reader_state (keeping next k) new)) is behind.takes)
    (subst (λ k. ReaderGoesOn (reader_state start old) behind.used
    (reader_state (keeping next k) new)) is behind.goes_on)

-- What a reader does over a piece: its next row is borrowed, all of it is read, or a fault is met.
pub next_borrowed : (start next : ReplyState) (old new : Incoming) (piece rest : List ℕ)
    (place : Place) (found : RowRef) →
    ReaderBorrows (reader_state start old) piece place next new rest →
    RowAt next.events.rows (payload_at place new) (row_ref_view found) → start.fault ≡ None →
    next.fault ≡ None → rows_listed (reply_so_far next) ≡ rows_listed (reply_so_far start) →
    BorrowsNext (reader_state start old) piece (Ok (Some found)) (reader_state next new) rest
next_borrowed start next old new piece rest place found behind lies began going none =
    record {
      advances = borrows_row start next old new piece rest place (row_ref_view found) behind
          lies began going;
      keeps_none = none;
    }

pub next_none : (start next : ReplyState) (old new : Incoming) (piece rest : List ℕ) → rest ≡ [] →
    start.fault ≡ None → next.fault ≡ None →
    TakesAll (reader_state start old) ((reader_state start old).bytes ++
    piece) (reader_state next new) →
    ReaderGoesOn (reader_state start old) piece (reader_state next new) →
    HasFoundNoFault (reader_state next new) → rows_listed (reply_so_far next) ≡
    rows_listed (reply_so_far start) →
    BorrowsNext (reader_state start old) piece (Ok None) (reader_state next new) rest
next_none start next old new piece rest used began going takes goes found none =
    record {
      advances = (
        feeds_all start next old new piece began going takes goes,
        found,
        used,
      );
      keeps_none = none;
    }

pub next_fails : (start next : ReplyState) (old new : Incoming) (piece : List ℕ)
    (fault : ReplyFault) → start.fault ≡ None → next.fault ≡ Some fault →
    UnlessMemory {X = Unit {0}} (Err fault)
    (ReaderGoesOn (reader_state start old) piece (reader_state next new)) →
    OnMemory {X = Unit {0}} (Err fault)
    (StandsShort (reader_state start old) ((reader_state start old).bytes ++
    piece) (reader_state next new)) → rows_listed (reply_so_far next) ≡
    rows_listed (reply_so_far start) →
    BorrowsNext (reader_state start old) piece (Err fault) (reader_state next new) piece
next_fails start next old new piece fault began wrong goes short none =
    record {
      advances = (
        feeds_fails start next old new piece fault began wrong goes short,
        refl,
      );
      keeps_none = none;
    }

pub next_stays : (s : ReplyState) (packets : Incoming) (piece : List ℕ) (fault : ReplyFault) →
    s.fault ≡ Some fault → BorrowsNext (reader_state s packets) piece (Err fault)
    (reader_state s packets) piece
next_stays s packets piece fault wrong =
    record { advances = (feeds_stays s packets piece fault wrong, refl); keeps_none = refl }

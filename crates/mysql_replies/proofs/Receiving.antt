-- Payloads that come out of a codec one after another, and what is decided over the bytes still to come.
use Rattle.std.proofs.Common.{◌≡◌, ℕ, zero, suc, ◌+◌, ◌<◌, ◌≤◌, List, [], ◌∷◌, ◌++◌, length, take, Bool, true, false}
use Rattle.std.proofs.Common.{Option, Some, None, refl, ap, sym, subst, arith, ◌∙◌, append_assoc, length-append}
use Rattle.std.specs.Prelude.{◌==◌, nat_le, if◌then◌else◌, Result, Ok, Err, OnOk, IfErr, is_err}
use Rattle.std.specs.List.{AllByRecursion}
use Rattle.std.specs.Option.{IfSome}
use Rattle.std.proofs.lemmas.List.{append-nil, nil_from_length}
use Rattle.std.proofs.Math.Dec.{leb-suc-zero}
use Rattle.std.proofs.lemmas.Bool.Decides.{nat_tests}
use Rattle.mysql_wire.specs.Framing.{chunks, framing}
use Rattle.mysql_wire.specs.Bytes.{AreBytes}
use Rattle.mysql_wire.specs.Laws.{FramingComesFirst}
use Rattle.mysql_wire.specs.Codec.{Codec, IsBetween, CanGoOn, HandsOut, Waits, IsOfPacket, held, packet_number, IsDue}
use Rattle.mysql_wire.specs.Codec.{error_of}
use Rattle.mysql_wire.specs.Incoming.{Incoming, codec_by}
use Rattle.mysql_wire.specs.Reader.{HasRead, StandFirst}
use Rattle.mysql_wire.specs.Stream as stream
use Rattle.mysql_wire.specs.Stream.{Numbering, Rest, Split, IsSplit, IsRest, IsFault, first_number, after, after_all}
use Rattle.mysql_wire.specs.Stream.{framings, with_payloads}
use Rattle.mysql_wire.specs.Stream.Numbering.{OnFrom}
use Rattle.mysql_wire.specs.Stream.Rest.{Empty, TooLarge, OutOfSync}
use Rattle.mysql_wire.specs.declared.codec.Refusal.{Refusal}
use Rattle.mysql_wire.specs.declared.codec.Refusal.TheVariants as refusals
use Rattle.mysql_replies.specs.declared.fault.ReplyFault.{ReplyFault}
use Rattle.mysql_replies.specs.declared.fault.ReplyFault.TheVariants as faults
use Rattle.mysql_replies.specs.declared.state.ReplyState.{ReplyState}
use Rattle.mysql_replies.specs.Reply.{Answer, End, FaultAt, Payload, Unfinished, ReplySoFar, GoingOn, Answered}
use Rattle.mysql_replies.specs.Reply.{OpenReply, PayloadsDecide, answer_behind, end_behind, faulted_at, is_over, led_by}
use Rattle.mysql_replies.specs.Reply as reply
use Rattle.mysql_replies.specs.Bytes.{numbers_left, numbered, after_numbered, NumberedPayloadsDecide}
use Rattle.mysql_replies.specs.Holding.{ReaderState, BytesDecide, ReaderDecidesFrom, ReaderDecides, ReaderGoesOn}
use Rattle.mysql_replies.specs.Holding.{TakesAll, RunsShort, StandsShort, count_of, fault_of}
use Rattle.mysql_replies.specs.States.{open_reply, faulted, reply_so_far, NumberedStateGoesOn, reader_state}
use Rattle.mysql_replies.specs.States.{reader_state_of, answer_of, end_of_state, IsAwaiting, IsOver, IsReading}
use Rattle.mysql_replies.specs.States.{IsPaused, IsReceiving, NothingBegun, FramingLaws, UnlessMemory, OnMemory}
use Rattle.mysql_replies.specs.States.{IsShortOf, fault_named}
use Rattle.mysql_replies.proofs.Finishing.{end_large, end_wrong_number, never, stops}
use Rattle.mysql_replies.proofs.Numbers.{decides_none}
use Rattle.mysql_replies.proofs.GoingOn.{decides_answered, not_due}

-- Bytes and bytes after them are bytes.
pub bytes_append : (front back : List ℕ) → AreBytes front → AreBytes back → AreBytes (front ++ back)
bytes_append [] back f b i = b i
bytes_append (x ∷ front) back f b zero = f zero
bytes_append (x ∷ front) back f b (suc i) = bytes_append front back (λ j. f (suc j)) b i

-- The framings of payloads, followed by bytes that split, split as these payloads first.
frames_first : FramingComesFirst →
    (limit : ℕ) (numbering : Numbering) (payloads : List Payload) (back : List ℕ) (split : Split) →
    AllByRecursion (λ payload. length payload ≤ limit) payloads →
    IsSplit limit (after_all payloads numbering) back split →
    IsSplit limit numbering (framings payloads numbering ++ back) (with_payloads payloads split)
frames_first law limit numbering [] back split within s = s
frames_first law limit numbering (p ∷ ps) back split within s =
    subst (λ bytes. IsSplit limit numbering bytes (with_payloads (p ∷ ps) split))
    (sym (append_assoc (framing p (first_number numbering)) (framings ps (after p numbering))
    back))
    (law limit numbering p (framings ps (after p numbering) ++ back) (with_payloads ps split)
    within.0 (frames_first law limit (after p numbering) ps back split within.1 s))

pub on_from : (payloads : List Payload) (number : ℕ) → after_all payloads (OnFrom number) ≡
    OnFrom (first_number (after_all payloads (OnFrom number)))
on_from [] number = refl
on_from (p ∷ ps) number = on_from ps _

-- Of these bytes these payloads were read, and what stands decides over what is still to come what was decided from
-- the start over these payloads and that.
pub record Received (from : ReplySoFar) (limit number : ℕ) (bytes : List ℕ)
    (payloads : List Payload) (s : ReplyState) (codec : Codec) (src dst : List ℕ) : Type 0 where
  pub read : HasRead limit (OnFrom number) bytes payloads codec src dst
  pub goes_on : (z : List Payload) (rest : Rest) (answer : Answer) →
      NumberedPayloadsDecide (reply_so_far s) z rest answer →
      NumberedPayloadsDecide from (payloads ++ z) rest answer

-- Nothing was read yet.
pub received_none : (s : ReplyState) (codec : Codec) (src dst : List ℕ) → codec.refused ≡ None →
    CanGoOn codec dst → Received (reply_so_far s) codec.limit (packet_number codec dst)
    (held codec src dst) [] s codec src dst
received_none s codec src dst refused can_go_on = record {
  read = record {
    joined = refl;
    within = tt;
    number = refl;
    limit_same = refl;
    refused =
        refused;
    goes_on = can_go_on;
  };
  goes_on = λ z rest answer h. h;
}

-- One more payload was read.
pub received_next : FramingLaws →
    (from : ReplySoFar) (limit number : ℕ) (bytes : List ℕ) (payloads : List Payload)
    (s next : ReplyState) (codec new : Codec) (src dst src' dst' payload : List ℕ) →
    Received from limit number bytes payloads s codec src dst →
    HandsOut codec src dst new src' payload → dst' ≡ [] → NumberedStateGoesOn s payload next →
    Received from limit number bytes (payloads ++ payload ∷ []) next new src' dst'
received_next laws from limit number bytes payloads s next codec new src dst src' dst' payload r h empty goes = record {
  read = subst (λ d. HasRead limit (OnFrom number) bytes (payloads ++ payload ∷ []) new src' d)
      (sym empty) ((laws.takes limit bytes payloads codec new src dst src' payload h).0 number
      r.read);
  goes_on = λ z rest answer k. subst (λ ps. NumberedPayloadsDecide from ps rest answer)
      (sym (append_assoc payloads (payload ∷ []) z))
      (r.goes_on (payload ∷ z) rest answer (goes z rest answer k));
}

-- What is held and other bytes decide, where these split.
pub decides_more : FramingLaws →
    (from : ReplySoFar) (limit number : ℕ) (bytes : List ℕ) (payloads : List Payload)
    (s : ReplyState) (codec : Codec) (src dst : List ℕ) →
    Received from limit number bytes payloads s codec src dst → (more : List ℕ) (split : Split) →
    IsSplit codec.limit (OnFrom (packet_number codec dst)) (held codec src dst ++ more) split →
    (answer : Answer) → NumberedPayloadsDecide (reply_so_far s) split.payloads split.rest answer →
    BytesDecide from limit number (bytes ++ more) answer
decides_more laws from limit number bytes payloads s codec src dst r more split here answer d =
    let limited : IsSplit limit (OnFrom (packet_number codec dst)) (held codec src dst ++
    more) split = subst (λ k. IsSplit k (OnFrom (packet_number codec dst))
    (held codec src dst ++ more) split) r.read.limit_same here in
    let there : IsSplit limit (after_all payloads (OnFrom number)) (held codec src dst ++
    more) split = subst (λ k. IsSplit limit k (held codec src dst ++ more) split)
    (ap OnFrom r.read.number ∙ sym (on_from payloads number)) limited in
    let joined : framings payloads (OnFrom number) ++ (held codec src dst ++ more) ≡ bytes ++ more =
    sym (append_assoc (framings payloads (OnFrom number)) (held codec src dst) more) ∙
    ap (λ k. k ++ more) (sym r.read.joined) in
    record {
      split = with_payloads payloads split;
      splits = subst (λ k. IsSplit limit (OnFrom number) k (with_payloads payloads split)) joined
          (frames_first laws.first limit (OnFrom number) payloads (held codec src dst ++
          more) split r.read.within there);
      decides = r.goes_on split.payloads split.rest answer d;
    }

-- Where no fault was met, what is held decides by splitting.
pub going_decides : (s : ReplyState) (codec : Codec) (src dst more : List ℕ) (answer : Answer) →
    s.fault ≡ None → ReaderDecides (reader_state_of s codec src dst) more answer →
    BytesDecide (reply_so_far s) codec.limit (packet_number codec dst) (held codec src dst ++
    more) answer
going_decides s codec src dst more answer going =
    subst (λ f. ReaderDecidesFrom (faulted (open_reply s) f) (reader_state_of s codec src dst) more
    answer → BytesDecide (faulted (open_reply s) f) codec.limit (packet_number codec dst)
    (held codec src dst ++ more) answer) (sym going) (λ h. h)

pub decides_going : (s : ReplyState) (codec : Codec) (src dst more : List ℕ) (answer : Answer) →
    s.fault ≡ None → BytesDecide (reply_so_far s) codec.limit (packet_number codec dst)
    (held codec src dst ++ more) answer →
    ReaderDecides (reader_state_of s codec src dst) more answer
decides_going s codec src dst more answer going =
    subst (λ f. BytesDecide (faulted (open_reply s) f) codec.limit (packet_number codec dst)
    (held codec src dst ++ more) answer →
    ReaderDecidesFrom (faulted (open_reply s) f) (reader_state_of s codec src dst) more answer)
    (sym going) (λ h. h)

-- What was decided from the state at the start, where that had met no fault.
abbrev pub Since : ReplyState → Codec → List ℕ → List ℕ → List Payload → ReplyState → Codec → List ℕ → List ℕ → Type 0
Since start first from_src from_dst payloads s codec src dst =
    Received (reply_so_far start) first.limit (packet_number first from_dst)
    (held first from_src from_dst) payloads s codec src dst

-- The codec waits: all payloads were taken.
pub takes_all : (start s : ReplyState) (first codec : Codec) (from_src from_dst src dst : List ℕ)
    (payloads : List Payload) (rest : Rest) →
    Since start first from_src from_dst payloads s codec src dst → start.fault ≡ None → s.fault ≡
    None → s.count ≡ start.count + length payloads → ¬ IsFault rest →
    IsRest codec.limit (packet_number codec dst) (held codec src dst) rest →
    TakesAll (reader_state_of start first from_src from_dst) (held first from_src from_dst)
    (reader_state_of s codec src dst)
takes_all start s first codec from_src from_dst src dst payloads rest r began going count no_fault is = record {
  split = record { payloads = payloads; rest_bytes = held codec src dst; rest = rest };
  splits = record {
    joined = r.read.joined;
    within = r.read.within;
    ends = subst (λ k. IsRest first.limit k (held codec src dst) rest) r.read.number
        (subst (λ k. IsRest k (packet_number codec dst) (held codec src dst) rest) r.read.limit_same
        is);
  };
  no_fault = no_fault;
  left = refl;
  number = r.read.number;
  limit = r.read.limit_same;
  count = ap (λ f. count_of (faulted (open_reply s) f)) going ∙ count ∙
      ap (λ f. count_of (faulted (open_reply start) f) + length payloads) (sym began);
  goes_on = r.goes_on;
}

pub goes_on_taken : FramingLaws →
    (start s : ReplyState) (first codec : Codec) (from_src from_dst src dst : List ℕ)
    (payloads : List Payload) → Since start first from_src from_dst payloads s codec src dst →
    start.fault ≡ None → s.fault ≡ None →
    ReaderGoesOn (reader_state_of start first from_src from_dst) []
    (reader_state_of s codec src dst)
goes_on_taken laws start s first codec from_src from_dst src dst payloads r began going more answer are h =
    let d = going_decides s codec src dst more answer going h in
    decides_going start first from_src from_dst more answer began
    (decides_more laws (reply_so_far start) first.limit (packet_number first from_dst)
    (held first from_src from_dst) payloads s codec src dst r more d.split d.splits answer
    d.decides)

pub held_nothing : FramingLaws → (codec : Codec) (src dst : List ℕ) → IsBetween codec →
    codec.number < 256 → dst ≡ [] → held codec src dst ≡ src
held_nothing laws codec src dst between byte empty = ap (held codec src) empty ∙ (laws.between codec src between byte).0

-- The split of what is held, with other bytes.
some_split : FramingLaws → (codec : Codec) (src dst more : List ℕ) → AreBytes (held codec src dst) →
    AreBytes more → (split : Split) ×
    IsSplit codec.limit (OnFrom (packet_number codec dst)) (held codec src dst ++ more) split
some_split laws codec src dst more are others =
    let one = laws.one codec.limit (OnFrom (packet_number codec dst)) (held codec src dst ++
    more) (bytes_append (held codec src dst) more are others) in
    (one.0, one.1)

-- A payload had no place: its fault is decided, whatever follows.
pub goes_on_faulted : FramingLaws →
    (start s : ReplyState) (first codec : Codec) (from_src from_dst src dst : List ℕ)
    (payloads : List Payload) (fault : ReplyFault) →
    Since start first from_src from_dst payloads s codec src dst → start.fault ≡ None → s.fault ≡
    Some fault → AreBytes (held codec src dst) →
    ReaderGoesOn (reader_state_of start first from_src from_dst) []
    (reader_state_of s codec src dst)
goes_on_faulted laws start s first codec from_src from_dst src dst payloads fault r began wrong are
    more answer others h =
    let known : answer ≡ faulted_at (open_reply s) fault =
    subst (λ f. ReaderDecidesFrom (faulted (open_reply s) f) (reader_state_of s codec src dst)
    more answer) wrong h in
    let split = some_split laws codec src dst more are others in
    let decides : NumberedPayloadsDecide (reply_so_far s) split.0.payloads split.0.rest answer =
    subst (λ f. NumberedPayloadsDecide (faulted (open_reply s) f) split.0.payloads split.0.rest
    answer) (sym wrong) known in
    decides_going start first from_src from_dst more answer began
    (decides_more laws (reply_so_far start) first.limit (packet_number first from_dst)
    (held first from_src from_dst) payloads s codec src dst r more split.0 split.1 answer
    decides)

-- Bytes that split into no payload and an empty rest are none.
no_bytes : (limit number : ℕ) (bytes : List ℕ) (split : Split) →
    IsSplit limit (OnFrom number) bytes split → split.payloads ≡ [] → split.rest ≡ Empty → bytes ≡
    []
unfolding chunks
no_bytes limit number bytes split is none empty =
    let ends : IsRest limit (first_number (after_all split.payloads (OnFrom number)))
    split.rest_bytes Empty = subst
    (IsRest limit (first_number (after_all split.payloads (OnFrom number))) split.rest_bytes)
    empty is.ends in
    let zero_count : ends.count ≡ 0 = omega (arith, ends.full, ends.ends.0) in
    let no_tail : ends.tail ≡ [] = nil_from_length ends.tail ends.ends.1 in
    let chunks_none : chunks ends.body (first_number (after_all split.payloads (OnFrom number)))
    ends.count ≡ [] = rw zero_count refl in
    is.joined ∙ ap (λ ps. framings ps (OnFrom number) ++ split.rest_bytes) none ∙ ends.joined ∙
    ap (λ k. k ++ ends.tail) chunks_none ∙ no_tail

-- Payloads of which none can be numbered are followed by one that is too large.
not_empty_from : (left : ℕ) (payloads : List Payload) (rest : Rest) →
    (payloads ≡ [] → rest ≡ Empty → ⊥) → take left payloads ≡ [] →
    (if nat_le (length payloads) left then rest else TooLarge) ≡ Empty → ⊥
not_empty_from left [] rest some none h =
    let e : nat_le 0 left ≡ true = grind (arith, nat_tests) in
    some refl (sym (ap (λ b. if b then rest else TooLarge) e) ∙ h)
not_empty_from zero (p ∷ ps) rest some none h =
    let e : nat_le (suc (length ps)) 0 ≡ false = leb-suc-zero (length ps) in
    absurd (let k : TooLarge ≡ Empty = sym (ap (λ b. if b then rest else TooLarge) e) ∙ h in cc)
not_empty_from (suc left) (p ∷ ps) rest some none h = absurd (let k : p ∷ take left ps ≡ [] = none in cc)

-- Something after the last result.
over_ends : (s : ReplyState) (rest : Rest) (end : End) → IsOver s → end ≡
    end_behind true s.count rest → end ≡ end_behind (is_over s.events.so_far.awaited) s.count rest
over_ends s rest end over h = h ∙ sym (ap (λ b. end_behind b s.count rest) over)

after_end : (s : ReplyState) (z : List Payload) (rest : Rest) (answer : Answer) → IsOver s →
    (z ≡ [] → rest ≡ Empty → ⊥) → answer ≡ faulted_at (open_reply s) faults.AfterEnd →
    PayloadsDecide (GoingOn (open_reply s)) z rest answer
after_end s [] Empty answer over some h = absurd (some refl refl)
after_end s [] rest answer over some h =
    stops s rest answer (ap (λ a. a.results) h) (ap (λ a. a.progress) h)
    (over_ends s rest answer.end over (ap (λ a. a.end) h))
after_end s (payload ∷ z) rest answer over some h =
    subst (λ (t : ReplySoFar). answer ≡ answer_behind (reply.after_all t z) rest)
    (sym (ap (λ r. led_by (open_reply s) r)
    (not_due s.events.context s.events.so_far payload over)))
    (decides_answered (faulted_at (open_reply s) faults.AfterEnd) z rest answer h)

-- Bytes after the end: that fault is decided, whatever follows.
pub goes_on_over : FramingLaws →
    (start s after : ReplyState) (first codec : Codec) (from_src from_dst src dst : List ℕ)
    (payloads : List Payload) → Since start first from_src from_dst payloads s codec src dst →
    start.fault ≡ None → s.fault ≡ None → after ≡ record s { fault = Some faults.AfterEnd } →
    IsOver s → IsBetween codec → codec.number < 256 → dst ≡ [] → AreBytes (held codec src dst) →
    (src ≡ [] → ⊥) → ReaderGoesOn (reader_state_of start first from_src from_dst) []
    (reader_state_of after codec src dst)
goes_on_over laws start s after first codec from_src from_dst src dst payloads r began going is over
    between byte empty are some more answer others h =
    let known : answer ≡ faulted_at (open_reply s) faults.AfterEnd =
    subst (λ (t : ReplyState). ReaderDecides (reader_state_of t codec src dst) more answer) is
    h in
    let split = some_split laws codec src dst more are others in
    let held_some : split.0.payloads ≡ [] → split.0.rest ≡ Empty → ⊥ = λ none nothing.
    let all : held codec src dst ++ more ≡ [] =
    no_bytes codec.limit (packet_number codec dst) (held codec src dst ++ more) split.0 split.1
    none nothing in
    some (nil_from_length src
    (omega (
      arith,
      ap length all,
      length-append (held codec src dst) more,
      ap length (held_nothing laws codec src dst between byte empty),
    ))) in
    let continues = after_end s (numbered s.count split.0.payloads)
    (after_numbered s.count split.0.payloads split.0.rest) answer over
    (not_empty_from (numbers_left s.count) split.0.payloads split.0.rest held_some) known in
    let decides : NumberedPayloadsDecide (reply_so_far s) split.0.payloads split.0.rest answer =
    subst (λ f. NumberedPayloadsDecide (faulted (open_reply s) f) split.0.payloads split.0.rest
    answer) (sym going) continues in
    decides_going start first from_src from_dst more answer began
    (decides_more laws (reply_so_far start) first.limit (packet_number first from_dst)
    (held first from_src from_dst) payloads s codec src dst r more split.0 split.1 answer
    decides)

-- Where the bytes are at fault, that fault is decided, whatever follows.
decides_refused : (s : ReplyState) (rest : Rest) (fault : ReplyFault) (answer : Answer) → s.fault ≡
    None → FaultAt s.count fault ≡ end_behind (is_over s.events.so_far.awaited) s.count rest →
    answer ≡ faulted_at (open_reply s) fault →
    NumberedPayloadsDecide (reply_so_far s) [] rest answer
decides_refused s rest fault answer going end h =
    subst (λ f. NumberedPayloadsDecide (faulted (open_reply s) f) [] rest answer) (sym going)
    (decides_none (GoingOn (open_reply s)) rest answer
    (stops s rest answer (ap (λ a. a.results) h) (ap (λ a. a.progress) h) (ap (λ a. a.end) h ∙
    end)))

pub goes_on_large : FramingLaws →
    (start s after : ReplyState) (first codec new : Codec)
    (from_src from_dst src dst src' dst' : List ℕ) (payloads : List Payload) →
    Since start first from_src from_dst payloads s codec src dst → start.fault ≡ None → s.fault ≡
    None → after ≡ record s { fault = Some faults.TooLarge } → IsAwaiting s →
    IsDue codec src dst refusals.TooLarge →
    ReaderGoesOn (reader_state_of start first from_src from_dst) []
    (reader_state_of after new src' dst')
goes_on_large laws start s after first codec new from_src from_dst src dst src' dst' payloads r
    began going is some due more answer others h =
    let known : answer ≡ faulted_at (open_reply s) faults.TooLarge =
    subst (λ (t : ReplyState). ReaderDecides (reader_state_of t new src' dst') more answer) is
    h in
    decides_going start first from_src from_dst more answer began
    (decides_more laws (reply_so_far start) first.limit (packet_number first from_dst)
    (held first from_src from_dst) payloads s codec src dst r more
    (record { payloads = []; rest_bytes = held codec src dst ++ more; rest = TooLarge })
    ((laws.refused codec src dst more).0 due) answer
    (decides_refused s TooLarge faults.TooLarge answer going (end_large s some) known))

pub goes_on_wrong_number : FramingLaws →
    (start s after : ReplyState) (first codec new : Codec)
    (from_src from_dst src dst src' dst' : List ℕ) (payloads : List Payload) →
    Since start first from_src from_dst payloads s codec src dst → start.fault ≡ None → s.fault ≡
    None → after ≡ record s { fault = Some faults.OutOfSync } → IsAwaiting s →
    IsDue codec src dst refusals.OutOfSync →
    ReaderGoesOn (reader_state_of start first from_src from_dst) []
    (reader_state_of after new src' dst')
goes_on_wrong_number laws start s after first codec new from_src from_dst src dst src' dst' payloads
    r began going is some due more answer others h =
    let known : answer ≡ faulted_at (open_reply s) faults.OutOfSync =
    subst (λ (t : ReplyState). ReaderDecides (reader_state_of t new src' dst') more answer) is
    h in
    decides_going start first from_src from_dst more answer began
    (decides_more laws (reply_so_far start) first.limit (packet_number first from_dst)
    (held first from_src from_dst) payloads s codec src dst r more
    (record { payloads = []; rest_bytes = held codec src dst ++ more; rest = OutOfSync })
    ((laws.refused codec src dst more).1 due) answer
    (decides_refused s OutOfSync faults.OutOfSync answer going (end_wrong_number s some) known))

-- A reply that goes on is unfinished.
unfinished_at : (s : ReplyState) → IsAwaiting s →
    end_behind (is_over s.events.so_far.awaited) s.count stream.Open ≡ Unfinished
unfinished_at s awaiting = ap (λ b. end_behind b s.count stream.Open) awaiting

-- Memory ran out after some payloads.
pub runs_short : (start s : ReplyState) (first codec : Codec) (from_src from_dst src dst : List ℕ)
    (payloads : List Payload) → Since start first from_src from_dst payloads s codec src dst →
    start.fault ≡ None → s.fault ≡ None → s.count ≡ start.count + length payloads → IsAwaiting s →
    RunsShort (reader_state_of start first from_src from_dst) (held first from_src from_dst)
    (faulted_at (open_reply s) faults.Memory)
runs_short start s first codec from_src from_dst src dst payloads r began going count awaiting =
    let whole : Answer = record (faulted_at (open_reply s) faults.Memory) {
      end =
          end_behind (is_over s.events.so_far.awaited) s.count stream.Open;
    } in
    let decided : NumberedPayloadsDecide (reply_so_far s) [] stream.Open whole =
    subst (λ f. NumberedPayloadsDecide (faulted (open_reply s) f) [] stream.Open whole)
    (sym going)
    (decides_none (GoingOn (open_reply s)) stream.Open whole (stops s stream.Open whole refl refl refl)) in
    record {
      read = payloads;
      first = record { more = held codec src dst; joined = r.read.joined; within = r.read.within };
      whole = whole;
      decided = subst (λ ps. NumberedPayloadsDecide (reply_so_far start) ps stream.Open whole)
          (append-nil payloads) (r.goes_on [] stream.Open whole decided);
      unfinished = unfinished_at s awaiting;
      results = refl;
      progress = refl;
      end = ap (λ n. FaultAt n faults.Memory) (count ∙
          ap (λ f. count_of (faulted (open_reply start) f) + length payloads) (sym began));
    }

-- An empty rest.
pub empty_rest : (limit number : ℕ) → IsRest limit number [] Empty
unfolding chunks
empty_rest limit number =
    record {
      body = [];
      count = 0;
      tail = [];
      full = refl;
      within = omega arith;
      joined =
          refl;
      ends = (refl, refl);
    }

quiet_end : (b : Bool) (count : ℕ) (rest : Rest) → ¬ IsFault rest → (b ≡ true → rest ≡ Empty) →
    end_behind b count Empty ≡ end_behind b count rest
quiet_end true count rest no_fault over = rw (over refl) refl
quiet_end false count Empty no_fault over = refl
quiet_end false count TooLarge no_fault over = absurd (no_fault tt)
quiet_end false count OutOfSync no_fault over = absurd (no_fault tt)
quiet_end false count stream.Open no_fault over = refl

-- The answer where no more bytes come.
pub finish_going : (s : ReplyState) (codec : Codec) (src dst : List ℕ) (answer : Answer) →
    IsReading s → s.fault ≡ None → IsPaused s codec src dst → answer ≡ answer_of s →
    ReaderDecides (reader_state_of s codec src dst) [] answer
finish_going s codec src dst answer reading going p h =
    let end : answer.end ≡ end_behind (is_over s.events.so_far.awaited) s.count p.rest =
    ap (λ a. a.end) h ∙ ap (λ f. end_of_state (open_reply s) f) going ∙
    quiet_end (is_over s.events.so_far.awaited) s.count p.rest p.no_fault p.over in
    let split : BytesDecide (reply_so_far s) codec.limit (packet_number codec dst)
    (held codec src dst ++ []) answer = record {
      split = record { payloads = []; rest_bytes = held codec src dst; rest = p.rest };
      splits = record { joined = append-nil (held codec src dst); within = tt; ends = p.is_rest };
      decides = subst (λ f. NumberedPayloadsDecide (faulted (open_reply s) f) [] p.rest answer)
          (sym going) (decides_none (GoingOn (open_reply s)) p.rest answer
          (stops s p.rest answer (ap (λ a. a.results) h) (ap (λ a. a.progress) h) end));
    } in
    decides_going s codec src dst [] answer going split

pub finish_faulted : (s : ReplyState) (codec : Codec) (src dst : List ℕ) (fault : ReplyFault)
    (answer : Answer) → s.fault ≡ Some fault → answer ≡ answer_of s →
    ReaderDecides (reader_state_of s codec src dst) [] answer
finish_faulted s codec src dst fault answer wrong h =
    subst (λ f. ReaderDecidesFrom (faulted (open_reply s) f) (reader_state_of s codec src dst) []
    answer) (sym wrong) (h ∙ ap
    (λ f. record (faulted_at (open_reply s) fault) { end = end_of_state (open_reply s) f })
    wrong)

-- Payloads are being taken, and no fault was met.
pub record Taking (start : ReplyState) (first : Codec) (from_src from_dst : List ℕ) (s : ReplyState)
    (codec : Codec) (src dst : List ℕ) : Type 0 where
  pub payloads : List Payload
  pub received : Since start first from_src from_dst payloads s codec src dst
  pub reading : IsReading s
  pub going : s.fault ≡ None
  pub count : s.count ≡ start.count + length payloads
  pub bytes : AreBytes (held codec src dst)
  pub nothing_begun : NothingBegun s codec dst

pub taking_starts : (start : ReplyState) (first : Codec) (from_src from_dst : List ℕ) →
    IsReading start → start.fault ≡ None → first.refused ≡ None → CanGoOn first from_dst →
    AreBytes (held first from_src from_dst) → NothingBegun start first from_dst →
    Taking start first from_src from_dst start first from_src from_dst
taking_starts start first from_src from_dst reading going ready can_go_on bytes nothing_begun = record {
  payloads = [];
  received = received_none start first from_src from_dst ready can_go_on;
  reading = reading;
  going = going;
  count = omega arith;
  bytes = bytes;
  nothing_begun = nothing_begun;
}

pub handed_number : (codec new : Codec) (src dst src' payload : List ℕ) →
    HandsOut codec src dst new src' payload → new.number < 256
handed_number codec new src dst src' payload h = omega (arith, h.number)

-- What follows bytes is bytes.
bytes_after : (front back : List ℕ) → AreBytes (front ++ back) → AreBytes back
bytes_after [] back f = f
bytes_after (x ∷ front) back f = bytes_after front back (λ i. f (suc i))

handed_bytes : FramingLaws → (codec new : Codec) (src dst src' dst' payload : List ℕ) →
    HandsOut codec src dst new src' payload → dst' ≡ [] → AreBytes (held codec src dst) →
    AreBytes (held new src' dst')
handed_bytes laws codec new src dst src' dst' payload h empty are =
    subst AreBytes (sym (held_nothing laws new src' dst' h.between
    (handed_number codec new src dst src' payload h) empty))
    (bytes_after (framing payload (packet_number codec dst)) src' (subst AreBytes h.framed are))

pub taking_next : FramingLaws →
    (start s next : ReplyState) (first codec new : Codec)
    (from_src from_dst src dst src' dst' payload : List ℕ) →
    Taking start first from_src from_dst s codec src dst → HandsOut codec src dst new src' payload →
    dst' ≡ [] → IsReading next → next.fault ≡ None → next.count ≡ s.count + 1 →
    NumberedStateGoesOn s payload next → Taking start first from_src from_dst next new src' dst'
taking_next laws start s next first codec new from_src from_dst src dst src' dst' payload t h empty
    reading going count goes = record {
      payloads = t.payloads ++ payload ∷ [];
      received =
          received_next laws _ _ _ _ t.payloads s next codec new src dst src' dst' payload t.received h
          empty goes;
      reading = reading;
      going = going;
      count = omega (arith, t.count, length-append t.payloads (payload ∷ []));
      bytes = handed_bytes laws codec new src dst src' dst' payload h empty t.bytes;
      nothing_begun = λ over. (h.between, handed_number codec new src dst src' payload h, empty);
    }

-- After the last result nothing is held.
pub paused_over : FramingLaws → (s : ReplyState) (codec : Codec) (src dst : List ℕ) →
    NothingBegun s codec dst → IsOver s → src ≡ [] → codec.refused ≡ None → CanGoOn codec dst →
    AreBytes (held codec src dst) → IsPaused s codec src dst
paused_over laws s codec src dst nothing_begun over none refused can_go_on bytes =
    let begun = nothing_begun over in
    let nothing : held codec src dst ≡ [] = held_nothing laws codec src dst begun.0 begun.1 begun.2 ∙ none in
    record {
      refused = refused;
      can_go_on = can_go_on;
      rest = Empty;
      no_fault = λ f. f;
      is_rest = subst (λ k. IsRest codec.limit (packet_number codec dst) k Empty) (sym nothing)
          (empty_rest codec.limit (packet_number codec dst));
      bytes = bytes;
      nothing_begun = nothing_begun;
      over = λ o. refl;
    }

-- The codec waits.
pub received_waits : FramingLaws →
    (from : ReplySoFar) (limit number : ℕ) (bytes : List ℕ) (payloads : List Payload)
    (s : ReplyState) (codec new : Codec) (src dst src' dst' : List ℕ) →
    Received from limit number bytes payloads s codec src dst → Waits codec src dst new src' dst' →
    Received from limit number bytes payloads s new src' dst'
received_waits laws from limit number bytes payloads s codec new src dst src' dst' r w = record {
  read = (laws.waits limit (OnFrom number) bytes payloads codec new src dst src' dst' w r.read).0;
  goes_on = r.goes_on;
}

pub rest_waits : (codec new : Codec) (src dst src' dst' : List ℕ) →
    (w : Waits codec src dst new src' dst') →
    IsRest new.limit (packet_number new dst') (held new src' dst') w.rest
rest_waits codec new src dst src' dst' w =
    subst (λ k. IsRest k (packet_number new dst') (held new src' dst') w.rest) (sym w.limit)
    (subst (λ k. IsRest codec.limit k (held new src' dst') w.rest) (sym w.number)
    (subst (λ k. IsRest codec.limit (packet_number codec dst) k w.rest) (sym w.held_same) w.is_rest))

pub paused_waits : (start s : ReplyState) (first codec new : Codec)
    (from_src from_dst src dst src' dst' : List ℕ) →
    Taking start first from_src from_dst s codec src dst → Waits codec src dst new src' dst' →
    IsAwaiting s → IsPaused s new src' dst'
paused_waits start s first codec new from_src from_dst src dst src' dst' t w some = record {
  refused = w.refused;
  can_go_on = w.goes_on;
  rest = w.rest;
  no_fault = w.no_fault;
  is_rest = rest_waits codec new src dst src' dst' w;
  bytes = subst AreBytes (sym w.held_same) t.bytes;
  nothing_begun = λ over. absurd (never (is_over s.events.so_far.awaited) over some);
  over = λ over. absurd (never (is_over s.events.so_far.awaited) over some);
}

-- What the codec refuses is decided, unless memory ran out.
pub refused_goes_on : FramingLaws →
    (start s after : ReplyState) (first codec new : Codec)
    (from_src from_dst src dst src' dst' : List ℕ) (refusal : Refusal) (fault : ReplyFault) →
    Taking start first from_src from_dst s codec src dst → start.fault ≡ None → IsAwaiting s →
    fault ≡ fault_named (error_of refusal) → after ≡ record s { fault = Some fault } →
    IsDue codec src dst refusal →
    UnlessMemory {X = Unit {0}} (Err fault)
    (ReaderGoesOn (reader_state_of start first from_src from_dst) []
    (reader_state_of after new src' dst'))
refused_goes_on laws start s after first codec new from_src from_dst src dst src' dst'
    refusals.TooLarge fault t began some e is due =
    subst (λ f. UnlessMemory {X =
    Unit {0}} (Err f) (ReaderGoesOn (reader_state_of start first from_src from_dst) []
    (reader_state_of after new src' dst'))) (sym e)
    (goes_on_large laws start s after first codec new from_src from_dst src dst src' dst' t.payloads
    t.received began t.going (is ∙ ap (λ f. record s { fault = Some f }) e) some due)
refused_goes_on laws start s after first codec new from_src from_dst src dst src' dst'
    refusals.OutOfSync fault t began some e is due =
    subst (λ f. UnlessMemory {X =
    Unit {0}} (Err f) (ReaderGoesOn (reader_state_of start first from_src from_dst) []
    (reader_state_of after new src' dst'))) (sym e)
    (goes_on_wrong_number laws start s after first codec new from_src from_dst src dst src' dst'
    t.payloads t.received began t.going (is ∙ ap (λ f. record s { fault = Some f }) e) some due)
refused_goes_on laws start s after first codec new from_src from_dst src dst src' dst'
    refusals.Memory fault t began some e is due =
    subst (λ f. UnlessMemory {X =
    Unit {0}} (Err f) (ReaderGoesOn (reader_state_of start first from_src from_dst) []
    (reader_state_of after new src' dst'))) (sym e) tt

taking_short : (start s : ReplyState) (first codec : Codec) (from_src from_dst src dst : List ℕ) →
    Taking start first from_src from_dst s codec src dst → start.fault ≡ None → IsAwaiting s →
    RunsShort (reader_state_of start first from_src from_dst) (held first from_src from_dst)
    (faulted_at (open_reply s) faults.Memory)
taking_short start s first codec from_src from_dst src dst t began awaiting =
    runs_short start s first codec from_src from_dst src dst t.payloads t.received began t.going
    t.count awaiting

pub failed_short : (start s after : ReplyState) (first codec new : Codec)
    (from_src from_dst src dst src' dst' : List ℕ) (fault : ReplyFault) →
    Taking start first from_src from_dst s codec src dst → start.fault ≡ None → IsAwaiting s →
    after ≡ record s { fault = Some fault } →
    OnMemory {X = Unit {0}} (Err fault)
    (StandsShort (reader_state_of start first from_src from_dst) (held first from_src from_dst)
    (reader_state_of after new src' dst'))
failed_short start s after first codec new from_src from_dst src dst src' dst' faults.Memory t began awaiting is = (
  faulted_at (open_reply s) faults.Memory,
  ap reply_so_far is,
  taking_short start s first codec from_src from_dst src dst t began awaiting,
)
failed_short start s after first codec new from_src from_dst src dst src' dst' fault t began awaiting is = tt

pub taken_short : (start s after : ReplyState) (first codec new : Codec)
    (from_src from_dst src dst src' dst' : List ℕ) (r : Result Unit ReplyFault) →
    Taking start first from_src from_dst s codec src dst → start.fault ≡ None → IsAwaiting s →
    OnMemory r (IsShortOf s after) →
    OnMemory r (StandsShort (reader_state_of start first from_src from_dst)
    (held first from_src from_dst) (reader_state_of after new src' dst'))
taken_short start s after first codec new from_src from_dst src dst src' dst' (Ok x) t began awaiting short = tt
taken_short start s after first codec new from_src from_dst src dst src' dst' (Err faults.Memory) t
    began awaiting short = (
      faulted_at (open_reply s) faults.Memory,
      short,
      taking_short start s first codec from_src from_dst src dst t began awaiting,
    )
taken_short start s after first codec new from_src from_dst src dst src' dst' (Err fault) t began awaiting short = tt

-- A payload was refused.
pub taken_goes_on : FramingLaws →
    (start s next : ReplyState) (first codec new : Codec)
    (from_src from_dst src dst src' dst' payload : List ℕ) (r : Result Unit ReplyFault) → is_err r ≡
    true → Taking start first from_src from_dst s codec src dst → start.fault ≡ None →
    HandsOut codec src dst new src' payload → dst' ≡ [] →
    IfErr r (λ fault. next.fault ≡ Some fault) →
    UnlessMemory r (NumberedStateGoesOn s payload next) →
    UnlessMemory r (ReaderGoesOn (reader_state_of start first from_src from_dst) []
    (reader_state_of next new src' dst'))
taken_goes_on laws start s next first codec new from_src from_dst src dst src' dst' payload (Ok x)
    failed t began h empty wrong goes = absurd (let k : false ≡ true = failed in cc)
taken_goes_on laws start s next first codec new from_src from_dst src dst src' dst' payload
    (Err faults.Memory) failed t began h empty wrong goes = tt
taken_goes_on laws start s next first codec new from_src from_dst src dst src' dst' payload
    (Err fault) failed t began h empty wrong goes =
    goes_on_faulted laws start next first new from_src from_dst src' dst' (t.payloads ++ payload ∷ []) fault
    (received_next laws _ _ _ _ t.payloads s next codec new src dst src' dst' payload t.received h empty goes)
    began wrong (handed_bytes laws codec new src dst src' dst' payload h empty t.bytes)

-- What holds unless memory ran out holds where it didn't, and what holds where it ran out, where it did.
pub unless_is : {X P : Type 0} (r : Result X ReplyFault) → (r ≡ Err faults.Memory → ⊥) → UnlessMemory r P → P
unless_is (Ok x) never p = p
unless_is (Err faults.Memory) never p = absurd (never refl)
unless_is (Err fault) never p = p

pub on_is : {X P : Type 0} (r : Result X ReplyFault) → r ≡ Err faults.Memory → OnMemory r P → P
on_is {P = P} r memory p = subst (λ k. OnMemory k P) memory p

-- A state with a fault keeps what it kept before.
pub reading_faulty : (s after : ReplyState) (fault : ReplyFault) → after ≡
    record s { fault = Some fault } → IsReading s → IsReading after
reading_faulty s after fault is r =
    subst IsReading (sym is) (record {
      no_fault =
          λ h. absurd (let k : Some fault ≡ None = h in cc);
      fits =
          λ h. absurd (let k : Some fault ≡ None = h in cc);
      room = r.room;
      spared = r.spared;
      empty =
          r.empty;
    })

-- A failed answer is none that is Ok.
pub no_ok : (P : Type 0) (r : Result (Unit {0}) ReplyFault) → is_err r ≡ true → OnOk r P
no_ok P (Ok x) h = absurd (let k : false ≡ true = h in cc)
no_ok P (Err fault) h = tt

pub taken_ok : {P : Type 0} (r : Result Unit ReplyFault) → is_err r ≡ false → OnOk r P → P
taken_ok (Ok x) h p = p
taken_ok (Err e) h p = absurd (let k : true ≡ false = h in cc)

pub taken_unless : {P : Type 0} (r : Result Unit ReplyFault) → is_err r ≡ false → UnlessMemory r P → P
taken_unless (Ok x) h p = p
taken_unless (Err e) h p = absurd (let k : true ≡ false = h in cc)

pub fault_is : (s : ReplyState) → fault_of (reply_so_far s) ≡ s.fault
fault_is s = fault_is_by (open_reply s) s.fault
  where
    fault_is_by : (p : OpenReply) (f : Option ReplyFault) → fault_of (faulted p f) ≡ f
    fault_is_by p None = refl
    fault_is_by p (Some fault) = refl

pub if_fault : (P : ReplyFault → Type 0) (o : Option ReplyFault) (fault : ReplyFault) → o ≡
    Some fault → P fault → IfSome o P
if_fault P o fault e p = subst (λ o. IfSome o P) (sym e) p

pub if_no_fault : (P : ReplyFault → Type 0) (o : Option ReplyFault) → o ≡ None → IfSome o P
if_no_fault P o e = subst (λ o. IfSome o P) (sym e) tt

pub not_both : {P : Type 0} (o : Option ReplyFault) (fault : ReplyFault) → o ≡ Some fault → o ≡ None → P
not_both o fault some none = absurd (let k : Some fault ≡ None = sym some ∙ none in cc)

-- A piece that comes is decided with the bytes after it.
pub piece_decides : FramingLaws →
    (s : ReplyState) (codec : Codec) (src src' dst piece more : List ℕ) (answer : Answer) →
    s.fault ≡ None → src' ≡ src ++ piece →
    ReaderDecides (reader_state_of s codec src' dst) more answer →
    ReaderDecides (reader_state_of s codec src dst) (piece ++ more) answer
piece_decides laws s codec src src' dst piece more answer going fed h =
    let d = going_decides s codec src' dst more answer going h in
    let bytes : held codec src' dst ++ more ≡ held codec src dst ++ (piece ++ more) =
    ap (λ k. held codec k dst ++ more) fed ∙ ap (λ k. k ++ more) (laws.piece codec src dst piece) ∙
    append_assoc (held codec src dst) piece more in
    decides_going s codec src dst (piece ++ more) answer going
    (subst (λ k. BytesDecide (reply_so_far s) codec.limit (packet_number codec dst) k answer) bytes d)

pub piece_all : FramingLaws →
    (s : ReplyState) (codec : Codec) (src src' dst piece : List ℕ) (new : ReaderState) → s.fault ≡
    None → src' ≡ src ++ piece → ReaderGoesOn (reader_state_of s codec src' dst) [] new →
    ReaderGoesOn (reader_state_of s codec src dst) piece new
piece_all laws s codec src src' dst piece new going fed goes more answer are h =
    piece_decides laws s codec src src' dst piece more answer going fed (goes more answer are h)

pub piece_goes_on : FramingLaws →
    (s : ReplyState) (codec : Codec) (src src' dst piece : List ℕ) (new : ReaderState)
    (r : Result Unit ReplyFault) → s.fault ≡ None → src' ≡ src ++ piece →
    UnlessMemory r (ReaderGoesOn (reader_state_of s codec src' dst) [] new) →
    UnlessMemory r (ReaderGoesOn (reader_state_of s codec src dst) piece new)
piece_goes_on laws s codec src src' dst piece new (Ok x) going fed goes =
    piece_all laws s codec src src' dst piece new going fed goes
piece_goes_on laws s codec src src' dst piece new (Err faults.Memory) going fed goes = tt
piece_goes_on laws s codec src src' dst piece new (Err fault) going fed goes =
    piece_all laws s codec src src' dst piece new going fed goes

stays_all : (s : ReplyState) (codec : Codec) (src dst piece : List ℕ) (fault : ReplyFault) →
    s.fault ≡ Some fault → ReaderGoesOn (reader_state_of s codec src dst) piece
    (reader_state_of s codec src dst)
stays_all s codec src dst piece fault wrong more answer are =
    subst (λ f. ReaderDecidesFrom (faulted (open_reply s) f) (reader_state_of s codec src dst) more
    answer → ReaderDecidesFrom (faulted (open_reply s) f) (reader_state_of s codec src dst)
    (piece ++ more) answer) (sym wrong) (λ h. h)

-- A fault that was met stays decided.
pub stays_going_on : (s : ReplyState) (codec : Codec) (src dst piece : List ℕ)
    (fault : ReplyFault) → s.fault ≡ Some fault →
    UnlessMemory {X = Unit {0}} (Err fault)
    (ReaderGoesOn (reader_state_of s codec src dst) piece (reader_state_of s codec src dst))
stays_going_on s codec src dst piece faults.Memory wrong = tt
stays_going_on s codec src dst piece fault wrong = stays_all s codec src dst piece fault wrong

-- The answer where no more bytes come.
pub finish_decides : (s : ReplyState) (codec : Codec) (src dst : List ℕ) (answer : Answer) →
    IsReceiving s codec src dst → answer ≡ answer_of s →
    ReaderDecides (reader_state_of s codec src dst) [] answer
finish_decides s codec src dst answer receiving h = finish_by s.fault refl
  where
    finish_by : (f : Option ReplyFault) → s.fault ≡ f → ReaderDecides (reader_state_of s codec src dst) [] answer
    finish_by None going = finish_going s codec src dst answer receiving.reading going (receiving.paused going) h
    finish_by (Some fault) wrong = finish_faulted s codec src dst fault answer wrong h

-- A fresh reader.
pub fresh_paused : FramingLaws → (s : ReplyState) (codec : Codec) (src dst : List ℕ) →
    IsBetween codec → codec.number < 256 → src ≡ [] → dst ≡ [] → IsPaused s codec src dst
fresh_paused laws s codec src dst between byte none empty =
    let nothing : held codec src dst ≡ [] = held_nothing laws codec src dst between byte empty ∙ none in
    record {
      refused = between.1;
      can_go_on = λ e. subst (λ k. IsOfPacket codec.limit codec.begun k) (sym empty)
          (subst (λ k. IsOfPacket codec.limit k []) (sym between.0) (omega arith, refl));
      rest = Empty;
      no_fault = λ f. f;
      is_rest = subst (λ k. IsRest codec.limit (packet_number codec dst) k Empty) (sym nothing)
          (empty_rest codec.limit (packet_number codec dst));
      bytes = subst AreBytes (sym nothing) (λ i. omega arith);
      nothing_begun = λ over. (between, byte, empty);
      over = λ over. refl;
    }

-- What was held and a piece are the bytes that are held then.
pub takes_piece : FramingLaws →
    (s : ReplyState) (codec : Codec) (src src' dst piece : List ℕ) (new : ReaderState)
    (r : Result Unit ReplyFault) → src' ≡ src ++ piece →
    OnOk r (TakesAll (reader_state_of s codec src' dst) (held codec src' dst) new) →
    OnOk r (TakesAll (reader_state_of s codec src dst) (held codec src dst ++ piece) new)
takes_piece laws s codec src src' dst piece new (Ok x) fed t = record {
  split = t.split;
  splits = subst (λ bytes. IsSplit codec.limit (OnFrom (packet_number codec dst)) bytes t.split)
      (ap (λ k. held codec k dst) fed ∙ laws.piece codec src dst piece) t.splits;
  no_fault = t.no_fault;
  left = t.left;
  number = t.number;
  limit = t.limit;
  count = t.count;
  goes_on = t.goes_on;
}
takes_piece laws s codec src src' dst piece new (Err fault) fed t = t

-- After a fault the bytes that are held don't matter.
decides_anywhere : (s : ReplyState) (fault : ReplyFault) (here there : ReaderState) (more : List ℕ)
    (answer : Answer) → s.fault ≡ Some fault → here.so_far ≡ reply_so_far s → there.so_far ≡
    reply_so_far s → ReaderDecides here more answer → ReaderDecides there more answer
decides_anywhere s fault here there more answer wrong one two h =
    let known : ReplySoFar = Answered (faulted_at (open_reply s) fault) in
    let is : reply_so_far s ≡ known = ap (λ f. faulted (open_reply s) f) wrong in
    let answered : ReaderDecidesFrom known here more answer =
    subst (λ k. ReaderDecidesFrom k here more answer) (one ∙ is) h in
    subst (λ k. ReaderDecidesFrom k there more answer) (sym (two ∙ is)) answered

-- What ran short over the bytes that are held ran short over the piece.
pub piece_short : FramingLaws →
    (s : ReplyState) (codec : Codec) (src src' dst piece : List ℕ) (fault : ReplyFault)
    (here there : ReaderState) → src' ≡ src ++ piece → here.so_far ≡ there.so_far →
    OnMemory {X = Unit {0}} (Err fault)
    (StandsShort (reader_state_of s codec src' dst) (held codec src' dst) here) →
    OnMemory {X = Unit {0}} (Err fault)
    (StandsShort (reader_state_of s codec src dst) (held codec src dst ++ piece) there)
piece_short laws s codec src src' dst piece faults.Memory here there fed same (answer, stands, short) = (
  answer,
  sym same ∙ stands,
  record {
    read = short.read;
    first = subst (λ bytes. StandFirst codec.limit (OnFrom (packet_number codec dst)) bytes
        short.read) (ap (λ k. held codec k dst) fed ∙ laws.piece codec src dst piece) short.first;
    whole = short.whole;
    decided = short.decided;
    unfinished = short.unfinished;
    results = short.results;
    progress = short.progress;
    end = short.end;
  },
)
piece_short laws s codec src src' dst piece fault here there fed same short = tt

-- A piece adds bytes to what is held.
pub piece_bytes : FramingLaws → (codec : Codec) (src src' dst piece : List ℕ) → src' ≡ src ++
    piece → AreBytes (held codec src dst) → AreBytes piece → AreBytes (held codec src' dst)
piece_bytes laws codec src src' dst piece fed are others =
    subst AreBytes (sym (ap (λ k. held codec k dst) fed ∙ laws.piece codec src dst piece))
    (bytes_append (held codec src dst) piece are others)

-- After the last result no byte is held.
pub paused_empty : FramingLaws → (s : ReplyState) (codec : Codec) (src dst : List ℕ) →
    IsPaused s codec src dst → IsOver s → src ≡ []
paused_empty laws s codec src dst p over =
    let begun = p.nothing_begun over in
    let split : Split = record { payloads = []; rest_bytes = held codec src dst; rest = p.rest } in
    sym (held_nothing laws codec src dst begun.0 begun.1 begun.2)
    ∙ no_bytes codec.limit (packet_number codec dst) (held codec src dst) split
    (record { joined = refl; within = tt; ends = p.is_rest }) refl (p.over over)

-- Where a fault was met, bytes that are held in place of others change nothing.
pub elsewhere : (start : ReaderState) (next : ReplyState) (here there : ReaderState)
    (r : Result Unit ReplyFault) → is_err r ≡ true → IfErr r (λ fault. next.fault ≡ Some fault) →
    here.so_far ≡ reply_so_far next → there.so_far ≡ reply_so_far next →
    UnlessMemory r (ReaderGoesOn start [] here) → UnlessMemory r (ReaderGoesOn start [] there)
elsewhere start next here there (Ok x) failed wrong one two goes = absurd (let k : false ≡ true = failed in cc)
elsewhere start next here there (Err faults.Memory) failed wrong one two goes = tt
elsewhere start next here there (Err fault) failed wrong one two goes =
    λ more answer are h. goes more answer are
    (decides_anywhere next fault there here more answer wrong two one h)

-- What ran short over the bytes that are held ran short over the piece, if anything did.
pub piece_runs_short : FramingLaws →
    (s : ReplyState) (codec : Codec) (src dst piece : List ℕ) (r : Result Unit ReplyFault)
    (there : ReaderState) → OnMemory r
    (StandsShort (reader_state_of s codec (src ++ piece) dst) (held codec (src ++ piece) dst)
    there) → OnMemory r (StandsShort (reader_state_of s codec src dst) (held codec src dst ++
    piece) there)
piece_runs_short laws s codec src dst piece (Ok x) there short = tt
piece_runs_short laws s codec src dst piece (Err faults.Memory) there short =
    piece_short laws s codec src (src ++ piece) dst piece faults.Memory there there refl refl short
piece_runs_short laws s codec src dst piece (Err fault) there short = tt

-- The codec waits, having used all bytes.
pub waits_plain : (codec new : Codec) (src dst kept rest payload : List ℕ) →
    Waits codec src dst new (kept ++ rest) payload → rest ≡ [] → payload ≡ [] →
    Waits codec src dst new kept []
waits_plain codec new src dst kept rest payload w used none =
    subst (λ l. Waits codec src dst new l []) (ap (λ l. kept ++ l) used ∙
    append-nil kept) (subst (λ l. Waits codec src dst new (kept ++ rest) l) none w)

-- After the last result all bytes are used.
pub over_paused : FramingLaws →
    (start s : ReplyState) (first codec : Codec) (from_src from_dst kept rest dst : List ℕ) →
    Taking start first from_src from_dst s codec (kept ++ rest) dst → IsOver s → kept ≡ [] → rest ≡
    [] → Taking start first from_src from_dst s codec kept dst × IsPaused s codec kept dst
over_paused laws start s first codec from_src from_dst kept rest dst t over none used =
    let here = subst (λ l. Taking start first from_src from_dst s codec l dst)
    (ap (λ l. kept ++ l) used ∙ append-nil kept) t in (
      here,
      paused_over laws s codec kept dst here.nothing_begun over none here.received.read.refused
          here.received.read.goes_on here.bytes,
    )

-- Where what came was taken and what is left is no fault, all payloads were taken, and bytes to come go on.
pub all_taken : FramingLaws →
    (start s : ReplyState) (first codec : Codec) (bytes piece src : List ℕ)
    (payloads : List Payload) (rest : Rest) →
    Since start first (bytes ++ piece) [] payloads s codec src [] → start.fault ≡ None → s.fault ≡
    None → s.count ≡ start.count + length payloads → ¬ IsFault rest →
    IsRest codec.limit (packet_number codec []) (held codec src []) rest
    → TakesAll (reader_state_of start first bytes []) (held first bytes [] ++
    piece) (reader_state_of s codec src []) ×
    ReaderGoesOn (reader_state_of start first bytes []) piece (reader_state_of s codec src [])
all_taken laws start s first codec bytes piece src payloads rest r began going count no_fault is = (
  takes_piece laws start first bytes (bytes ++ piece) [] piece (reader_state_of s codec src [])
      (Ok tt) refl (takes_all start s first codec (bytes ++ piece) [] src [] payloads rest r began
      going count no_fault is),
  piece_all laws start first bytes (bytes ++ piece) [] piece (reader_state_of s codec src []) began
      refl (goes_on_taken laws start s first codec (bytes ++ piece) [] src [] payloads r began
      going),
)

-- What a piece leaves where it was taken whole.
abbrev Taken : ReplyState → Incoming → List ℕ → ReplyState → Incoming → Type 0
Taken start old piece s new =
    IsPaused s (codec_by new) new.bytes [] ×
    TakesAll (reader_state start old) ((reader_state start old).bytes ++
    piece) (reader_state s new)
    × ReaderGoesOn (reader_state start old) piece (reader_state s new)

-- Nothing is awaited any more, and no byte is left.
pub over_taken : FramingLaws → (start s : ReplyState) (old now : Incoming) (piece rest : List ℕ) →
    Taking start (codec_by old) (old.bytes ++ piece) [] s (codec_by now) (now.bytes ++ rest) [] →
    start.fault ≡ None → IsOver s → now.bytes ≡ [] → rest ≡ []
    → Taken start old piece s now
over_taken laws start s old now piece rest t began over kept used =
    let p = over_paused laws start s (codec_by old) (codec_by now) (old.bytes ++ piece) [] now.bytes
    rest [] t over kept used in
    let all = all_taken laws start s (codec_by old) (codec_by now) old.bytes piece now.bytes
    p.0.payloads p.1.rest p.0.received began t.going p.0.count p.1.no_fault p.1.is_rest in
    (p.1, all.0, all.1)

-- The codec waits for more bytes.
pub waits_taken : FramingLaws →
    (start s : ReplyState) (old now new : Incoming) (piece rest left : List ℕ) →
    Taking start (codec_by old) (old.bytes ++ piece) [] s (codec_by now) (now.bytes ++ rest) [] →
    start.fault ≡ None → IsAwaiting s
    → Waits (codec_by now) (now.bytes ++ rest) [] (codec_by new) (new.bytes ++ left) new.payload →
    left ≡ [] → new.payload ≡ [] → Taken start old piece s new
waits_taken laws start s old now new piece rest left t began some waits used none =
    let src = now.bytes ++ rest in
    let w = waits_plain (codec_by now) (codec_by new) src [] new.bytes left new.payload waits used none in
    let r = received_waits laws _ _ _ _ t.payloads s (codec_by now) (codec_by new) src [] new.bytes [] t.received w in
    let all = all_taken laws start s (codec_by old) (codec_by new) old.bytes piece new.bytes
    t.payloads w.rest r began t.going t.count w.no_fault
    (rest_waits (codec_by now) (codec_by new) src [] new.bytes [] w) in (
      paused_waits start s (codec_by old) (codec_by now) (codec_by new) (old.bytes ++
          piece) [] src [] new.bytes [] t w some,
      all.0,
      all.1,
    )

pub not_empty : (xs : List ℕ) (b : Bool) → b ≡ (length xs == 0) → b ≡ false → xs ≡ [] → ⊥
not_empty xs b is false_is none =
    absurd (let k : true ≡ false = sym (is ∙ ap (λ l. length l == 0) none) ∙ false_is in cc)

-- Pieces fed one after another, and the laws of replies over bytes.
use Rattle.std.proofs.Common.{◌≡◌, ℕ, ◌+◌, ◌≤◌, List, [], ◌∷◌, ◌++◌, length, Option, Some, None, Result, Ok, Err, refl}
use Rattle.std.proofs.Common.{ap, sym, subst, arith, ◌∙◌, ◌⊎◌, inl, inr, append_assoc, length-append, take, get_or, ◌<◌}
use Rattle.std.specs.Prelude.{map, IfSome}
use Rattle.std.specs.List.{AllByRecursion, flat_map}
use Rattle.std.proofs.lemmas.List.{append-nil, map-append, take_more}
use Rattle.std.proofs.lemmas.List.Folds.{flat_map-map}
use Rattle.std.proofs.lemmas.Grind.{flat_map-append}
use Rattle.std.specs.Borrow.{Bor}
use Rattle.mysql_wire.specs.Framing.{framing}
use Rattle.mysql_wire.specs.Bytes.{AreBytes}
use Rattle.mysql_wire.specs.Laws.{HasOneSplit}
use Rattle.mysql_wire.specs.Stream as stream
use Rattle.mysql_wire.specs.Stream.{Numbering, IsRest, first_number, after, after_all, framings, with_payloads}
use Rattle.mysql_wire.specs.Stream.Numbering.{OnFrom}
use Rattle.mysql_wire.specs.Stream.Rest.{Empty}
use Rattle.mysql_reply_events.specs.declared.context.Context.{Context}
use Rattle.mysql_replies.specs.declared.fault.ReplyFault.{ReplyFault}
use Rattle.mysql_replies.specs.declared.fault.ReplyFault.TheVariants as faults
use Rattle.mysql_replies.specs.Reply.{Answer, FaultAt, Payload, ReplySoFar, GoingOn, Answered, IsReply}
use Rattle.mysql_replies.specs.Bytes.{numbered, after_numbered, NumberedPayloadsDecide, IsReplyOf, StopsAfter}
use Rattle.mysql_replies.specs.Bytes.{IsShortReplyOf, AnyBytesHaveAnswer, CuttingsAgree}
use Rattle.mysql_replies.specs.Holding.{ReaderState, fresh_reader, ReaderDecides, ReaderDecidesFrom, ReaderGoesOn}
use Rattle.mysql_replies.specs.Holding.{TakesAll, RunsShort, fault_of, EachReaderDecides, ReadersAgree}
use Rattle.mysql_replies.specs.Holding.{FreshReaderDecides}
use Rattle.mysql_replies.specs.Taking.{Feeds}
use Rattle.mysql_replies.proofs.GoingOn.{fresh_decides, each_has_answer, answers_agree, each_decides, decisions_agree}
use Rattle.mysql_replies.proofs.Receiving.{bytes_append, empty_rest, on_from}

framings-append : (ps qs : List Payload) (numbering : Numbering) → framings (ps ++ qs) numbering ≡
    framings ps numbering ++ framings qs (after_all ps numbering)
framings-append [] qs numbering = refl
framings-append (p ∷ ps) qs numbering =
    ap (λ k. framing p (first_number numbering) ++ k) (framings-append ps qs (after p numbering)) ∙
    sym (append_assoc (framing p (first_number numbering)) (framings ps (after p numbering))
    (framings qs (after_all ps (after p numbering))))

pub after_all-append : (ps qs : List Payload) (numbering : Numbering) →
    after_all (ps ++ qs) numbering ≡ after_all qs (after_all ps numbering)
after_all-append [] qs numbering = refl
after_all-append (p ∷ ps) qs numbering = after_all-append ps qs (after p numbering)

pub within-append : (limit : ℕ) (ps qs : List Payload) →
    AllByRecursion (λ payload. length payload ≤ limit) ps →
    AllByRecursion (λ payload. length payload ≤ limit) qs →
    AllByRecursion (λ payload. length payload ≤ limit) (ps ++ qs)
within-append limit [] qs one two = two
within-append limit (p ∷ ps) qs one two = (one.0, within-append limit ps qs one.1 two)

-- What is held decides what a fresh reader decides over the bytes fed and others.
abbrev pub Decided : Context → ℕ → ℕ → List ℕ → ReaderState → Type 0
Decided c first_id limit fed h = (more : List ℕ) (answer : Answer) → AreBytes more →
    ReaderDecides h more answer → ReaderDecides (fresh_reader c first_id limit) (fed ++ more) answer

-- What stands after these pieces: all payloads were taken and no fault was met, memory ran out, or
-- another fault was met.
abbrev pub IsFed : Option ReplyFault → Context → ℕ → ℕ → List (List ℕ) → ReaderState → Type 0
IsFed None c first_id limit pieces h =
    TakesAll (fresh_reader c first_id limit) (flat_map (λ piece. piece) pieces) h ×
    Decided c first_id limit (flat_map (λ piece. piece) pieces) h
IsFed (Some faults.Memory) c first_id limit pieces h = (answer : Answer) ×
    (h.so_far ≡ Answered answer) × IsShortReplyOf c first_id limit pieces answer
IsFed (Some fault) c first_id limit pieces h = Decided c first_id limit (flat_map (λ piece. piece) pieces) h

pub fed_nothing : (c : Context) (first_id limit : ℕ) → IsFed None c first_id limit [] (fresh_reader c first_id limit)
fed_nothing c first_id limit = (
  record {
    split = record { payloads = []; rest_bytes = []; rest = Empty };
    splits = record { joined = refl; within = tt; ends = empty_rest limit first_id };
    no_fault = λ f. f;
    left = refl;
    number = refl;
    limit = refl;
    count = refl;
    goes_on = λ z rest answer h. h;
  },
  λ more answer are h. h,
)

-- The bytes of one more piece.
pub joined_more : (pieces : List (List ℕ)) (piece : List ℕ) →
    flat_map (λ (p : List ℕ). p) (pieces ++ piece ∷ []) ≡ flat_map (λ (p : List ℕ). p) pieces ++
    piece
joined_more pieces piece =
    flat_map-append (λ (p : List ℕ). p) pieces (piece ∷ []) ∙
    ap (λ k. flat_map (λ (p : List ℕ). p) pieces ++ k) (append-nil piece)

-- What follows the payloads fed: other payloads, and what is left.
pub joined_next : (first_id number : ℕ) (fed piece held left : List ℕ) (ps qs : List Payload) →
    fed ≡ framings ps (OnFrom first_id) ++ held → number ≡
    first_number (after_all ps (OnFrom first_id)) → held ++ piece ≡ framings qs (OnFrom number) ++
    left → fed ++ piece ≡ framings (ps ++ qs) (OnFrom first_id) ++ left
joined_next first_id number fed piece held left ps qs one same two =
    let there : framings qs (OnFrom number) ≡ framings qs (after_all ps (OnFrom first_id)) =
    ap (framings qs) (ap OnFrom same ∙ sym (on_from ps first_id)) in
    ap (λ k. k ++ piece) one ∙ append_assoc (framings ps (OnFrom first_id)) held piece ∙
    ap (λ k. framings ps (OnFrom first_id) ++ k) (two ∙ ap (λ k. k ++ left) there)
    ∙ sym (append_assoc (framings ps (OnFrom first_id))
    (framings qs (after_all ps (OnFrom first_id))) left) ∙
    ap (λ k. k ++ left) (sym (framings-append ps qs (OnFrom first_id)))

-- What takes all payloads of bytes, and then of what is left of them with other bytes, takes those of all the bytes.
takes_on : (start mid new : ReaderState) (front back : List ℕ) → TakesAll start front mid →
    TakesAll mid (mid.bytes ++ back) new → TakesAll start (front ++ back) new
takes_on start mid new front back t u =
    let ps = t.split.payloads in
    let qs = u.split.payloads in
    let number : first_number (after_all qs (OnFrom mid.number)) ≡
    first_number (after_all (ps ++ qs) (OnFrom start.number)) =
    ap (λ k. first_number (after_all qs k)) (ap OnFrom t.number ∙ sym (on_from ps start.number)) ∙
    ap first_number (sym (after_all-append ps qs (OnFrom start.number))) in
    record {
      split = with_payloads ps u.split;
      splits = record {
        joined = joined_next start.number mid.number front back mid.bytes u.split.rest_bytes ps qs
            (t.splits.joined ∙ ap (λ k. framings ps (OnFrom start.number) ++ k) (sym t.left))
            t.number u.splits.joined;
        within = within-append start.limit ps qs t.splits.within
            (subst (λ k. AllByRecursion (λ payload. length payload ≤ k) qs) t.limit
            u.splits.within);
        ends = subst (λ k. IsRest start.limit k u.split.rest_bytes u.split.rest) number
            (subst (λ k. IsRest k (first_number (after_all qs (OnFrom mid.number)))
            u.split.rest_bytes u.split.rest) t.limit u.splits.ends);
      };
      no_fault = u.no_fault;
      left = u.left;
      number = u.number ∙ number;
      limit = u.limit ∙ t.limit;
      count = omega (arith, t.count, u.count, length-append ps qs);
      goes_on = λ z rest answer k. subst
          (λ ps'. NumberedPayloadsDecide start.so_far ps' rest answer) (sym (append_assoc ps qs z))
          (t.goes_on (qs ++ z) rest answer (u.goes_on z rest answer k));
    }

next_decided : (c : Context) (first_id limit : ℕ) (pieces : List (List ℕ)) (piece : List ℕ)
    (old new : ReaderState) → AreBytes piece →
    Decided c first_id limit (flat_map (λ p. p) pieces) old → ReaderGoesOn old piece new →
    Decided c first_id limit (flat_map (λ p. p) (pieces ++ piece ∷ [])) new
next_decided c first_id limit pieces piece old new bytes decided goes more answer are h =
    let fed : List ℕ = flat_map (λ p. p) pieces in
    subst (λ k. ReaderDecides (fresh_reader c first_id limit) k answer)
    (sym (append_assoc fed piece more) ∙ ap (λ k. k ++ more) (sym (joined_more pieces piece)))
    (decided (piece ++ more) answer (bytes_append piece more bytes are) (goes more answer are h))

-- Memory ran out behind payloads that were taken.
stops_on : (c : Context) (first_id limit : ℕ) (front back : List ℕ) (mid : ReaderState)
    (answer : Answer) → (t : TakesAll (fresh_reader c first_id limit) front mid) →
    (r : RunsShort mid (mid.bytes ++ back) answer) →
    StopsAfter c first_id limit (front ++ back) (t.split.payloads ++ r.read) answer
stops_on c first_id limit front back mid answer t r =
    let ps = t.split.payloads in
    let left = t.splits.joined ∙ ap (λ k. framings ps (OnFrom first_id) ++ k) (sym t.left) in
    record {
      first = record {
        more = r.first.more;
        joined = joined_next first_id mid.number front back mid.bytes r.first.more ps r.read left
            t.number r.first.joined;
        within = within-append limit ps r.read t.splits.within
            (subst (λ k. AllByRecursion (λ payload. length payload ≤ k) r.read) t.limit
            r.first.within);
      };
      whole = r.whole;
      reply = fresh_decides c (numbered 0 (ps ++ r.read))
          (after_numbered 0 (ps ++ r.read) stream.Open) r.whole
          (t.goes_on r.read stream.Open r.whole r.decided);
      unfinished = r.unfinished;
      results = r.results;
      progress = r.progress;
      end = r.end ∙ ap (λ n. FaultAt n faults.Memory) (omega (arith, t.count, length-append ps r.read));
    }

next_short : (c : Context) (first_id limit : ℕ) (pieces : List (List ℕ)) (piece : List ℕ)
    (old : ReaderState) (answer : Answer) →
    TakesAll (fresh_reader c first_id limit) (flat_map (λ p. p) pieces) old →
    RunsShort old (old.bytes ++ piece) answer →
    IsShortReplyOf c first_id limit (pieces ++ piece ∷ []) answer
next_short c first_id limit pieces piece old answer t r = record {
  before = pieces;
  piece = piece;
  after = [];
  parts = refl;
  came = t.split;
  splits = t.splits;
  no_fault = t.no_fault;
  read = t.split.payloads ++ r.read;
  at_least = omega (arith, length-append t.split.payloads r.read);
  stops = stops_on c first_id limit (flat_map (λ p. p) pieces) piece old answer t r;
}

pub short_grows : (c : Context) (first_id limit : ℕ) (pieces : List (List ℕ)) (piece : List ℕ)
    (answer : Answer) → IsShortReplyOf c first_id limit pieces answer →
    IsShortReplyOf c first_id limit (pieces ++ piece ∷ []) answer
short_grows c first_id limit pieces piece answer s = record {
  before = s.before;
  piece = s.piece;
  after = s.after ++ piece ∷ [];
  parts = ap (λ k. k ++ piece ∷ []) s.parts ∙ append_assoc s.before (s.piece ∷ s.after) (piece ∷ []);
  came = s.came;
  splits = s.splits;
  no_fault = s.no_fault;
  read = s.read;
  at_least = s.at_least;
  stops = s.stops;
}

step_going : (c : Context) (first_id limit : ℕ) (pieces : List (List ℕ)) (piece : List ℕ)
    (old new : ReaderState) (r : Result Unit ReplyFault) → AreBytes piece → fault_of old.so_far ≡
    None → Feeds old new piece r → IsFed None c first_id limit pieces old →
    IsFed (fault_of new.so_far) c first_id limit (pieces ++ piece ∷ []) new
step_going c first_id limit pieces piece old new (Ok x) bytes none f h =
    let taken = subst (λ k. TakesAll (fresh_reader c first_id limit) k new)
    (sym (joined_more pieces piece))
    (takes_on (fresh_reader c first_id limit) old new (flat_map (λ p. p) pieces) piece h.0
    f.takes) in
    subst (λ k. IsFed k c first_id limit (pieces ++ piece ∷ []) new) (sym f.going) (
      taken,
      next_decided c first_id limit pieces piece old new bytes h.1 (f.goes_on (λ e. cc)),
    )
step_going c first_id limit pieces piece old new (Err faults.Memory) bytes none f h =
    let s = f.short none refl in
    subst (λ k. IsFed k c first_id limit (pieces ++ piece ∷ []) new) (sym f.fault) (
      s.0,
      s.1,
      next_short c first_id limit pieces piece old s.0 h.0 s.2,
    )
step_going c first_id limit pieces piece old new (Err fault) bytes none f h =
    subst (λ k. IsFed k c first_id limit (pieces ++ piece ∷ []) new) (sym f.fault)
    (next_decided c first_id limit pieces piece old new bytes h.1 (f.goes_on (λ e. cc)))

step_by : (c : Context) (first_id limit : ℕ) (pieces : List (List ℕ)) (piece : List ℕ)
    (old new : ReaderState) (r : Result Unit ReplyFault) (met : Option ReplyFault) →
    AreBytes piece → fault_of old.so_far ≡ met → Feeds old new piece r →
    IsFed met c first_id limit pieces old →
    IsFed (fault_of new.so_far) c first_id limit (pieces ++ piece ∷ []) new
step_by c first_id limit pieces piece old new r None bytes is f h =
    step_going c first_id limit pieces piece old new r bytes is f h
step_by c first_id limit pieces piece old new r (Some faults.Memory) bytes is f h =
    let s = subst (λ k. IfSome k (λ fault. (r ≡ Err fault) × (new ≡ old))) is f.stays in
    let met : fault_of new.so_far ≡ Some faults.Memory = ap (λ (k : ReaderState). fault_of k.so_far) s.1 ∙ is in
    subst (λ k. IsFed k c first_id limit (pieces ++ piece ∷ []) new) (sym met) (
      h.0,
      ap (λ (k : ReaderState). k.so_far) s.1 ∙ h.1,
      short_grows c first_id limit pieces piece h.0 h.2,
    )
step_by c first_id limit pieces piece old new r (Some fault) bytes is f h =
    let s = subst (λ k. IfSome k (λ fault. (r ≡ Err fault) × (new ≡ old))) is f.stays in
    let met : fault_of new.so_far ≡ Some fault = ap (λ (k : ReaderState). fault_of k.so_far) s.1 ∙ is in
    let goes = f.goes_on (λ e. let k = sym s.0 ∙ e in cc) in
    subst (λ k. IsFed k c first_id limit (pieces ++ piece ∷ []) new) (sym met)
    (next_decided c first_id limit pieces piece old new bytes h goes)

-- One more piece was fed.
pub fed_next : (c : Context) (first_id limit : ℕ) (pieces : List (List ℕ)) (piece : List ℕ)
    (old new : ReaderState) (r : Result Unit ReplyFault) → AreBytes piece → Feeds old new piece r →
    IsFed (fault_of old.so_far) c first_id limit pieces old →
    IsFed (fault_of new.so_far) c first_id limit (pieces ++ piece ∷ []) new
fed_next c first_id limit pieces piece old new r bytes f h =
    step_by c first_id limit pieces piece old new r (fault_of old.so_far) bytes refl f h

-- A fresh reader decides the reply's answer.
pub fresh_reader_decides : FreshReaderDecides
fresh_reader_decides c first_id limit bytes answer h = record {
  split = h.split;
  splits = h.splits;
  reply = fresh_decides c (numbered 0 h.split.payloads)
      (after_numbered 0 h.split.payloads h.split.rest) answer h.decides;
}

decided_at_end : (c : Context) (first_id limit : ℕ) (fed : List ℕ) (h : ReaderState)
    (answer : Answer) → Decided c first_id limit fed h → ReaderDecides h [] answer →
    IsReplyOf c first_id limit fed answer
decided_at_end c first_id limit fed h answer decided d =
    subst (λ k. IsReplyOf c first_id limit k answer) (append-nil fed)
    (fresh_reader_decides c first_id limit (fed ++
    []) answer (decided [] answer (λ i. omega arith) d))

-- The answer to all that was fed.
fed_by : (c : Context) (first_id limit : ℕ) (pieces : List (List ℕ)) (h : ReaderState)
    (answer : Answer) (met : Option ReplyFault) → IsFed met c first_id limit pieces h →
    ReaderDecides h [] answer →
    IsReplyOf c first_id limit (flat_map (λ piece. piece) pieces) answer ⊎
    IsShortReplyOf c first_id limit pieces answer
fed_by c first_id limit pieces h answer None f d =
    inl (decided_at_end c first_id limit (flat_map (λ piece. piece) pieces) h answer f.1 d)
fed_by c first_id limit pieces h answer (Some faults.Memory) f d =
    let same : answer ≡ f.0 = subst (λ k. ReaderDecidesFrom k h [] answer) f.1 d in
    inr (subst (IsShortReplyOf c first_id limit pieces) (sym same) f.2)
fed_by c first_id limit pieces h answer (Some fault) f d =
    inl (decided_at_end c first_id limit (flat_map (λ piece. piece) pieces) h answer f d)

pub fed_answer : (c : Context) (first_id limit : ℕ) (pieces : List (Bor (List ℕ))) (h : ReaderState)
    (answer : Answer) → IsFed (fault_of h.so_far) c first_id limit (map (λ piece. piece.now) pieces)
    h → ReaderDecides h [] answer
    → IsReplyOf c first_id limit (flat_map (λ piece. piece.now) pieces) answer ⊎
    IsShortReplyOf c first_id limit (map (λ piece. piece.now) pieces) answer
fed_answer c first_id limit pieces h answer f d =
    subst (λ bytes. IsReplyOf c first_id limit bytes answer ⊎
    IsShortReplyOf c first_id limit (map (λ piece. piece.now) pieces) answer)
    (flat_map-map (λ (piece : List ℕ). piece) (λ (piece : Bor (List ℕ)). piece.now) pieces)
    (fed_by c first_id limit (map (λ piece. piece.now) pieces) h answer (fault_of h.so_far) f d)

-- Some pieces and the next one.
pub pieces_more : (pieces : List (Bor (List ℕ))) (i : ℕ) (d : Bor (List ℕ)) → i < length pieces →
    map (λ (p : Bor (List ℕ)). p.now) (take (i + 1) pieces) ≡
    map (λ (p : Bor (List ℕ)). p.now) (take i pieces) ++ (get_or pieces i d).now ∷ []
pieces_more pieces i d h = ap (map (λ (p : Bor (List ℕ)). p.now)) (take_more pieces i d h) ∙
    map-append (λ (p : Bor (List ℕ)). p.now) (take i pieces) (get_or pieces i d ∷ [])

-- Any bytes have an answer.
pub any_bytes : HasOneSplit → AnyBytesHaveAnswer
any_bytes law c first_id limit bytes are =
    let one = law limit (OnFrom first_id) bytes are in
    let reply = each_has_answer c (numbered 0 one.0.payloads) (after_numbered 0 one.0.payloads one.0.rest) in
    (reply.0, record { split = one.0; splits = one.1; reply = reply.1 })

one_answer : HasOneSplit → (c : Context) (first_id limit : ℕ) (bytes : List ℕ) (a b : Answer) →
    AreBytes bytes → IsReplyOf c first_id limit bytes a → IsReplyOf c first_id limit bytes b → a ≡ b
one_answer law c first_id limit bytes a b are x y =
    let one = law limit (OnFrom first_id) bytes are in
    let same : x.split ≡ y.split = one.2 x.split x.splits ∙ sym (one.2 y.split y.splits) in
    answers_agree c (numbered 0 y.split.payloads) (after_numbered 0 y.split.payloads y.split.rest) a b
    (subst (λ s. IsReply c (numbered 0 s.payloads) (after_numbered 0 s.payloads s.rest) a) same x.reply) y.reply

pub cuttings : HasOneSplit → CuttingsAgree
cuttings law c first_id limit pieces others a b are same x y =
    one_answer law c first_id limit (flat_map (λ piece. piece) pieces) a b are x
    (subst (λ bytes. IsReplyOf c first_id limit bytes b) (sym same) y)

standing_decides : HasOneSplit → (so_far : ReplySoFar) (held : ReaderState) (more : List ℕ) →
    AreBytes (held.bytes ++ more) → (answer : Answer) × ReaderDecidesFrom so_far held more answer
standing_decides law (Answered known) held more are = (known, refl)
standing_decides law (GoingOn s) held more are =
    let one = law held.limit (OnFrom held.number) (held.bytes ++ more) are in
    let decided = each_decides (GoingOn s) (numbered s.count one.0.payloads)
    (after_numbered s.count one.0.payloads one.0.rest) in
    (decided.0, record { split = one.0; splits = one.1; decides = decided.1 })

pub each_reader_decides : HasOneSplit → EachReaderDecides
each_reader_decides law held more are = standing_decides law held.so_far held more are

standing_agrees : HasOneSplit →
    (so_far : ReplySoFar) (held : ReaderState) (more : List ℕ) (a b : Answer) →
    AreBytes (held.bytes ++ more) → ReaderDecidesFrom so_far held more a →
    ReaderDecidesFrom so_far held more b → a ≡ b
standing_agrees law (Answered known) held more a b are x y = x ∙ sym y
standing_agrees law (GoingOn s) held more a b are x y =
    let one = law held.limit (OnFrom held.number) (held.bytes ++ more) are in
    let same : x.split ≡ y.split = one.2 x.split x.splits ∙ sym (one.2 y.split y.splits) in
    decisions_agree (GoingOn s) (numbered s.count y.split.payloads)
    (after_numbered s.count y.split.payloads y.split.rest) a b
    (subst (λ k. NumberedPayloadsDecide (GoingOn s) k.payloads k.rest a) same x.decides) y.decides

pub readers_agree : HasOneSplit → ReadersAgree
readers_agree law held more a b are x y = standing_agrees law held.so_far held more a b are x y

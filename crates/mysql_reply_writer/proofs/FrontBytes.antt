-- Fronts of the framings of a whole reply are unfinished, longer ones go on from shorter ones, and
-- the framings are whole.
use Rattle.std.proofs.Common.{◌≡◌, ℕ, zero, suc, ◌+◌, ◌^◌, ◌<◌, ◌≤◌, ◌⊎◌, inl, inr, List, [], ◌∷◌, ◌++◌, length, take}
use Rattle.std.proofs.Common.{drop, refl, ap, sym, subst, arith, ◌∙◌}
use Rattle.std.specs.List.{AllByRecursion}
use Rattle.std.proofs.lemmas.Bool.{cases_lt, le-leb}
use Rattle.std.proofs.lemmas.List.{append-nil, append_assoc, append_cancel_left, take_all, take-take, take-append-drop}
use Rattle.std.proofs.lemmas.List.{length-append}
use Rattle.mysql_wire.specs.Framing.{framing}
use Rattle.mysql_wire.specs.GoingOn.{RestsAreTold}
use Rattle.mysql_wire.specs.Laws.{FrontsSplit}
use Rattle.mysql_wire.specs.Stream.{Numbering, Rest, Split, IsRest, IsSplit, IsFault, StandWhole, framings, after}
use Rattle.mysql_wire.specs.Stream.{after_all, first_number}
use Rattle.mysql_wire.specs.Stream.Numbering.{OnFrom}
use Rattle.mysql_wire.specs.Stream.Rest.{Empty, TooLarge, OutOfSync, Open as OpenRest}
use Rattle.mysql_reply_events.specs.declared.context.Context.{Context}
use Rattle.mysql_replies.specs.Reply.{Payload}
use Rattle.mysql_replies.specs.Reply.{Answer, IsReply}
use Rattle.mysql_replies.specs.Bytes.{numbers_left, numbered, after_numbered}
use Rattle.mysql_replies.specs.Manual.{IsWholeReply, EachSuchListIsWhole}
use Rattle.mysql_reply_writer.specs.Fronts.{EachFrontIsUnfinished, EachFramedFrontIsUnfinished, EachFramedReplyIsWhole}
use Rattle.mysql_reply_writer.specs.Fronts.{LongerFrontsGoOn, LongerFramedFrontsGoOn}

-- What a front of a framed reply splits into: the first of the payloads, and no fault.
record SplitsAs (first_id : ℕ) (payloads : List Payload) (bytes : List ℕ) (split : Split) : Type 0 where
  no_fault : ¬ IsFault split.rest
  stand : StandWhole (OnFrom first_id) payloads bytes (length split.payloads)
  first : split.payloads ≡ take (length split.payloads) payloads
  all_numbered : numbered 0 split.payloads ≡ split.payloads
  none_unnumbered : after_numbered 0 split.payloads split.rest ≡ split.rest

splits_as : FrontsSplit →
    (first_id limit : ℕ) (payloads : List Payload) (front back : List ℕ) (split : Split) →
    length payloads < 2 ^ 64 → AllByRecursion (λ payload. length payload ≤ limit) payloads →
    framings payloads (OnFrom first_id) ≡ front ++ back →
    IsSplit limit (OnFrom first_id) front split → SplitsAs first_id payloads front split
splits_as cut first_id limit payloads front back split few within framed splits =
    let f = cut limit (OnFrom first_id) payloads front back split within framed splits in
    let fits : length split.payloads ≤ numbers_left 0 = let h = f.1.few in omega (arith, few) in record {
      no_fault = f.0;
      stand = f.1;
      first = f.2;
      all_numbered = take_all (numbers_left 0) split.payloads fits;
      none_unnumbered = rw (le-leb (length split.payloads) (numbers_left 0) fits) refl;
    }

-- What the answer is of, without the words on numbers.
reply_of : (c : Context) (first_id : ℕ) (payloads : List Payload) (bytes : List ℕ) (split : Split)
    (answer : Answer) → SplitsAs first_id payloads bytes split →
    IsReply c (numbered 0 split.payloads) (after_numbered 0 split.payloads split.rest) answer →
    IsReply c split.payloads split.rest answer
reply_of c first_id payloads bytes split answer s reply =
    subst (λ l. IsReply c l split.rest answer) s.all_numbered
    (subst (λ rest. IsReply c (numbered 0 split.payloads) rest answer) s.none_unnumbered reply)

-- Some payload is missing where a byte is.
record Missing (payloads front : List Payload) : Type 0 where
  next : Payload
  later : List Payload
  is : payloads ≡ front ++ next ∷ later

some_missing : (first_id : ℕ) (payloads : List Payload) (front back : List ℕ) (next : ℕ)
    (split : Split) → framings payloads (OnFrom first_id) ≡ front ++ next ∷ back →
    SplitsAs first_id payloads front split → Missing payloads split.payloads
some_missing first_id payloads front back next split framed s =
    by_left (drop (length split.payloads) payloads)
    (sym (take-append-drop (length split.payloads) payloads) ∙
    ap (λ l. l ++ drop (length split.payloads) payloads) (sym s.first))
  where
    by_left : (left : List Payload) → payloads ≡ split.payloads ++ left → Missing payloads split.payloads
    by_left (missing ∷ later) is = record { next = missing; later = later; is = is }
    by_left [] is =
        let all : split.payloads ≡ payloads = sym (is ∙ append-nil split.payloads) in
        let inside : length (framings payloads (OnFrom first_id)) ≤ length front =
        subst (λ l. length (framings l (OnFrom first_id)) ≤ length front) (sym s.first ∙
        all) s.stand.inside in
        let e = ap length framed in absurd (omega (arith, length-append front (next ∷ back)))

pub framed_fronts_are_unfinished : FrontsSplit → EachFrontIsUnfinished → EachFramedFrontIsUnfinished
framed_fronts_are_unfinished cut unfinished c first_id limit front back next listed reports answer is read =
    let split = read.split in
    let s = splits_as cut first_id limit is.payloads front (next ∷ back) split is.few is.within
    (sym is.framed) read.splits in
    let missing = some_missing first_id is.payloads front back next split (sym is.framed) s in
    unfinished c split.payloads missing.later missing.next listed reports split.rest answer
    (subst (λ l. IsWholeReply c l listed reports) missing.is is.whole) s.no_fault
    (reply_of c first_id is.payloads front split answer s read.reply)

-- The framings of the first payloads are no longer than all.
first_framings : (n : ℕ) (payloads : List Payload) (numbering : Numbering) →
    length (framings (take n payloads) numbering) ≤ length (framings payloads numbering)
first_framings zero payloads numbering = omega arith
first_framings (suc n) [] numbering = omega arith
first_framings (suc n) (payload ∷ payloads) numbering =
    let h = first_framings n payloads (after payload numbering) in
    omega (
      arith,
      h,
      length-append (framing payload (first_number numbering))
          (framings (take n payloads) (after payload numbering)),
      length-append (framing payload (first_number numbering))
          (framings payloads (after payload numbering)),
    )

-- The longer one of two fronts splits into the payloads of the shorter one, and more.
in_longer : (first_id : ℕ) (payloads : List Payload) (front between : List ℕ)
    (split longer : Split) → SplitsAs first_id payloads front split →
    SplitsAs first_id payloads (front ++ between) longer →
    (more : List Payload) × (longer.payloads ≡ split.payloads ++ more)
in_longer first_id payloads front between split longer s t =
    by_count (cases_lt (length longer.payloads) (length split.payloads))
  where
    by_count : ((length longer.payloads < length split.payloads) ⊎
        (length split.payloads ≤ length longer.payloads)) → (more : List Payload) ×
        (longer.payloads ≡ split.payloads ++ more)
    by_count (inl fewer) =
        let few = s.stand.few in
        let most = t.stand.most (omega (arith, fewer, few)) in
        let first = first_framings (length longer.payloads + 1)
        (take (length split.payloads) payloads) (OnFrom first_id) in
        let same = ap (λ l. length (framings l (OnFrom first_id)))
        (take-take (length longer.payloads + 1) (length split.payloads) payloads
        (omega (arith, fewer))) in
        let inside = s.stand.inside in absurd (omega (arith, most, first, same, inside, length-append front between))
    by_count (inr at_least) = (
      drop (length split.payloads) longer.payloads,
      sym (take-append-drop (length split.payloads) longer.payloads) ∙
          ap (λ l. l ++ drop (length split.payloads) longer.payloads)
          (ap (λ l. take (length split.payloads) l) t.first ∙
          take-take (length split.payloads) (length longer.payloads) payloads at_least ∙
          sym s.first),
    )

pub longer_framed_fronts_go_on : FrontsSplit → LongerFrontsGoOn → LongerFramedFrontsGoOn
longer_framed_fronts_go_on cut goes_on c first_id limit front between back next listed reports
    answer longer is read read_longer =
    let split = read.split in
    let other = read_longer.split in
    let s = splits_as cut first_id limit is.payloads front (between ++ next ∷ back) split is.few
    is.within (sym is.framed ∙ append_assoc front between (next ∷ back)) read.splits in
    let t = splits_as cut first_id limit is.payloads (front ++ between) (next ∷ back) other is.few
    is.within (sym is.framed) read_longer.splits in
    let missing = some_missing first_id is.payloads (front ++ between) back next other (sym is.framed) t in
    let more = in_longer first_id is.payloads front between split other s t in
    goes_on c split.payloads more.0 missing.later missing.next listed reports split.rest other.rest answer longer
    (subst (λ l. IsWholeReply c l listed reports) (missing.is ∙
    ap (λ l. l ++ missing.next ∷ missing.later) more.1) is.whole) s.no_fault t.no_fault
    (reply_of c first_id is.payloads front split answer s read.reply)
    (subst (λ l. IsReply c l other.rest longer) more.1
    (reply_of c first_id is.payloads (front ++ between) other longer t read_longer.reply))

-- All payloads stand where no byte is missing,
none_missing : (first_id : ℕ) (payloads : List Payload) (bytes : List ℕ) (split : Split) → bytes ≡
    framings payloads (OnFrom first_id) → SplitsAs first_id payloads bytes split → split.payloads ≡
    payloads
none_missing first_id payloads bytes split framed s = by_count (cases_lt (length split.payloads) (length payloads))
  where
    by_count : ((length split.payloads < length payloads) ⊎
        (length payloads ≤ length split.payloads)) → split.payloads ≡ payloads
    by_count (inl fewer) =
        let most = s.stand.most fewer in
        let h = first_framings (length split.payloads + 1) payloads (OnFrom first_id) in
        let same = ap length framed in absurd (omega (arith, most, h, same))
    by_count (inr all) = s.first ∙ take_all (length split.payloads) payloads all

-- and nothing follows them.
nothing_behind : RestsAreTold → (limit number : ℕ) (bytes : List ℕ) (rest : Rest) → ¬ IsFault rest →
    IsRest limit number bytes rest → bytes ≡ [] → rest ≡ Empty
nothing_behind told limit number bytes Empty no_fault is none = refl
nothing_behind told limit number bytes TooLarge no_fault is none = absurd (no_fault tt)
nothing_behind told limit number bytes OutOfSync no_fault is none = absurd (no_fault tt)
nothing_behind told limit number bytes OpenRest no_fault is none =
    let some = ((told limit number).1 bytes).1 is in let e = ap length none in absurd (omega (arith, some, e))

pub framed_replies_are_whole : FrontsSplit → RestsAreTold → EachSuchListIsWhole → EachFramedReplyIsWhole
framed_replies_are_whole cut told some c first_id limit bytes listed reports answer is read =
    let split = read.split in
    let s = splits_as cut first_id limit is.payloads bytes [] split is.few is.within
    (sym (is.framed) ∙ sym (append-nil bytes)) read.splits in
    let all : split.payloads ≡ is.payloads = none_missing first_id is.payloads bytes split is.framed s in
    let joined : framings is.payloads (OnFrom first_id) ++ split.rest_bytes ≡
    framings is.payloads (OnFrom first_id) ++ [] =
    ap (λ l. framings l (OnFrom first_id) ++ split.rest_bytes) (sym all) ∙ sym read.splits.joined ∙
    is.framed ∙ sym (append-nil (framings is.payloads (OnFrom first_id))) in
    let none = append_cancel_left (framings is.payloads (OnFrom first_id)) split.rest_bytes [] joined in
    let empty : split.rest ≡ Empty =
    nothing_behind told limit (first_number (after_all split.payloads (OnFrom first_id)))
    split.rest_bytes split.rest s.no_fault read.splits.ends none in
    let reply : IsReply c is.payloads Empty answer =
    subst (λ l. IsReply c l Empty answer) all
    (subst (λ rest. IsReply c split.payloads rest answer) empty
    (reply_of c first_id is.payloads bytes split answer s read.reply)) in
    reply ∙ sym (some c is.payloads listed reports is.whole)

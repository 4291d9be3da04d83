-- The bytes that are answered whole are the framings of whole replies.
use Rattle.std.proofs.Common.{◌≡◌, ℕ, ◌<◌, ◌^◌, List, [], ◌++◌, length, Bool, true, false, refl, ap, sym, subst, arith}
use Rattle.std.proofs.Common.{◌∙◌}
use Rattle.std.specs.Prelude.{nat_le, if◌then◌else◌}
use Rattle.std.proofs.lemmas.List.{append-nil, take_all}
use Rattle.std.proofs.lemmas.Bool.{leb-true, le-leb}
use Rattle.mysql_wire.specs.GoingOn.{RestsAreTold}
use Rattle.mysql_wire.specs.Stream.{Rest, Split, IsRest, IsSplit, framings, after_all, first_number}
use Rattle.mysql_wire.specs.Stream.Numbering.{OnFrom}
use Rattle.mysql_wire.specs.Stream.Rest.{Empty, TooLarge}
use Rattle.mysql_reply_events.specs.declared.context.Context.{Context}
use Rattle.mysql_replies.specs.Reply.{Answer, IsReply, Payload, Whole}
use Rattle.mysql_replies.specs.Bytes.{numbers_left, numbered, after_numbered}
use Rattle.mysql_replies.specs.Manual.{IsWholeReply, IsFramedReply, EachFramingIsWhole, EachSuchListIsWhole}
use Rattle.mysql_replies.specs.Manual.{OnlyFramingsAreWhole, OnlySuchListsAreWhole}

-- Fewer than 2^64 payloads can all be numbered.
all_numbered : (payloads : List Payload) → length payloads < 2 ^ 64 → numbered 0 payloads ≡ payloads
all_numbered payloads few = take_all (numbers_left 0) payloads (omega (arith, few))

none_unnumbered : (payloads : List Payload) (rest : Rest) → length payloads < 2 ^ 64 →
    after_numbered 0 payloads rest ≡ rest
none_unnumbered payloads rest few = rw (le-leb (length payloads) (numbers_left 0) (omega (arith, few))) refl

pub each_framing : RestsAreTold → EachSuchListIsWhole → EachFramingIsWhole
each_framing told each_such_list c first_id limit bytes listed reports is = record {
  split = record { payloads = is.payloads; rest_bytes = []; rest = Empty };
  splits = record {
    joined = is.framed ∙ sym (append-nil (framings is.payloads (OnFrom first_id)));
    within = is.within;
    ends = (told limit (first_number (after_all is.payloads (OnFrom first_id)))).0;
  };
  reply = subst (λ rest. IsReply c (numbered 0 is.payloads) rest
      (record { results = listed; progress = reports; end = Whole }))
      (sym (none_unnumbered is.payloads Empty is.few))
      (subst (λ l. IsReply c l Empty (record { results = listed; progress = reports; end = Whole }))
      (sym (all_numbered is.payloads is.few))
      (each_such_list c is.payloads listed reports is.whole));
}

-- Where nothing follows the payloads that can be numbered, these are all, and nothing follows them.
record AllNumbered (payloads : List Payload) (rest : Rest) : Type 0 where
  few : length payloads < 2 ^ 64
  empty : rest ≡ Empty

numbered_all : (payloads : List Payload) (rest : Rest) (b : Bool) →
    nat_le (length payloads) (numbers_left 0) ≡ b → (if b then rest else TooLarge) ≡ Empty →
    AllNumbered payloads rest
numbered_all payloads rest true is none =
    record {
      few = let h = leb-true (length payloads) (numbers_left 0) is in
          omega (arith, h);
      empty = none;
    }
numbered_all payloads rest false is none = absurd (cc)

no_rest_bytes : RestsAreTold → (limit number : ℕ) (bytes : List ℕ) (rest : Rest) →
    IsRest limit number bytes rest → rest ≡ Empty → bytes ≡ []
no_rest_bytes told limit number bytes rest is empty =
    ((told limit number).1 bytes).0 (subst (IsRest limit number bytes) empty is)

framed_by : RestsAreTold →
    (c : Context) (first_id limit : ℕ) (bytes : List ℕ) (answer : Answer) (split : Split) →
    IsSplit limit (OnFrom first_id) bytes split →
    AllNumbered split.payloads split.rest →
    IsWholeReply c (numbered 0 split.payloads) answer.results answer.progress →
    IsFramedReply c first_id limit bytes answer.results answer.progress
framed_by told c first_id limit bytes answer split splits all whole = record {
  payloads = split.payloads;
  whole = subst (λ l. IsWholeReply c l answer.results answer.progress) (all_numbered split.payloads all.few) whole;
  few = all.few;
  within = splits.within;
  framed = splits.joined ∙ ap (λ l. framings split.payloads (OnFrom first_id) ++
      l) (no_rest_bytes told limit _ split.rest_bytes split.rest splits.ends all.empty)
      ∙ append-nil (framings split.payloads (OnFrom first_id));
}

pub only_framings : RestsAreTold → OnlySuchListsAreWhole → OnlyFramingsAreWhole
only_framings told only_such_lists c first_id limit bytes answer of_manual is whole =
    let list = only_such_lists c (numbered 0 is.split.payloads)
    (after_numbered 0 is.split.payloads is.split.rest) answer of_manual is.reply whole in
    framed_by told c first_id limit bytes answer is.split is.splits
    (numbered_all is.split.payloads is.split.rest
    (nat_le (length is.split.payloads) (numbers_left 0)) refl list.0) list.1

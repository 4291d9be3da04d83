-- Payloads that are put one behind another: what is left goes on from what was put.
use Rattle.std.proofs.Common.{◌≡◌, ℕ, ◌+◌, List, [], ◌++◌, length, take, refl, sym, ap, subst, ◌∙◌, arith, append_assoc}
use Rattle.std.proofs.Common.{append-nil, length-append}
use Rattle.std.proofs.lemmas.List.{take_all}
use Rattle.mysql_wire.specs.Stream.{framings}
use Rattle.mysql_wire.specs.Stream.Numbering.{OnFrom}
use Rattle.mysql_reply_writer.specs.declared.refusal.ReplyRefusal.{ReplyRefusal}
use Rattle.mysql_reply_writer.specs.Refusals.{too_large}
use Rattle.mysql_reply_writer.specs.Puts.{Place, Puts, RefusesPayloads, number_behind, place_behind}
use Rattle.mysql_reply_writer.proofs.Joined.{framings_joined, kept_front, large_first, large_joined, number_joined}
use Rattle.mysql_reply_writer.proofs.FramedInPlace.{place_of}

place_joined : (xs ys : List (List ℕ)) (p : Place) → place_behind (xs ++ ys) p ≡ place_behind ys (place_behind xs p)
place_joined xs ys p =
    let number = number_joined xs ys p.number in
    let count : p.payloads + length (xs ++ ys) ≡ p.payloads + length xs + length ys =
    omega (arith, length-append xs ys) in
    cc

-- so many of the payloads were put
pub record PutSoFar (room : ℕ) (old : Place) (payloads : List (List ℕ)) (now : Place)
    (left : List (List ℕ)) (before after : List ℕ) : Type 0 where
  pub causes : too_large room old.payloads payloads ≡ too_large room now.payloads left
  pub place : place_behind payloads old ≡ place_behind left now
  pub bytes : before ++ framings payloads (OnFrom old.number) ≡ after ++ framings left (OnFrom now.number)
  pub kept : take (length before) after ≡ before

pub none_put : (room : ℕ) (old : Place) (payloads : List (List ℕ)) (before : List ℕ) →
    PutSoFar room old payloads old payloads before before
none_put room old payloads before =
    record {
      causes = refl;
      place = refl;
      bytes = refl;
      kept =
          take_all (length before) before (omega arith);
    }

-- a place behind payloads, as a variable
on_from : (room : ℕ) (now : Place) (these left : List (List ℕ)) (new : Place) (mid after : List ℕ) →
    Puts room now these new mid after
    → (too_large room now.payloads (these ++ left) ≡ too_large room new.payloads left)
    × (place_behind (these ++ left) now ≡ place_behind left new)
    × (mid ++ framings (these ++ left) (OnFrom now.number) ≡ after ++ framings left (OnFrom new.number))
on_from room now these left new mid after puts =
    let count : now.payloads + length these ≡ new.payloads = sym (ap (λ (p : Place). p.payloads) puts.place) in
    let number : number_behind these now.number ≡ new.number = sym (ap (λ (p : Place). p.number) puts.place) in (
      large_joined room now.payloads these left puts.fit ∙ ap (λ (k : ℕ). too_large room k left) count,
      place_joined these left now ∙ ap (place_behind left) (sym puts.place),
      ap (λ l. mid ++ l) (framings_joined these left now.number) ∙
          sym (append_assoc mid (framings these (OnFrom now.number))
          (framings left (OnFrom (number_behind these now.number))))
          ∙ ap (λ l. l ++ framings left (OnFrom (number_behind these now.number))) (sym puts.appended)
          ∙ ap (λ (k : ℕ). after ++ framings left (OnFrom k)) number,
    )

pub put_on : (room : ℕ) (old : Place) (payloads : List (List ℕ)) (now : Place)
    (these left : List (List ℕ)) (new : Place) (before mid after : List ℕ)
    → PutSoFar room old payloads now (these ++ left) before mid →
    Puts room now these new mid after → PutSoFar room old payloads new left before after
put_on room old payloads now these left new before mid after s puts =
    let x = on_from room now these left new mid after puts in
    record {
      causes = s.causes ∙ x.0;
      place = s.place ∙ x.1;
      bytes = s.bytes ∙ x.2;
      kept = ap (λ l. take (length before) l) puts.appended ∙
          kept_front before mid (framings these (OnFrom now.number)) s.kept;
    }

-- all were put
pub all_put : (room : ℕ) (old : Place) (payloads : List (List ℕ)) (now : Place)
    (before after : List ℕ) → PutSoFar room old payloads now [] before after →
    Puts room old payloads now before after
all_put room old payloads now before after s = record {
  fit = s.causes;
  place = sym (s.place ∙ here now);
  appended = sym (append-nil after) ∙ sym s.bytes;
} where
  here : (p : Place) → place_behind [] p ≡ p
  here p = let same : p.payloads + 0 ≡ p.payloads = omega arith in ap (λ (n : ℕ). place_of p.number n) same

-- one of them is refused
pub refused_on : (room : ℕ) (old : Place) (payloads : List (List ℕ)) (now : Place)
    (these left : List (List ℕ)) (before after : List ℕ) (refusal : ReplyRefusal)
    → PutSoFar room old payloads now (these ++ left) before after →
    RefusesPayloads room now these refusal → RefusesPayloads room old payloads refusal
refused_on room old payloads now these left before after refusal s refuses other =
    s.causes ∙ large_first room now.payloads these left refusal (refuses other)

-- payloads and then others, within the same limit
pub two_put : (room later : ℕ) (old now new : Place) (xs ys : List (List ℕ))
    (before mid after : List ℕ) → later ≡ room → Puts room old xs now before mid →
    Puts later now ys new mid after
    → Puts room old (xs ++ ys) new before after
two_put room later old now new xs ys before mid after same first second =
    let p = put_on room old (xs ++ ys) old xs ys now before before mid (none_put room old (xs ++ ys) before) first in
    let q = put_on room old (xs ++ ys) now ys [] new before mid after
    (subst (λ (l : List (List ℕ)). PutSoFar room old (xs ++ ys) now l before mid) (sym (append-nil ys)) p)
    (subst (λ (n : ℕ). Puts n now ys new mid after) same second) in
    all_put room old (xs ++ ys) new before after q

-- the first of them is refused
pub first_refused : (room : ℕ) (old : Place) (xs ys : List (List ℕ)) (refusal : ReplyRefusal) →
    RefusesPayloads room old xs refusal → RefusesPayloads room old (xs ++ ys) refusal
first_refused room old xs ys refusal refuses other = large_first room old.payloads xs ys refusal (refuses other)

-- those behind them are
pub later_refused : (room later : ℕ) (old now : Place) (xs ys : List (List ℕ)) (before mid : List ℕ)
    (refusal : ReplyRefusal) → later ≡ room → Puts room old xs now before mid
    → RefusesPayloads later now ys refusal → RefusesPayloads room old (xs ++ ys) refusal
later_refused room later old now xs ys before mid refusal same first refuses other =
    let count : old.payloads + length xs ≡ now.payloads = sym (ap (λ (p : Place). p.payloads) first.place) in
    large_joined room old.payloads xs ys first.fit ∙ ap (λ (k : ℕ). too_large room k ys) count ∙
    ap (λ (n : ℕ). too_large n now.payloads ys) (sym same) ∙ refuses other

-- what stood before stands in front
pub front_put : (room : ℕ) (old : Place) (xs : List (List ℕ)) (now : Place) (before mid : List ℕ) →
    Puts room old xs now before mid → take (length before) mid ≡ before
front_put room old xs now before mid puts =
    ap (λ l. take (length before) l) puts.appended ∙
    kept_front before before (framings xs (OnFrom old.number))
    (take_all (length before) before (omega arith))

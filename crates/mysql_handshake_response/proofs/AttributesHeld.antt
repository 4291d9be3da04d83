-- Attributes that were read take no more bytes than they were read of.
use Rattle.std.proofs.Common.{◌≡◌, ◌<◌, ◌≤◌, ◌+◌, ◌^◌, ◌==◌, if◌then◌else◌, nat_lt, ℕ, zero, suc, Bool, true, false}
use Rattle.std.proofs.Common.{List, [], ◌∷◌, ◌++◌, length, take, drop, Option, None, Some, Ok}
use Rattle.std.proofs.Common.{refl, sym, ap, subst, length-append, length-drop, arith, inl, inr, lit<}
use Rattle.std.proofs.lemmas.Bool.{cases_lt}
use Rattle.std.proofs.lemmas.List.{get_or-drop, get_or-take, get_or_past, length-take}
use Rattle.std.specs.List.{flat_map}
use Rattle.mysql_buf.specs.Bytes.{AreBytes}
use Rattle.mysql_buf.specs.FirstBytes.{first-some}
use Rattle.mysql_buf.specs.Reading.{bytes_at as buffer_bytes_at, lenenc_int_at, little_at, then_at}
use Rattle.mysql_buf.specs.TextLaws.{left-of, lenenc_int-shortest}
use Rattle.mysql_buf.specs.Writing.{lenenc_int, lenenc_str}
use Rattle.mysql_handshake_response.specs.Attributes.{Attribute, all_attributes_at, at_most_at, attribute, attribute_at}
use Rattle.mysql_handshake_response.specs.Attributes.{attributes_at}
use Rattle.mysql_fields.specs.Forms.{bytes_at, lenenc_number_at}
use Rattle.mysql_fields.specs.Laws.{bind_ok, ok_same}
use Rattle.mysql_fields.specs.Texts.{lenenc_text_at}
use Rattle.mysql_fields.specs.Wire.{or_end}

-- LENGTHS

abbrev pub total : List Attribute → ℕ
total all = length (flat_map attribute all)

-- READING

pub some_same : {X : Type 0} (o : Option X) (x : X) → or_end o ≡ Ok x → o ≡ Some x
some_same None x h = absurd cc
some_same (Some y) x h = cc

pub bytes_behind : (n : ℕ) (bytes : List ℕ) → AreBytes bytes → AreBytes (drop n bytes)
bytes_behind n bytes all i = rw (get_or-drop n bytes i 0) (all (n + i))

-- a number that fits 64 bits, and bytes behind it
abbrev pub NumberHeld : ℕ × List ℕ → Type 0
NumberHeld x = (x.0 < 2 ^ 64) × AreBytes x.1

little_left : (n : ℕ) (bytes : List ℕ) (x : ℕ × List ℕ) → AreBytes bytes → little_at n bytes ≡ Some x →
    (x.0 < 256 ^ n) × AreBytes x.1
little_left n bytes x all h =
    let part = first-some n _ bytes x h in (
      (left-of n bytes x.0 x.1 all h).0,
      subst (λ (q : ℕ × List ℕ). AreBytes q.1) (sym part.1) (bytes_behind n bytes all),
    )

number_left : (bytes : List ℕ) (x : ℕ × List ℕ) → AreBytes bytes → lenenc_int_at bytes ≡ Some x → NumberHeld x
number_left [] x all h = absurd cc
number_left (b ∷ bs) x all h = go (nat_lt b 251) (b == 252) (b == 253) (b == 254) h where
  rest : AreBytes bs
  rest i = all (suc i)

  go : (one two three eight : Bool) →
      (if one then Some (b, bs) else if two then little_at 2 bs else if three then little_at 3 bs
      else if eight then little_at 8 bs else Some (0, bs)) ≡ Some x → NumberHeld x
  go true two three eight e =
      let low : b < 256 = all 0 in
      let same : (b, bs) ≡ x = cc in subst NumberHeld same (omega (arith, low), rest)
  go false true three eight e = let part = little_left 2 bs x rest e in (omega (arith, part.0), part.1)
  go false false true eight e = let part = little_left 3 bs x rest e in (omega (arith, part.0), part.1)
  go false false false true e = let part = little_left 8 bs x rest e in (omega (arith, part.0), part.1)
  go false false false false e = let same : (0, bs) ≡ x = cc in subst NumberHeld same (omega arith, rest)

-- what a text takes that is written, and what is left
abbrev pub TakesAtMost : List ℕ → ℕ → List ℕ → Type 0
TakesAtMost bytes len left = (len + length left ≤ length bytes) × AreBytes left

pub text_takes : (bytes : List ℕ) (x : List ℕ × List ℕ) → AreBytes bytes → lenenc_text_at bytes ≡
    Ok x → TakesAtMost bytes (length (lenenc_str x.0)) x.1
text_takes bytes x all h = go (lenenc_int_at bytes) refl h where
  go : (o : Option (ℕ × List ℕ)) → lenenc_int_at bytes ≡ o → or_end (then_at o buffer_bytes_at) ≡
      Ok x → TakesAtMost bytes (length (lenenc_str x.0)) x.1
  go None is e = absurd cc
  go (Some n) is e =
      let short = lenenc_int-shortest n.0 bytes n.1 all is in
      let left = (number_left bytes n all is).1 in
      let part = first-some n.0 (take n.0) n.1 x (some_same (buffer_bytes_at n.0 n.1) x e) in
      let cut = length-take n.0 n.1 in
      let dropped = length-drop n.0 n.1 in
      let len : length (take n.0 n.1) ≡ n.0 = omega (arith, part.0) in
      let bound : length (lenenc_int (length (take n.0 n.1)) ++ take n.0 n.1) + length (drop n.0 n.1) ≤ length bytes =
      rw (len) (omega (arith, length-append (lenenc_int n.0) (take n.0 n.1), part.0)) in
      subst (λ (q : List ℕ × List ℕ). TakesAtMost bytes (length (lenenc_str q.0)) q.1) (sym part.1)
      (bound, bytes_behind n.0 n.1 left)

attribute_takes : (bytes : List ℕ) (x : Attribute × List ℕ) → AreBytes bytes → attribute_at bytes ≡
    Ok x → TakesAtMost bytes (length (attribute x.0)) x.1
unfolding attribute_at
attribute_takes bytes x all h =
    let key = bind_ok (lenenc_text_at bytes) _ x h in
    let one = text_takes bytes key.0 all key.1 in
    let value = bind_ok (lenenc_text_at key.0.1) _ x key.2 in
    let two = text_takes key.0.1 value.0 one.1 value.1 in
    let made : Attribute × List ℕ = ((key.0.0, value.0.0), value.0.1) in
    subst (λ (q : Attribute × List ℕ). TakesAtMost bytes (length (attribute q.0)) q.1) (ok_same made x value.2)
    (omega (arith, one.0, two.0, length-append (lenenc_str key.0.0) (lenenc_str value.0.0)), two.1)

many_take : (most : ℕ) (bytes : List ℕ) (x : List Attribute × List ℕ) → AreBytes bytes →
    at_most_at most bytes ≡ Ok x → total x.0 ≤ length bytes
unfolding at_most_at
many_take zero [] x all h =
    let same : ([], []) ≡ x = cc in subst (λ (q : List Attribute × List ℕ). total q.0 ≤ 0) same (omega arith)
many_take (suc most) [] x all h =
    let same : ([], []) ≡ x = cc in subst (λ (q : List Attribute × List ℕ). total q.0 ≤ 0) same (omega arith)
many_take zero (b ∷ bytes) x all h = absurd cc
many_take (suc most) (b ∷ bytes) x all h =
    let first = bind_ok (attribute_at (b ∷ bytes)) _ x h in
    let one = attribute_takes (b ∷ bytes) first.0 all first.1 in
    let others = bind_ok (at_most_at most first.0.1) _ x first.2 in
    let more = many_take most first.0.1 others.0 one.1 others.1 in
    let made : List Attribute × List ℕ = (first.0.0 ∷ others.0.0, others.0.1) in
    subst (λ (q : List Attribute × List ℕ). total q.0 ≤ length (b ∷ bytes)) (ok_same made x others.2)
    (omega (arith, one.0, more, length-append (attribute first.0.0) (flat_map attribute others.0.0)))

pub taken_bytes : (n : ℕ) (bytes : List ℕ) → AreBytes bytes → AreBytes (take n bytes)
taken_bytes n bytes all i = elim (cases_lt i n) [
  | inl lt ↦ rw (get_or-take n bytes i 0 lt) (all i)
  | inr le ↦ rw (get_or_past (take n bytes) i 0 (omega (arith, length-take n bytes))) (lit< tt)
]

-- all take no more bytes than they were read of, and fewer than a length can say
abbrev pub AreHeld : List ℕ → List Attribute → Type 0
AreHeld bytes all = (total all ≤ length bytes) × (total all < 2 ^ 64)

pub attributes_held : (bytes : List ℕ) (x : List Attribute × List ℕ) → AreBytes bytes → attributes_at bytes ≡ Ok x →
    AreHeld bytes x.0
unfolding attributes_at
attributes_held bytes x all h =
    let number = bind_ok (lenenc_number_at bytes) _ x h in
    let short = lenenc_int-shortest number.0.0 bytes number.0.1 all
    (some_same (lenenc_int_at bytes) number.0 number.1) in
    let left = number_left bytes number.0 all (some_same (lenenc_int_at bytes) number.0 number.1) in
    let pairs = bind_ok (bytes_at number.0.0 number.0.1) _ x number.2 in
    let part = first-some number.0.0 (take number.0.0) number.0.1 pairs.0
    (some_same (buffer_bytes_at number.0.0 number.0.1) pairs.0 pairs.1) in
    let taken : pairs.0.0 ≡ take number.0.0 number.0.1 = ap (λ (q : List ℕ × List ℕ). q.0) part.1 in
    let read = bind_ok (all_attributes_at pairs.0.0) _ x pairs.2 in
    let bound = many_take (length pairs.0.0) pairs.0.0 read.0
    (subst AreBytes (sym taken) (taken_bytes number.0.0 number.0.1 left.1)) read.1 in
    let made : List Attribute × List ℕ = (read.0.0, pairs.0.1) in
    let cut = length-take number.0.0 number.0.1 in
    let held : AreHeld bytes read.0.0 = (
      omega (arith, short, bound, cut, ap length taken),
      omega (arith, left.0, bound, cut, ap length taken),
    ) in
    subst (λ (q : List Attribute × List ℕ). AreHeld bytes q.0) (ok_same made x read.2) held

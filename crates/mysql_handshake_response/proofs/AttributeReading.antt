-- Reading attributes one after the other, as a loop does.
use Rattle.std.proofs.Common.{◌≡◌, ◌≢◌, ◌==◌, ◌<◌, ◌≤◌, Bool, true, false, if◌then◌else◌, nat_lt, ℕ, zero, suc, List}
use Rattle.std.proofs.Common.{[], ◌∷◌, ◌++◌, append-nil, append_assoc, length, drop, Option, Some, None, Ok, Err, refl}
use Rattle.std.proofs.Common.{sym, ap, ◌∙◌, arith}
use Rattle.std.proofs.lemmas.Bool.{eqb-false, eqb-true}
use Rattle.std.proofs.lemmas.List.{length-drop}
use Rattle.mysql_buf.specs.FirstBytes.{first-some}
use Rattle.mysql_buf.specs.Reading.{first, little_at, lenenc_int_at, bytes_at, then_at}
use Rattle.mysql_fields.specs.Laws.{bind_ok}
use Rattle.mysql_fields.specs.Wire.{Reading, Refuses, or_end, ◌>>=◌}
use Rattle.mysql_fields.specs.declared.error.WireError.{WireError}
use Rattle.mysql_fields.specs.declared.error.WireError.TheVariants.{Memory}
use Rattle.mysql_fields.specs.Texts.{lenenc_text_at}
use Rattle.mysql_handshake_response.specs.Attributes.{Attribute, all_attributes_at, at_most_at, attribute_at}
use Rattle.mysql_handshake_response.proofs.AttributesHeld.{some_same}

-- what the first bytes leave is no longer than all
first-shorter : {X : Type 0} (n : ℕ) (value : List ℕ → X) (bytes : List ℕ) (p : X × List ℕ) →
    first n value bytes ≡ Some p → length p.1 ≤ length bytes
first-shorter {X} n value bytes p h =
    let part = first-some n value bytes p h in
    let left : length p.1 ≡ length (drop n bytes) = ap (λ (q : X × List ℕ). length q.1) part.1 in
    omega (arith, length-drop n bytes)

-- what a number's first byte leaves is all that is there for the rest of it
tail-shorter : (one two three eight : Bool) (b : ℕ) (bs : List ℕ) (p : ℕ × List ℕ)
    → (if one then Some (b, bs) else if two then little_at 2 bs else if three then little_at 3 bs
    else if eight then little_at 8 bs else Some (0, bs)) ≡ Some p
    → length p.1 ≤ length bs
tail-shorter true two three eight b bs p h = let e : (b, bs) ≡ p = cc in let n =
    ap (λ (q : ℕ × List ℕ). length q.1) e in omega arith
tail-shorter false true three eight b bs p h = first-shorter 2 _ bs p h
tail-shorter false false true eight b bs p h = first-shorter 3 _ bs p h
tail-shorter false false false true b bs p h = first-shorter 8 _ bs p h
tail-shorter false false false false b bs p h = let e : (0, bs) ≡ p = cc in let n =
    ap (λ (q : ℕ × List ℕ). length q.1) e in omega arith

number-shorter : (bytes : List ℕ) (p : ℕ × List ℕ) → lenenc_int_at bytes ≡ Some p → length p.1 < length bytes
number-shorter [] p h = absurd cc
number-shorter (b ∷ bs) p h = let e =
    tail-shorter (nat_lt b 251) (b == 252) (b == 253) (b == 254) b bs p h in omega arith

text-shorter : (bytes : List ℕ) (p : List ℕ × List ℕ) → lenenc_text_at bytes ≡ Ok p → length p.1 < length bytes
text-shorter bytes p h = go (lenenc_int_at bytes) refl h where
  go : (o : Option (ℕ × List ℕ)) → lenenc_int_at bytes ≡ o → or_end (then_at o bytes_at) ≡ Ok p →
      length p.1 < length bytes
  go None e h = absurd cc
  go (Some q) e h =
      let number = number-shorter bytes q e in
      let text = first-shorter q.0 _ q.1 p (some_same (bytes_at q.0 q.1) p h) in
      omega arith

-- an attribute takes a byte at least
pub attribute-shorter : (bytes : List ℕ) (p : Attribute × List ℕ) → attribute_at bytes ≡ Ok p →
    length p.1 < length bytes
unfolding attribute_at
attribute-shorter bytes p h =
    let key = bind_ok (lenenc_text_at bytes) _ p h in
    let value = bind_ok (lenenc_text_at key.0.1) _ p key.2 in
    let one = text-shorter bytes key.0 key.1 in
    let two = text-shorter key.0.1 value.0 value.1 in
    let end : ((key.0.0, value.0.0), value.0.1) ≡ p = cc (value.2) in
    let left = ap (λ (q : Attribute × List ℕ). length q.1) end in
    omega arith

-- an attribute before others that were read
abbrev pub before_others : Attribute → List Attribute × List ℕ → Reading (List Attribute)
before_others a others = Ok (a ∷ others.0, others.1)

-- room for more attributes than there are bytes changes nothing
same-room : (n m : ℕ) (bytes : List ℕ) → length bytes ≤ n → length bytes ≤ m → at_most_at n bytes ≡ at_most_at m bytes
unfolding at_most_at
same-room zero zero [] small large = refl
same-room zero (suc m) [] small large = refl
same-room (suc n) zero [] small large = refl
same-room (suc n) (suc m) [] small large = refl
same-room zero m (b ∷ bs) small large = absurd (omega arith)
same-room (suc n) zero (b ∷ bs) small large = absurd (omega arith)
same-room (suc n) (suc m) (b ∷ bs) small large = go (attribute_at (b ∷ bs)) refl (same-room n m) where
  go : (r : Reading Attribute) → attribute_at (b ∷ bs) ≡ r
      → ((rest : List ℕ) → length rest ≤ n → length rest ≤ m → at_most_at n rest ≡ at_most_at m rest)
      → (r >>= λ first. at_most_at n first.1 >>= before_others first.0) ≡
      (r >>= λ first. at_most_at m first.1 >>= before_others first.0)
  go (Err e) is same = refl
  go (Ok p) is same =
      let less = attribute-shorter (b ∷ bs) p is in
      ap (λ (all : Reading (List Attribute)). all >>= before_others p.0) (same p.1 (omega arith) (omega arith))

-- attributes that were there, and then those that are read
abbrev pub put_after : List Attribute → Reading (List Attribute) → Reading (List Attribute)
put_after before reading = reading >>= λ others. Ok (before ++ others.0, others.1)

one_more : (before : List Attribute) (a : Attribute) (others : Reading (List Attribute))
    → put_after before (others >>= before_others a) ≡ put_after (before ++ a ∷ []) others
one_more before a (Ok more) =
    ap (λ (all : List Attribute). put_after [] (Ok (all, more.1)))
    (sym (append_assoc before (a ∷ []) more.0))
one_more before a (Err e) = refl

pub goes_on : (before : List Attribute) (pairs : List ℕ) (a : Attribute) (after : List ℕ)
    (total : Reading (List Attribute)) → length pairs ≢ 0 → attribute_at pairs ≡ Ok (a, after)
    → put_after before (all_attributes_at pairs) ≡ total →
    put_after (before ++ a ∷ []) (all_attributes_at after) ≡ total
unfolding at_most_at
goes_on before [] a after total some is so_far = absurd (some refl)
goes_on before (b ∷ bs) a after total some is so_far =
    let less = attribute-shorter (b ∷ bs) (a, after) is in
    let rest = same-room (length bs) (length after) after (omega arith) (omega arith) in
    let whole : put_after before (all_attributes_at (b ∷ bs)) ≡
    put_after before (all_attributes_at after >>= before_others a) = rw (is, rest) refl in
    sym (one_more before a (all_attributes_at after)) ∙ sym whole ∙ so_far

pub ends : (e : WireError) (before : List Attribute) (pairs : List ℕ)
    (total : Reading (List Attribute)) → length pairs ≢ 0 → Refuses e (attribute_at pairs)
    → put_after before (all_attributes_at pairs) ≡ total → e ≢ Memory → total ≡ Err e
unfolding at_most_at
ends e before [] total some h so_far ne = absurd (some refl)
ends e before (b ∷ bs) total some h so_far ne =
    let whole : put_after before (all_attributes_at (b ∷ bs)) ≡ Err e = rw (h ne) refl in
    sym so_far ∙ whole

pub is_done : (before : List Attribute) (pairs : List ℕ) (total : Reading (List Attribute)) → length pairs ≡ 0
    → put_after before (all_attributes_at pairs) ≡ total → total ≡ Ok (before, [])
unfolding at_most_at
is_done before [] total none so_far = sym so_far ∙
    ap (λ (all : List Attribute). put_after [] (Ok (all, []))) (append-nil before)
is_done before (b ∷ bs) total none so_far = absurd cc

-- what the test of a length says
pub some_bytes : (n : ℕ) (b : Bool) → b ≡ (n == 0) → b ≡ false → n ≢ 0
some_bytes n b e t = eqb-false n 0 (sym e ∙ t)

pub no_bytes : (n : ℕ) (b : Bool) → b ≡ (n == 0) → b ≡ true → n ≡ 0
no_bytes n b e t = eqb-true n 0 (sym e ∙ t)

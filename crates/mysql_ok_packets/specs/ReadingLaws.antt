-- Texts and elements take bytes, and room for more elements than there are bytes changes nothing.
use Rattle.std.proofs.Common.{◌≡◌, ◌==◌, ◌<◌, ◌≤◌, Bool, true, false, if◌then◌else◌, nat_lt, ℕ, zero, suc, List, []}
use Rattle.std.proofs.Common.{◌∷◌, length, drop, Option, Some, None, Ok, Err, refl, ap, arith}
use Rattle.std.proofs.lemmas.List.{length-drop}
use Rattle.mysql_buf.specs.FirstBytes.{first-some}
use Rattle.mysql_buf.specs.Reading.{first, little_at, lenenc_int_at, bytes_at, then_at}
use Rattle.mysql_fields.specs.Wire.{Reading, or_end, ◌>>=◌}
use Rattle.mysql_fields.specs.Texts.{lenenc_text_at}
use Rattle.mysql_ok_packets.specs.Reading.{EatsBytes, at_most_at}

-- what the first bytes leave is no longer than all
first-shorter : {X : Type 0} (n : ℕ) (value : List ℕ → X) (bytes : List ℕ) (p : X × List ℕ) →
    first n value bytes ≡ Some p → length p.1 ≤ length bytes
first-shorter {X} n value bytes p h =
    let part = first-some n value bytes p h in
    let left : length p.1 ≡ length (drop n bytes) = ap (λ (q : X × List ℕ). length q.1) part.1 in
    omega (arith, length-drop n bytes)

-- what a number's first byte leaves is all that is there for the rest of it
tail-shorter : (one two three eight : Bool) (b : ℕ) (bs : List ℕ) (p : ℕ × List ℕ)
    → (if one then Some (b, bs) else if two then little_at 2 bs else if three then little_at 3 bs
    else if eight then little_at 8 bs else Some (0, bs)) ≡ Some p
    → length p.1 ≤ length bs
tail-shorter true two three eight b bs p h = let e : (b, bs) ≡ p = cc in let n =
    ap (λ (q : ℕ × List ℕ). length q.1) e in omega arith
tail-shorter false true three eight b bs p h = first-shorter 2 _ bs p h
tail-shorter false false true eight b bs p h = first-shorter 3 _ bs p h
tail-shorter false false false true b bs p h = first-shorter 8 _ bs p h
tail-shorter false false false false b bs p h = let e : (0, bs) ≡ p = cc in let n =
    ap (λ (q : ℕ × List ℕ). length q.1) e in omega arith

number-shorter : (bytes : List ℕ) (p : ℕ × List ℕ) → lenenc_int_at bytes ≡ Some p → length p.1 < length bytes
number-shorter [] p h = absurd cc
number-shorter (b ∷ bs) p h = let e =
    tail-shorter (nat_lt b 251) (b == 252) (b == 253) (b == 254) b bs p h in omega arith

stands : {X : Type 0} (o : Option X) (x : X) → or_end o ≡ Ok x → o ≡ Some x
stands None x h = absurd cc
stands (Some y) x h = cc

-- a text takes at least the byte of its length
pub text-shorter : EatsBytes lenenc_text_at
text-shorter bytes p h = go (lenenc_int_at bytes) refl h where
  go : (o : Option (ℕ × List ℕ)) → lenenc_int_at bytes ≡ o → or_end (then_at o bytes_at) ≡ Ok p →
      length p.1 < length bytes
  go None e h = absurd cc
  go (Some q) e h =
      let number = number-shorter bytes q e in
      let text = first-shorter q.0 _ q.1 p (stands (bytes_at q.0 q.1) p h) in
      omega arith

-- an element before others that were read
abbrev pub before_others : {Y : Type 0} → Y → List Y × List ℕ → Reading (List Y)
before_others a others = Ok (a ∷ others.0, others.1)

-- room for more elements than there are bytes changes nothing
pub same-room : {Y : Type 0} (read_at : List ℕ → Reading Y) → EatsBytes read_at →
    (n m : ℕ) (bytes : List ℕ) → length bytes ≤ n → length bytes ≤ m → at_most_at read_at n bytes ≡
    at_most_at read_at m bytes
unfolding at_most_at
same-room read_at eats zero zero [] small large = refl
same-room read_at eats zero (suc m) [] small large = refl
same-room read_at eats (suc n) zero [] small large = refl
same-room read_at eats (suc n) (suc m) [] small large = refl
same-room read_at eats zero m (b ∷ bs) small large = absurd (omega arith)
same-room read_at eats (suc n) zero (b ∷ bs) small large = absurd (omega arith)
same-room {Y} read_at eats (suc n) (suc m) (b ∷ bs) small large =
    go (read_at (b ∷ bs)) refl (same-room read_at eats n m) where
      go : (r : Reading Y) → read_at (b ∷ bs) ≡ r
          → ((rest : List ℕ) → length rest ≤ n → length rest ≤ m →
          at_most_at read_at n rest ≡ at_most_at read_at m rest)
          → (r >>= λ first. at_most_at read_at n first.1 >>= before_others first.0) ≡
          (r >>= λ first. at_most_at read_at m first.1 >>= before_others first.0)
      go (Err e) is same = refl
      go (Ok p) is same =
          let less = eats (b ∷ bs) p is in
          ap (λ (all : Reading (List Y)). all >>= before_others p.0) (same p.1 (omega arith) (omega arith))

-- The last bytes of a payload, and what is read at a place.
use Rattle.std.proofs.Common.{◌≡◌, ℕ, suc, ◌+◌, ◌-◌, ◌≤◌, ◌<◌, Bool, true, false, List, [], ◌∷◌, inl, inr, length, take}
use Rattle.std.proofs.Common.{drop, get_or, Option, Some, None, refl, ap, ◌∙◌, arith, drop-cons, length-drop}
use Rattle.std.proofs.Common.{length-take, if◌then◌else◌}
use Rattle.std.proofs.lemmas.Bool.{cases_lt, lt-ltb}
use Rattle.std.proofs.lemmas.List.{drop-drop, drop_all}
use Rattle.std.specs.Option.{IsSome, is_some}
use Rattle.std.specs.Prelude.{nat_lt}
use Rattle.mysql_buf.specs.FirstBytes.{first-enough, first-short, first-some}
use Rattle.mysql_buf.specs.Reading.{bytes_at, first, lenenc_int_at, lenenc_str_at, little_at, then_at, u8_str_at}
use Rattle.byteorder.specs.Endian.{little_number}
use Rattle.mysql_row_refs.specs.Places.{IsTail}

-- all bytes are the last ones
pub all_tail : (bytes : List ℕ) → IsTail bytes bytes
all_tail bytes =
    let none : length bytes - length bytes ≡ 0 = omega arith in
    record { len = omega arith; same = rw none refl }

-- without the first bytes
pub dropped_tail : (n : ℕ) (bytes : List ℕ) → n ≤ length bytes → IsTail bytes (drop n bytes)
dropped_tail n bytes h =
    let left : length (drop n bytes) ≡ length bytes - n = length-drop n bytes in
    let k : length bytes - length (drop n bytes) ≡ n = omega (arith, left, h) in
    record { len = omega (arith, left); same = rw k refl }

-- the last bytes of the last bytes
pub tail_of_tail : (payload bytes rest : List ℕ) → IsTail payload bytes → IsTail bytes rest → IsTail payload rest
tail_of_tail payload bytes rest p q =
    let lp : length bytes ≤ length payload = p.len in
    let lq : length rest ≤ length bytes = q.len in
    let k : (length payload - length bytes) + (length bytes - length rest) ≡
    length payload - length rest = omega (arith, lp, lq) in
    let one : rest ≡ drop (length bytes - length rest)
    (drop (length payload - length bytes) payload) = q.same ∙
    ap (drop (length bytes - length rest)) p.same in
    record {
      len = omega (arith, lp, lq);
      same = one ∙ drop-drop (length bytes - length rest) (length payload - length bytes) payload ∙
          ap (λ n. drop n payload) k;
    }

-- a number of n bytes
pub first_tail : {X : Type 0} (n : ℕ) (value : List ℕ → X) (bytes rest : List ℕ) (x : X) →
    first n value bytes ≡ Some (x, rest) → IsTail bytes rest
first_tail {X = X} n value bytes rest x h =
    let p = first-some n value bytes (x, rest) h in
    let r : rest ≡ drop n bytes = ap (λ (z : X × List ℕ). z.1) p.1 in
    rw r (dropped_tail n bytes p.0)

-- n bytes, and those after them
pub bytes_tail : (n : ℕ) (bytes text rest : List ℕ) → bytes_at n bytes ≡ Some (text, rest) → IsTail bytes rest
bytes_tail n bytes text rest h = first_tail n (take n) bytes rest text h

pub bytes_len : (n : ℕ) (bytes text rest : List ℕ) → bytes_at n bytes ≡ Some (text, rest) → length text ≡ n
bytes_len n bytes text rest h =
    let p = first-some n (take n) bytes (text, rest) h in
    let t : text ≡ take n bytes = ap (λ (z : List ℕ × List ℕ). z.0) p.1 in
    rw t (omega (arith, p.0, length-take n bytes))

-- what stands behind its length
counted_tail : (count : Option (ℕ × List ℕ)) (bytes text rest : List ℕ) →
    ((n : ℕ) (from : List ℕ) → count ≡ Some (n, from) → IsTail bytes from)
    → then_at count bytes_at ≡ Some (text, rest) → IsTail bytes rest
counted_tail None bytes text rest t h = absurd (cc)
counted_tail (Some p) bytes text rest t h =
    let from : IsTail bytes p.1 = t p.0 p.1 refl in
    tail_of_tail bytes p.1 rest from (bytes_tail p.0 p.1 text rest h)

inner : {A : Type 0} (p q : A) → Some p ≡ Some q → p ≡ q
inner p q h = cc

by_first : (small two three eight : Bool) (b n : ℕ) (bs rest : List ℕ)
    → (if small then Some (b, bs) else if two then little_at 2 bs else if three then little_at 3 bs
    else if eight then little_at 8 bs else Some (0, bs)) ≡ Some (n, rest)
    → IsTail bs rest
by_first true two three eight b n bs rest h = let r : bs ≡ rest =
    ap (λ (z : ℕ × List ℕ). z.1) (inner (b, bs) (n, rest) h) in rw (← r) (all_tail bs)
by_first false true three eight b n bs rest h = first_tail 2 (little_number 2) bs rest n h
by_first false false true eight b n bs rest h = first_tail 3 (little_number 3) bs rest n h
by_first false false false true b n bs rest h = first_tail 8 (little_number 8) bs rest n h
by_first false false false false b n bs rest h = let r : bs ≡ rest =
    ap (λ (z : ℕ × List ℕ). z.1) (inner (0, bs) (n, rest) h) in rw (← r) (all_tail bs)

behind_first : (b : ℕ) (bs rest : List ℕ) → IsTail bs rest → IsTail (b ∷ bs) rest
behind_first b bs rest t = tail_of_tail (b ∷ bs) bs rest (dropped_tail 1 (b ∷ bs) (omega arith)) t

pub lenenc_int_tail : (bytes : List ℕ) (n : ℕ) (rest : List ℕ) → lenenc_int_at bytes ≡
    Some (n, rest) → IsTail bytes rest
lenenc_int_tail [] n rest h = absurd (cc)
lenenc_int_tail (b ∷ bs) n rest h = behind_first b bs rest (by_first _ _ _ _ b n bs rest h)

pub lenenc_str_tail : (bytes text rest : List ℕ) → lenenc_str_at bytes ≡ Some (text, rest) → IsTail bytes rest
lenenc_str_tail bytes text rest h =
    counted_tail (lenenc_int_at bytes) bytes text rest (λ n from e. lenenc_int_tail bytes n from e)
    h

pub u8_str_tail : (bytes text rest : List ℕ) → u8_str_at bytes ≡ Some (text, rest) → IsTail bytes rest
u8_str_tail bytes text rest h =
    counted_tail (little_at 1 bytes) bytes text rest
    (λ n from e. first_tail 1 (little_number 1) bytes from n e) h

-- where something is read, the place lies within the payload
read_within : (read : List ℕ → Option (List ℕ × List ℕ)) (payload : List ℕ) (at : ℕ) → read [] ≡
    None → IsSome (read (drop at payload)) → at < length payload
read_within read payload at none some = elim (cases_lt at (length payload)) [
  | inl within ↦ within
  | inr beyond ↦
      let all : drop at payload ≡ [] = drop_all at payload beyond in
      let nothing : read (drop at payload) ≡ None = rw all none in
      let is : is_some (read (drop at payload)) ≡ false = rw nothing refl in
      absurd (cc)
]

pub short_within : (payload : List ℕ) (at : ℕ) → IsSome (u8_str_at (drop at payload)) → at < length payload
short_within payload at some =
    read_within u8_str_at payload at (rw (first-short 1 (little_number 1) [] (omega arith)) refl)
    some

-- a length below 251 stands in one byte
by_one_byte : (b : ℕ) (bs : List ℕ) → b < 251 → lenenc_str_at (b ∷ bs) ≡ u8_str_at (b ∷ bs)
by_one_byte b bs h =
    let small : nat_lt b 251 ≡ true = lt-ltb b 251 h in
    let one = first-enough 1 (little_number 1) (b ∷ bs) (omega arith) in
    let n : little_number 1 (b ∷ bs) ≡ b = omega arith in
    rw (small, one, n) refl

pub one_byte : (bytes : List ℕ) → 0 < length bytes → get_or bytes 0 0 < 251 → lenenc_str_at bytes ≡ u8_str_at bytes
one_byte [] some h = absurd (omega (arith, some))
one_byte (b ∷ bs) some h = by_one_byte b bs h

pub short_lenenc : (payload : List ℕ) (at : ℕ) → IsSome (lenenc_str_at (drop at payload)) →
    get_or payload at 0 < 251 → lenenc_str_at (drop at payload) ≡ u8_str_at (drop at payload)
short_lenenc payload at some h =
    let within : at < length payload = read_within lenenc_str_at payload at refl some in
    rw (drop-cons payload at 0 within) (by_one_byte (get_or payload at 0) (drop (suc at) payload) h)

-- Length-encoded numbers and texts read back, and no spelling of a number is shorter.
use Rattle.std.proofs.Common.{◌≡◌, ℕ, suc, ◌+◌, ◌-◌, ◌%◌, ◌^◌, ◌<◌, ◌≤◌, false, inl, inr, List, [], ◌∷◌, ◌++◌, length}
use Rattle.std.proofs.Common.{take, drop, Some, refl, ap, ◌∙◌, arith, append_assoc}
use Rattle.std.proofs.Math.Nat.{mod-eq_of_lt}
use Rattle.std.proofs.lemmas.Bool.{cases_lt, le-ltb, lt-ltb}
use Rattle.std.proofs.lemmas.Bool.Decides.{eqb_tells}
use Rattle.std.proofs.lemmas.List.{length-drop, length-take, take_at}
use Rattle.std.specs.List.{AllByRecursion, after_first, before_first, position_or_len}
use Rattle.byteorder.specs.Endian.{little_bytes, little_number}
use Rattle.byteorder.specs.Numbers.{little_from-lt}
use Rattle.mysql_buf.specs.NumberLaws.{little-reads_back, bytes_at-append}
use Rattle.mysql_buf.specs.FirstBytes.{first-some}
use Rattle.mysql_buf.specs.Bytes.{AreBytes}
use Rattle.mysql_buf.specs.Reading.{is_zero, little_at, lenenc_int_at, lenenc_str_at, bytes_at, then_at, u8_str_at}
use Rattle.mysql_buf.specs.Reading.{u32_str_at}
use Rattle.mysql_buf.specs.Writing.{front, lenenc_int, lenenc_str, u8_str, u32_str}

pub lenenc_int-reads_back : (n : ℕ) (rest : List ℕ) → n < 2 ^ 64 → lenenc_int_at (lenenc_int n ++ rest) ≡ Some (n, rest)
lenenc_int-reads_back n rest h = elim (cases_lt n 251) [
  | inl one ↦ let test = lt-ltb n 251 one in rw (test, test) refl
  | inr more ↦ elim (cases_lt n (2 ^ 16)) [
    | inl two ↦ rw (le-ltb n 251 more, lt-ltb n (2 ^ 16) two) (little-reads_back 2 n rest (omega arith))
    | inr more2 ↦ elim (cases_lt n (2 ^ 24)) [
      | inl three ↦ rw (le-ltb n 251 more, le-ltb n (2 ^ 16) more2, lt-ltb n (2 ^ 24) three)
          (little-reads_back 3 n rest (omega arith))
      | inr more3 ↦ rw (le-ltb n 251 more, le-ltb n (2 ^ 16) more2, le-ltb n (2 ^ 24) more3)
          (little-reads_back 8 n rest (omega arith))
    ]
  ]
]

pub lenenc_str-reads_back : (text rest : List ℕ) → length text < 2 ^ 64 →
    lenenc_str_at (lenenc_str text ++ rest) ≡ Some (text, rest)
lenenc_str-reads_back text rest h =
    let regroup : lenenc_str text ++ rest ≡ lenenc_int (length text) ++ (text ++ rest) =
    append_assoc (lenenc_int (length text)) text rest in
    rw (regroup, lenenc_int-reads_back (length text) (text ++ rest) h) (bytes_at-append text rest)

-- behind a text and one byte
drop-past : (text rest : List ℕ) → drop (suc (length text)) (text ++ 0 ∷ rest) ≡ rest
drop-past [] rest = refl
drop-past (b ∷ text) rest = drop-past text rest

-- a front has no more bytes than asked for
pub front-bound : (text : List ℕ) (most : ℕ) → length (front text most) ≤ most
unfolding front
front-bound text most = omega (arith, length-take most text)

-- the number of bytes, and these
counted-reads_back : (n : ℕ) (text rest : List ℕ) → length text < 256 ^ n
    → then_at (little_at n (little_bytes n (length text) ++ (text ++ rest))) bytes_at ≡ Some (text, rest)
counted-reads_back n text rest h = rw (little-reads_back n (length text) (text ++ rest) h) (bytes_at-append text rest)

pub u8_str-reads_back : (text rest : List ℕ) → u8_str_at (u8_str text ++ rest) ≡ Some (front text 255, rest)
u8_str-reads_back text rest =
    let bound = front-bound text 255 in
    let small : length (front text 255) % 256 ≡ length (front text 255) = mod-eq_of_lt (omega arith) in
    let back = counted-reads_back 1 (front text 255) rest (omega arith) in
    rw small at back

pub u32_str-reads_back : (text rest : List ℕ) → u32_str_at (u32_str text ++ rest) ≡ Some (front text (2 ^ 32 - 1), rest)
u32_str-reads_back text rest =
    let bound = front-bound text (2 ^ 32 - 1) in
    counted-reads_back 4 (front text (2 ^ 32 - 1)) rest (omega arith)

-- the first zero stands behind the text
zero-place : (text rest : List ℕ) → AllByRecursion (λ b. is_zero b ≡ false) text →
    position_or_len is_zero (text ++ 0 ∷ rest) ≡ length text
zero-place [] rest h = refl
zero-place (b ∷ text) rest h = let e = zero-place text rest h.1 in rw (h.0, e) (omega arith)

pub null-reads_back : (text rest : List ℕ) → AllByRecursion (λ b. is_zero b ≡ false) text
    → (before_first is_zero (text ++ 0 ∷ rest) ≡ text) × (after_first is_zero (text ++ 0 ∷ rest) ≡ rest)
null-reads_back text rest h =
    let e = zero-place text rest h in
    let taken : before_first is_zero (text ++ 0 ∷ rest) ≡ take (length text) (text ++ 0 ∷ rest) =
    ap (λ n. take n (text ++ 0 ∷ rest)) e in
    let left : after_first is_zero (text ++ 0 ∷ rest) ≡ drop (length text + 1) (text ++ 0 ∷ rest) =
    ap (λ n. drop (n + 1) (text ++ 0 ∷ rest)) e in
    let one : length text + 1 ≡ suc (length text) = omega arith in (
      taken ∙ take_at text (0 ∷ rest) (length text) refl,
      left ∙
          ap (λ n. drop n (text ++ 0 ∷ rest)) one ∙ drop-past text rest,
    )

-- how many bytes a number takes at most
length-below_16 : (n : ℕ) → n < 2 ^ 16 → length (lenenc_int n) ≤ 3
length-below_16 n h = elim (cases_lt n 251) [
  | inl one ↦ rw (lt-ltb n 251 one) (omega arith)
  | inr more ↦ rw (le-ltb n 251 more, lt-ltb n (2 ^ 16) h) (omega arith)
]

length-below_24 : (n : ℕ) → n < 2 ^ 24 → length (lenenc_int n) ≤ 4
length-below_24 n h = elim (cases_lt n (2 ^ 16)) [
  | inl two ↦ let e = length-below_16 n two in omega (arith, e)
  | inr more ↦
      let above : 251 ≤ n = omega arith in
      rw (le-ltb n 251 above, le-ltb n (2 ^ 16) more, lt-ltb n (2 ^ 24) h) (omega arith)
]

length-at_most : (n : ℕ) → length (lenenc_int n) ≤ 9
length-at_most n = elim (cases_lt n (2 ^ 24)) [
  | inl three ↦ let e = length-below_24 n three in omega (arith, e)
  | inr more ↦
      let above : 251 ≤ n = omega arith in
      let above2 : 2 ^ 16 ≤ n = omega arith in
      rw (le-ltb n 251 above, le-ltb n (2 ^ 16) above2, le-ltb n (2 ^ 24) more) (omega arith)
]

-- what a number of k bytes leaves
pub left-of : (k : ℕ) (bs : List ℕ) (n : ℕ) (rest : List ℕ) → AreBytes bs → little_at k bs ≡
    Some (n, rest) → (n < 256 ^ k) × (length rest + k ≡ length bs)
left-of k bs n rest small h =
    let p = first-some k (little_number k) bs (n, rest) h in
    let number : n ≡ little_number k bs = ap (λ p. p.0) p.1 in
    let left : rest ≡ drop k bs = ap (λ p. p.1) p.1 in
    let bound = little_from-lt 0 k bs small in
    let count : length rest ≡ length bs - k = ap length left ∙ length-drop k bs in
    (omega arith, omega (arith, p.0))

-- what stands is one thing
some-injective : (p q : ℕ × List ℕ) → Some p ≡ Some q → p ≡ q
some-injective p q h = cc

-- no spelling of a number is shorter than the written one
pub lenenc_int-shortest : (n : ℕ) (bytes rest : List ℕ) → AreBytes bytes → lenenc_int_at bytes ≡
    Some (n, rest) → length (lenenc_int n) + length rest ≤ length bytes
lenenc_int-shortest n [] rest small h = absurd (cc)
lenenc_int-shortest n (b ∷ bs) rest small h = elim (cases_lt b 251) [
  | inl one ↦
      let at : Some (b, bs) ≡ Some (n, rest) = rw (lt-ltb b 251 one) at h in
      let pair = some-injective (b, bs) (n, rest) at in
      let number : b ≡ n = ap (λ p. p.0) pair in
      let left : bs ≡ rest = ap (λ p. p.1) pair in
      rw (← number, ← left, lt-ltb b 251 one) (omega arith)
  | inr more ↦ elim (eqb_tells b 252) [
    | inl two ↦
        let at : little_at 2 bs ≡ Some (n, rest) = rw (le-ltb b 251 more, two.0) at h in
        let p = left-of 2 bs n rest (λ i. small (suc i)) at in
        let e = length-below_16 n (omega (arith, p.0)) in
        omega (arith, e, p.1)
    | inr not2 ↦ elim (eqb_tells b 253) [
      | inl three ↦
          let at : little_at 3 bs ≡ Some (n, rest) = rw (le-ltb b 251 more, not2.0, three.0) at h in
          let p = left-of 3 bs n rest (λ i. small (suc i)) at in
          let e = length-below_24 n (omega (arith, p.0)) in
          omega (arith, e, p.1)
      | inr not3 ↦ elim (eqb_tells b 254) [
        | inl eight ↦
            let at : little_at 8 bs ≡ Some (n, rest) = rw (le-ltb b 251 more, not2.0, not3.0, eight.0) at h in
            let p = left-of 8 bs n rest (λ i. small (suc i)) at in
            let e = length-at_most n in
            omega (arith, e, p.1)
        | inr not8 ↦
            let at : Some (0, bs) ≡ Some (n, rest) = rw (le-ltb b 251 more, not2.0, not3.0, not8.0) at h in
            let pair = some-injective (0, bs) (n, rest) at in
            let number : 0 ≡ n = ap (λ p. p.0) pair in
            let left : bs ≡ rest = ap (λ p. p.1) pair in
            rw (← number, ← left) (omega arith)
      ]
    ]
  ]
]

-- Length-encoded numbers, and the bytes that they count.
use Rattle.std.proofs.Common.{◌≡◌, ◌⊎◌, inl, inr, ℕ, ◌<◌, ◌^◌, false, List, [], ◌∷◌, ◌++◌, length, Option, Some, None}
use Rattle.std.proofs.Common.{refl, sym, ap, ◌∙◌, arith, subst, append_assoc}
use Rattle.std.specs.Prelude.{nat_lt, ◌==◌, if◌then◌else◌}
use Rattle.std.proofs.lemmas.Bool.{ltb-true, ltb-false, eqb-true, eqb-false, lt-ltb, cases_eq}
use Rattle.byteorder.specs.Endian.{little_bytes}
use Rattle.mysql_buf.specs.Bytes.{AreBytes}
use Rattle.mysql_buf.specs.NumberLaws.{little-reads_back}
use Rattle.mysql_buf.specs.Reading.{bytes_at, little_at, lenenc_int_at, lenenc_str_at, u8_str_at, then_at}
use Rattle.mysql_command_rules.specs.Cells.{IsLength, one_byte, two_bytes, three_bytes, eight_bytes, no_length}
use Rattle.mysql_command_rules.proofs.Binds.{if_then}
use Rattle.mysql_command_rules.proofs.Numbers.{Taken, taken_as, bytes_behind, bytes_given, bytes_taken, byte_given}
use Rattle.mysql_command_rules.proofs.Numbers.{byte_taken, little_taken}

-- a number that was read, and a byte for it
here : (b n : ℕ) (bs : List ℕ) (p : ℕ × List ℕ) → IsLength (b ∷ []) n → Some (n, bs) ≡ Some p →
    Taken IsLength (b ∷ bs) p
here b n bs p is e =
    let same : (n, bs) ≡ p = cc in
    taken_as IsLength (b ∷ bs) (n, bs) p same (record { part = b ∷ []; joined = refl; is = is })

-- so many bytes behind a first one
behind : (b first n : ℕ) (bs : List ℕ) (p : ℕ × List ℕ) → b ≡ first →
    (p.0 < 256 ^ n → IsLength (first ∷ little_bytes n p.0) p.0) → AreBytes bs → little_at n bs ≡
    Some p → Taken IsLength (b ∷ bs) p
behind b first n bs p same is are e =
    let taken = little_taken n bs p are e in
    record {
      part = first ∷ little_bytes n p.0;
      joined = ap (λ (x : ℕ). x ∷ bs) same ∙
          ap (λ (l : List ℕ). first ∷ l) taken.1;
      is = is taken.0;
    }

-- fb and ff are left
neither : (b : ℕ) → b < 256 → nat_lt b 251 ≡ false → (b == 252) ≡ false → (b == 253) ≡ false →
    (b == 254) ≡ false → (b ≡ 251) ⊎ (b ≡ 255)
neither b lt f1 f2 f3 f4 = elim (cases_eq b 251) [
  | inl same ↦ inl same
  | inr other ↦
      let a = ltb-false b 251 f1 in
      let x = eqb-false b 252 f2 in
      let y = eqb-false b 253 f3 in
      let z = eqb-false b 254 f4 in
      let last : b ≡ 255 = omega (arith, a, x, y, z, other, lt) in
      inr last
]

pub length_taken : (bytes : List ℕ) (p : ℕ × List ℕ) → AreBytes bytes → lenenc_int_at bytes ≡
    Some p → Taken IsLength bytes p
length_taken [] p are e = absurd cc
length_taken (b ∷ bs) p are e =
    let rest : AreBytes bs = bytes_behind (b ∷ []) bs (b ∷ bs) refl are in
    if_then (nat_lt b 251) (Some (b, bs))
    (if b == 252 then little_at 2 bs else if b == 253 then little_at 3 bs else if b == 254 then
    little_at 8 bs else Some (0, bs)) (Some p)
    (λ t h. here b b bs p (one_byte b (ltb-true b 251 t)) h)
    (λ f1. if_then (b == 252) (little_at 2 bs)
    (if b == 253 then little_at 3 bs else if b == 254 then little_at 8 bs else Some (0, bs))
    (Some p)
    (λ t h. behind b 252 2 bs p (eqb-true b 252 t) (two_bytes p.0) rest h)
    (λ f2. if_then (b == 253) (little_at 3 bs) (if b == 254 then little_at 8 bs else Some (0, bs)) (Some p)
    (λ t h. behind b 253 3 bs p (eqb-true b 253 t) (three_bytes p.0) rest h)
    (λ f3. if_then (b == 254) (little_at 8 bs) (Some (0, bs)) (Some p)
    (λ t h. behind b 254 8 bs p (eqb-true b 254 t) (eight_bytes p.0) rest h)
    (λ f4 h. here b 0 bs p (no_length b (neither b (are 0) f1 f2 f3 f4)) h)))) e

pub length_given : (count : List ℕ) (n : ℕ) (rest : List ℕ) → IsLength count n →
    lenenc_int_at (count ++ rest) ≡ Some (n, rest)
length_given count n rest (one_byte b lt) = rw (lt-ltb b 251 lt) refl
length_given count n rest (two_bytes b lt) = little-reads_back 2 b rest lt
length_given count n rest (three_bytes b lt) = little-reads_back 3 b rest lt
length_given count n rest (eight_bytes b lt) = little-reads_back 8 b rest lt
length_given count n rest (no_length b (inl e)) =
    subst (λ (x : ℕ). lenenc_int_at (x ∷ rest) ≡ Some (0, rest)) (sym e) refl
length_given count n rest (no_length b (inr e)) =
    subst (λ (x : ℕ). lenenc_int_at (x ∷ rest) ≡ Some (0, rest)) (sym e) refl

-- ---- bytes behind their number

-- a number that counts bytes, and the bytes
pub record HasCounted (IsCount : List ℕ → ℕ → Type 0) (part held : List ℕ) : Type 0 where
  pub count : List ℕ
  pub counts : IsCount count (length held)
  pub spelled : part ≡ count ++ held

counted : (IsCount : List ℕ → ℕ → Type 0) (bytes : List ℕ) (r : Option (ℕ × List ℕ)) (p : List ℕ ×
    List ℕ) → ((q : ℕ × List ℕ) → r ≡ Some q → Taken IsCount bytes q) → then_at r bytes_at ≡
    Some p → Taken (HasCounted IsCount) bytes p
counted IsCount bytes None p first e = absurd cc
counted IsCount bytes (Some q) p first e =
    let number = first q refl in
    let held = bytes_taken q.0 q.1 p e in
    record {
      part = number.part ++ p.0;
      joined = number.joined ∙ ap (λ (l : List ℕ). number.part ++ l) held.1 ∙ sym (append_assoc number.part p.0 p.1);
      is = record {
        count = number.part;
        counts =
            subst (λ (n : ℕ). IsCount number.part n) (sym held.0) number.is;
        spelled = refl;
      };
    }

pub text_taken : (bytes : List ℕ) (p : List ℕ × List ℕ) → AreBytes bytes → lenenc_str_at bytes ≡
    Some p → Taken (HasCounted IsLength) bytes p
text_taken bytes p are e = counted IsLength bytes (lenenc_int_at bytes) p (λ q h. length_taken bytes q are h) e

pub text_given : (count held rest : List ℕ) → IsLength count (length held) →
    lenenc_str_at ((count ++ held) ++ rest) ≡ Some (held, rest)
text_given count held rest is =
    ap (λ (l : List ℕ). lenenc_str_at l) (append_assoc count held rest)
    ∙ ap (λ (r : Option (ℕ × List ℕ)). then_at r bytes_at) (length_given count (length held) (held ++ rest) is)
    ∙ bytes_given (length held) held rest refl

-- behind one byte
abbrev pub IsByte : List ℕ → ℕ → Type 0
IsByte count n = (n < 256) × (count ≡ n ∷ [])

pub short_taken : (bytes : List ℕ) (p : List ℕ × List ℕ) → AreBytes bytes → u8_str_at bytes ≡
    Some p → Taken (HasCounted IsByte) bytes p
short_taken bytes p are e =
    counted IsByte bytes (little_at 1 bytes) p
    (λ q h. let taken = little_taken 1 bytes q are h in
    record { part = q.0 ∷ []; joined = byte_taken bytes q h; is = (taken.0, refl) }) e

pub short_given : (held rest : List ℕ) → u8_str_at (length held ∷ held ++ rest) ≡ Some (held, rest)
short_given held rest =
    ap (λ (r : Option (ℕ × List ℕ)). then_at r bytes_at) (byte_given (length held) (held ++ rest)) ∙
    bytes_given (length held) held rest refl

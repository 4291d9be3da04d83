-- The bytes of a bitmap, one after another.
use Rattle.std.proofs.Common.{◌≡◌, ℕ, zero, suc, ◌+◌, ◌-◌, ◌*◌, ◌/◌, ◌^◌, ◌<◌, ◌≤◌, ◌⊎◌, Bool, true, false, List, []}
use Rattle.std.proofs.Common.{◌∷◌, ◌++◌, length, min, get_or, take, drop, map, refl, sym, ◌∙◌, ap, inl, inr, arith}
use Rattle.std.proofs.Common.{append_assoc, if◌then◌else◌}
use Rattle.std.specs.List.{range_with_len}
use Rattle.std.proofs.lemmas.Bool.{cases_lt}
use Rattle.std.proofs.lemmas.List.{drop-map, drop_all, drop_more, length-map, take_rest}
use Rattle.std.proofs.lemmas.List.FromFn.{map-range_with_len_more}
use Rattle.std.proofs.lemmas.Nat.{pow_pos}
use Rattle.std.proofs.Math.Nat.{pow-succ'}
use Rattle.mysql_cells.specs.declared.value.Value.{Value}
use Rattle.mysql_cells.specs.Values.{is_null}
use Rattle.mysql_stmt.specs.Executions.{null_bits, null_bitmap}
use Rattle.mysql_stmt.specs.NullBits.{null_bits_below}

-- the bits of the values before a place, and the weight of the bit at it
pub record Bits {T : Type 0} (lent : T → Value) (values : List T) (place byte bit : ℕ) : Type 0 where
  pub whole : byte + bit * null_bits (8 - place) (map lent (drop place values)) ≡ null_bits 8 (map lent values)
  pub weight : bit * 2 ^ (8 - place) ≡ 256

-- the bit of one more
one_bit : (value : Value) (values : List Value) (n m : ℕ) → n ≡ suc m →
    null_bits n (value ∷ values) ≡ (if is_null value then 1 else 0) + 2 * null_bits m values
unfolding null_bits
one_bit value values n m is = ap (λ k. null_bits k (value ∷ values)) is

regroup : (bit power : ℕ) → bit * 2 * power ≡ bit * (2 * power)
regroup bit power = omega arith

next_weight : (bit new n m : ℕ) → n ≡ suc m → new ≡ bit * 2 → bit * 2 ^ n ≡ 256 → new * 2 ^ m ≡ 256
next_weight bit new n m is twice weight =
    ap (λ k. k * 2 ^ m) twice ∙ regroup bit (2 ^ m) ∙ ap (λ k. bit * k) (sym (pow-succ' 2 m)) ∙
    ap (λ k. bit * 2 ^ k) (sym is) ∙ weight

bits_step : (b : Bool) (byte bit new rest all : ℕ) →
    byte + bit * ((if b then 1 else 0) + 2 * rest) ≡ all → new ≡ (if b then byte + bit else byte) →
    new + bit * 2 * rest ≡ all
bits_step true byte bit new rest all whole is = omega (arith, whole, is)
bits_step false byte bit new rest all whole is = omega (arith, whole, is)

pub next_bit : {T : Type 0} (lent : T → Value) (values : List T)
    (place byte bit new_byte new_bit : ℕ) (value : T) → Bits lent values place byte bit →
    place < 8 → place < length values → value ≡ get_or values place value
    → new_byte ≡ (if is_null (lent value) then byte + bit else byte) → new_bit ≡ bit * 2 →
    Bits lent values (place + 1) new_byte new_bit
next_bit {T} lent values place byte bit new_byte new_bit value b few inside is put twice =
    let later : List Value = map lent (drop (place + 1) values) in
    let here : map lent (drop place values) ≡ lent value ∷ later =
    ap (λ (l : List T). map lent l) (drop_more values place value inside) ∙ ap (λ (v : T). lent v ∷ later) (sym is) in
    let step : 8 - place ≡ suc (8 - (place + 1)) = omega arith in
    let bits : null_bits (8 - place) (map lent (drop place values)) ≡
    (if is_null (lent value) then 1 else 0) + 2 * null_bits (8 - (place + 1)) later =
    ap (λ l. null_bits (8 - place) l) here ∙ one_bit (lent value) later (8 - place) (8 - (place + 1)) step in
    record {
      whole = ap (λ n. new_byte + n * null_bits (8 - (place + 1)) later) twice
          ∙ bits_step (is_null (lent value)) byte bit new_byte (null_bits (8 - (place + 1)) later) _
          (sym (ap (λ n. byte + bit * n) bits) ∙ b.whole) put;
      weight = next_weight bit new_bit (8 - place) (8 - (place + 1)) step twice b.weight;
    }

-- a bit's weight fits, and so does the byte with it
pub small_weight : {T : Type 0} (lent : T → Value) (values : List T) (place byte bit : ℕ) →
    Bits lent values place byte bit → bit ≤ 256
small_weight lent values place byte bit b = at_most bit (2 ^ (8 - place)) b.weight (pow_pos (8 - place))
  where
    at_most : (x y : ℕ) → x * y ≡ 256 → 0 < y → x ≤ 256
    at_most x zero is some = absurd (omega (arith, some))
    at_most x (suc y) is some = omega (arith, is)

pub small_byte : {T : Type 0} (lent : T → Value) (values : List T) (place byte bit : ℕ) →
    Bits lent values place byte bit → byte < 256
small_byte lent values place byte bit b = omega (arith, b.whole, null_bits_below 8 (map lent values))

no_more : (n : ℕ) → null_bits n [] ≡ 0
unfolding null_bits
no_more zero = refl
no_more (suc n) = refl

none_counted : (values : List Value) → null_bits 0 values ≡ 0
unfolding null_bits
none_counted values = refl

-- behind the eighth value, or the last one
pub all_bits : {T : Type 0} (lent : T → Value) (values : List T) (place byte bit : ℕ) →
    Bits lent values place byte bit → (8 ≤ place) ⊎ (length values ≤ place) → byte ≡
    null_bits 8 (map lent values)
all_bits {T} lent values place byte bit b (inl eight) =
    let left : null_bits (8 - place) (map lent (drop place values)) ≡ 0 =
    let none : 8 - place ≡ 0 = omega arith in
    ap (λ n. null_bits n (map lent (drop place values))) none ∙ none_counted (map lent (drop place values)) in
    omega (arith, sym (ap (λ n. byte + bit * n) left) ∙ b.whole)
all_bits {T} lent values place byte bit b (inr last) =
    let left : null_bits (8 - place) (map lent (drop place values)) ≡ 0 =
    ap (λ (l : List T). null_bits (8 - place) (map lent l)) (drop_all place values last) ∙ no_more (8 - place) in
    omega (arith, sym (ap (λ n. byte + bit * n) left) ∙ b.whole)

-- the places end behind the eighth value, or the last one
pub ends : (count place : ℕ) → min count 8 ≤ place → (8 ≤ place) ⊎ (count ≤ place)
ends count place passed = elim (cases_lt count 8) [
  | inl fewer ↦ inr (omega (arith, fewer, passed))
  | inr more ↦ inl (omega (arith, more, passed))
]

-- the bytes of the first so many eights
abbrev pub first_bytes : List Value → ℕ → List ℕ
first_bytes values count = map (λ k. null_bits 8 (drop (8 * k) values)) (range_with_len 0 count)

pub one_more_byte : {T : Type 0} (lent : T → Value) (values : List T) (old out new : List ℕ)
    (k byte : ℕ) → out ≡ old ++ first_bytes (map lent values) k →
    byte ≡ null_bits 8 (map lent (take (length values - 8 * k) (drop (8 * k) values))) → new ≡
    out ++ byte ∷ [] → new ≡ old ++ first_bytes (map lent values) (k + 1)
one_more_byte {T} lent values old out new k byte so_far is put =
    let all : List Value = map lent values in
    let bytes : first_bytes all (k + 1) ≡ first_bytes all k ++ null_bits 8 (drop (8 * k) all) ∷ [] =
    map-range_with_len_more (λ k. null_bits 8 (drop (8 * k) all)) 0 k k (omega arith) in
    let here : byte ≡ null_bits 8 (drop (8 * k) all) =
    is ∙ ap (λ (l : List T). null_bits 8 (map lent l)) (take_rest values (8 * k)) ∙
    ap (λ l. null_bits 8 l) (sym (drop-map lent (8 * k) values)) in
    put ∙ ap (λ b. out ++ b ∷ []) here ∙ ap (λ l. l ++ null_bits 8 (drop (8 * k) all) ∷ []) so_far ∙
    append_assoc old (first_bytes all k) (null_bits 8 (drop (8 * k) all) ∷ []) ∙
    ap (λ l. old ++ l) (sym bytes)

pub all_bytes : {T : Type 0} (lent : T → Value) (values : List T) (old out : List ℕ) (k : ℕ) → out ≡
    old ++ first_bytes (map lent values) k → k ≡ (length values + 7) / 8 → out ≡ old ++
    null_bitmap (map lent values)
unfolding null_bitmap
all_bytes lent values old out k so_far is =
    so_far ∙ ap (λ n. old ++ first_bytes (map lent values) n) (is ∙
    ap (λ n. (n + 7) / 8) (sym (length-map values lent)))

-- The bits of a bitmap, one at a time.
use Rattle.std.proofs.Common.{◌≡◌, ◌<◌, ◌+◌, ◌-◌, ◌*◌, ◌/◌, ◌%◌, ◌^◌, ◌==◌, ◌⊎◌, inl, inr, ℕ, zero, suc, Bool, not}
use Rattle.std.proofs.Common.{cond, List, ◌∷◌, map, refl, ap, ◌∙◌, sym, arith, slice_index}
use Rattle.std.specs.Int.{bit_at, bit_not, w8}
use Rattle.std.specs.Int.Bits.{bit_and, bit_or}
use Rattle.std.specs.List.{range_with_len}
use Rattle.std.proofs.lemmas.Bool.{cases_eq, eq-eqb, ne_eqb}
use Rattle.std.proofs.lemmas.Nat.{pow_pos}
use Rattle.std.proofs.lemmas.Nat.Bits.{and_pow, bit_at_set_same, bit_at_set_other, bit_at_clear_same}
use Rattle.std.proofs.lemmas.Nat.Bits.{bit_at_clear_other}
use Rattle.mysql_field_lists.specs.NullBitmap.{has_bit, is_null_at, bits_from, nulls_of}

-- where there is a bit, it stands before the others
step : (bytes : List ℕ) (first count : ℕ) → bits_from bytes first (suc count) ≡
    has_bit bytes first ∷ bits_from bytes (first + 1) count
step bytes first count = refl

pub first_bit : (bytes : List ℕ) (first last : ℕ) → first < last
    → bits_from bytes first (last - first) ≡ has_bit bytes first ∷ bits_from bytes (first + 1) (last - (first + 1))
first_bit bytes first last h =
    let e : last - first ≡ suc (last - (first + 1)) = omega arith in
    rw e (step bytes first (last - (first + 1)))

-- columns behind an offset are bits from that number on
columns : (offset : ℕ) (bytes : List ℕ) (first count : ℕ)
    → bits_from bytes (offset + first) count ≡ map (is_null_at offset bytes) (range_with_len first count)
columns offset bytes first zero = refl
columns offset bytes first (suc count) =
    let e : offset + first + 1 ≡ offset + (first + 1) = omega arith in
    ap (λ others. has_bit bytes (offset + first) ∷ others) (rw e (columns offset bytes (first + 1) count))

pub columns_of : (offset : ℕ) (bytes : List ℕ) (count : ℕ) → bits_from bytes offset count ≡ nulls_of offset bytes count
columns_of offset bytes count =
    let e : offset ≡ offset + 0 = omega arith in
    ap (λ (n : ℕ). bits_from bytes n count) e ∙ columns offset bytes 0 count

-- a bit that is found by a mask
pub masked : (byte k : ℕ) → not (bit_and byte (2 ^ k) == 0) ≡ (bit_at byte k == 1)
masked byte k = rw (and_pow byte k) (found (bit_at byte k) (omega arith))
  where
    found : (bit : ℕ) → bit < 2 → not (bit * 2 ^ k == 0) ≡ (bit == 1)
    found zero few = ap not (eq-eqb (0 * 2 ^ k) 0 (omega arith))
    found (suc zero) few = ap not (ne_eqb (1 * 2 ^ k) 0 (λ none. omega (arith, none, pow_pos k)))
    found (suc (suc bit)) few = absurd (omega (arith, few))

-- the next bit is that under the mask, and the others follow
pub next_bit : (bytes : List ℕ) (first last byte mask : ℕ) → first < last → byte ≡
    slice_index bytes (first / 8) → mask ≡ 2 ^ (first % 8)
    → bits_from bytes first (last - first) ≡ not (bit_and byte mask == 0) ∷
    bits_from bytes (first + 1) (last - (first + 1))
next_bit bytes first last byte mask some held is =
    first_bit bytes first last some
    ∙ ap (λ (b : Bool). b ∷ bits_from bytes (first + 1) (last - (first + 1)))
    (ap (λ (n : ℕ). bit_at n (first % 8) == 1) (sym held) ∙ sym (masked byte (first % 8)) ∙
    ap (λ (n : ℕ). not (bit_and byte n == 0)) (sym is))

-- one bit of a byte is set, or cleared
pub set_bit : (n k other : ℕ) → k < 8 → bit_at (bit_or n (1 * 2 ^ k % 256)) other ≡ cond (other == k) 1 (bit_at n other)
set_bit n k other few = at (cases_eq other k)
  where
    at : ((other ≡ k) ⊎ (other ≡ k → ⊥)) → bit_at (bit_or n (1 * 2 ^ k % 256)) other ≡
        cond (other == k) 1 (bit_at n other)
    at (inl same) = rw (eq-eqb other k same) (rw same (bit_at_set_same w8 n k few))
    at (inr apart) = rw (ne_eqb other k apart) (bit_at_set_other w8 n k few other apart)

pub clear_bit : (n k other : ℕ) → k < 8 → other < 8 →
    bit_at (bit_and n (bit_not w8 (1 * 2 ^ k % 256))) other ≡ cond (other == k) 0 (bit_at n other)
clear_bit n k other few small = at (cases_eq other k)
  where
    at : ((other ≡ k) ⊎ (other ≡ k → ⊥)) → bit_at (bit_and n (bit_not w8 (1 * 2 ^ k % 256))) other ≡
        cond (other == k) 0 (bit_at n other)
    at (inl same) = rw (eq-eqb other k same) (rw same (bit_at_clear_same w8 n k few))
    at (inr apart) = rw (ne_eqb other k apart) (bit_at_clear_other w8 n k few other small apart)

-- the mask of the last bit of a byte
last_mask : (k : ℕ) → k < 8 → 2 ^ k ≡ 128 → k ≡ 7
last_mask zero few e = omega (arith, e)
last_mask (suc zero) few e = omega (arith, e)
last_mask (suc (suc zero)) few e = omega (arith, e)
last_mask (suc (suc (suc zero))) few e = omega (arith, e)
last_mask (suc (suc (suc (suc zero)))) few e = omega (arith, e)
last_mask (suc (suc (suc (suc (suc zero))))) few e = omega (arith, e)
last_mask (suc (suc (suc (suc (suc (suc zero)))))) few e = omega (arith, e)
last_mask (suc (suc (suc (suc (suc (suc (suc zero))))))) few e = refl
last_mask (suc (suc (suc (suc (suc (suc (suc (suc k)))))))) few e = absurd (omega (arith, few))

next_mask : (k : ℕ) → k < 7 → 2 ^ k * 2 % 256 ≡ 2 ^ (k + 1)
next_mask zero few = refl
next_mask (suc zero) few = refl
next_mask (suc (suc zero)) few = refl
next_mask (suc (suc (suc zero))) few = refl
next_mask (suc (suc (suc (suc zero)))) few = refl
next_mask (suc (suc (suc (suc (suc zero))))) few = refl
next_mask (suc (suc (suc (suc (suc (suc zero)))))) few = refl
next_mask (suc (suc (suc (suc (suc (suc (suc k))))))) few = absurd (omega (arith, few))

-- behind the last bit of a byte comes the first of the next byte
pub mask_returns : (mask next : ℕ) → mask ≡ 2 ^ (next % 8) → mask ≡ 128 → 1 ≡ 2 ^ ((next + 1) % 8)
mask_returns mask next is last =
    let seven : next % 8 ≡ 7 = last_mask (next % 8) (omega arith) (sym is ∙ last) in
    let first : (next + 1) % 8 ≡ 0 = omega (arith, seven) in
    rw first refl

-- the next bit of the same byte
seven_is_last : (mask next : ℕ) → mask ≡ 2 ^ (next % 8) → (mask ≡ 128 → ⊥) → next % 8 < 7
seven_is_last mask next is other = omega (arith, λ (seven : next % 8 ≡ 7). other (is ∙ ap (λ k. 2 ^ k) seven))

pub mask_moves : (mask next : ℕ) → mask ≡ 2 ^ (next % 8) → (mask ≡ 128 → ⊥) → mask * 2 % 256 ≡ 2 ^ ((next + 1) % 8)
mask_moves mask next is other =
    let few : next % 8 < 7 = seven_is_last mask next is other in
    let more : (next + 1) % 8 ≡ next % 8 + 1 = omega (arith, few) in
    rw more (rw is (next_mask (next % 8) few))

pub byte_stays : (mask next : ℕ) → mask ≡ 2 ^ (next % 8) → (mask ≡ 128 → ⊥) → (next + 1) / 8 ≡ next / 8
byte_stays mask next is other = omega (arith, seven_is_last mask next is other)

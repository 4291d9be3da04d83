-- The bits of a bitmap, the highest of a byte first.
use Rattle.std.proofs.Common.{◌≡◌, ℕ, zero, suc, ◌+◌, ◌-◌, ◌*◌, ◌^◌, ◌<◌, ◌≤◌, ◌⊎◌, Bool, true, false, List, [], ◌∷◌}
use Rattle.std.proofs.Common.{◌++◌, length, map, min, get_or, drop, refl, sym, ap, ◌∙◌, inl, inr, add-one, drop-cons}
use Rattle.std.proofs.Common.{append_assoc, length-append, ◌/◌, arith, lit≤}
use Rattle.std.specs.Prelude.{if◌then◌else◌}
use Rattle.std.specs.List.{range_with_len}
use Rattle.std.proofs.lemmas.List.FromFn.{map-range_with_len_more}
use Rattle.std.proofs.lemmas.Bool.{cases_lt}
use Rattle.std.proofs.lemmas.List.{drop_all, get_or_past, length-map}
use Rattle.mysql_cells.specs.Values.{is_null}
use Rattle.mysql_cells.specs.declared.value.Value.{Value}
use Rattle.mysql_cells.specs.declared.value.Value.TheVariants.{UInt}
use Rattle.mysql_stmt.specs.Executions.{null_bitmap, null_bits}
use Rattle.mysql_stmt.specs.NullBits.{null_bits_below}
use Rattle.mysql_execution_writer.specs.Written.{null_at}

no_bits : (n : ℕ) → null_bits n [] ≡ 0
unfolding null_bits
no_bits zero = refl
no_bits (suc n) = refl

-- the bits from a place on: its own, and twice those behind it
pub bits_from : (n place : ℕ) (values : List Value) → null_bits (suc n) (drop place values) ≡
    (if null_at values place then 1 else 0) + 2 * null_bits n (drop (place + 1) values)
unfolding null_bits
bits_from n place values = by (cases_lt place (length values))
  where
    by : (place < length values) ⊎ (length values ≤ place) → null_bits (suc n) (drop place values) ≡
        (if null_at values place then 1 else 0) + 2 * null_bits n (drop (place + 1) values)
    by (inl lt) =
        let here : drop place values ≡ get_or values place (UInt 0) ∷ drop (place + 1) values =
        rw add-one (drop-cons values place (UInt 0) lt) in
        ap (null_bits (suc n)) here
    by (inr le) =
        let none : drop place values ≡ [] = drop_all place values le in
        let later : drop (place + 1) values ≡ [] = drop_all (place + 1) values (omega (arith, le)) in
        let past : null_at values place ≡ false = ap is_null (get_or_past values place (UInt 0) le) in
        ap (null_bits (suc n)) none ∙ no_bits (suc n) ∙
        sym (ap (λ (b : Bool). (if b then 1 else 0) + 2 * null_bits n (drop (place + 1) values))
        past ∙ ap (λ (l : List Value). 0 + 2 * null_bits n l) later ∙
        ap (λ m. 0 + 2 * m) (no_bits n))

-- one bit more, the next lower one
pub one_more : (byte bit first j : ℕ) (values : List Value) → j < 8 → byte ≡
    null_bits j (drop (first + (8 - j)) values) → bit ≡
    (if null_at values (first + (7 - j)) then 1 else 0)
    → byte * 2 + bit ≡ null_bits (j + 1) (drop (first + (8 - (j + 1))) values)
one_more byte bit first j values lt so_far is =
    let next : first + (7 - j) + 1 ≡ first + (8 - j) = omega (arith, lt) in
    let here : first + (8 - (j + 1)) ≡ first + (7 - j) = omega (arith, lt) in
    let twice : byte * 2 + bit ≡ bit + 2 * byte = omega arith in
    twice ∙ ap (λ (b : ℕ). bit + 2 * b) (so_far ∙
    ap (λ n. null_bits j (drop n values)) (sym next)) ∙
    ap (λ (b : ℕ). b + 2 * null_bits j (drop (first + (7 - j) + 1) values)) is
    ∙ sym (bits_from j (first + (7 - j)) values) ∙
    ap (λ n. null_bits n (drop (first + (7 - j)) values)) (sym (add-one j)) ∙
    ap (λ n. null_bits (j + 1) (drop n values)) (sym here)

-- so many bits are a byte
pub small : (byte j : ℕ) (values : List Value) → j ≤ 8 → byte ≡ null_bits j values → byte < 256
small byte j values few is = omega (arith, is, null_bits_below j values, powers j few)
  where
    powers : (j : ℕ) → j ≤ 8 → 2 ^ j ≤ 256
    powers zero few = lit≤ tt
    powers (suc zero) few = lit≤ tt
    powers (suc (suc zero)) few = lit≤ tt
    powers (suc (suc (suc zero))) few = lit≤ tt
    powers (suc (suc (suc (suc zero)))) few = lit≤ tt
    powers (suc (suc (suc (suc (suc zero))))) few = lit≤ tt
    powers (suc (suc (suc (suc (suc (suc zero)))))) few = lit≤ tt
    powers (suc (suc (suc (suc (suc (suc (suc zero))))))) few = lit≤ tt
    powers (suc (suc (suc (suc (suc (suc (suc (suc zero)))))))) few = lit≤ tt
    powers (suc (suc (suc (suc (suc (suc (suc (suc (suc j))))))))) few = absurd (omega (arith, few))

pub one_bit : (b : Bool) → (if b then 1 else 0) ≤ 1
one_bit true = omega arith
one_bit false = omega arith

-- no bit yet
pub none_yet : (values : List Value) → 0 ≡ null_bits 0 values
unfolding null_bits
none_yet values = refl

-- no bit yet, where so many places of the eight hold values
pub none_left : (first count : ℕ) (values : List Value) → count ≡ min (length values - first) 8 →
    0 ≡ null_bits (8 - count) (drop (first + (8 - (8 - count))) values)
none_left first count values is = by (cases_lt count 8)
  where
    later : List Value
    later = drop (first + (8 - (8 - count))) values

    by : (count < 8) ⊎ (8 ≤ count) → 0 ≡ null_bits (8 - count) later
    by (inl lt) =
        let none : later ≡ [] = drop_all (first + (8 - (8 - count))) values (omega (arith, lt, is)) in
        sym (ap (λ (l : List Value). null_bits (8 - count) l) none ∙ no_bits (8 - count))
    by (inr le) =
        let full : 8 - count ≡ 0 = omega (arith, le) in
        none_yet later ∙ ap (λ n. null_bits n later) (sym full)

-- the bytes of a bitmap so far, and one more
pub bytes_more : (f : ℕ → ℕ) (old out new : List ℕ) (k byte : ℕ) → out ≡ old ++
    map f (range_with_len 0 k) → byte ≡ f k → new ≡ out ++ byte ∷ [] → new ≡ old ++
    map f (range_with_len 0 (k + 1))
bytes_more f old out new k byte so_far is put =
    put ∙ ap (λ (l : List ℕ). l ++ byte ∷ []) so_far ∙
    append_assoc old (map f (range_with_len 0 k)) (byte ∷ []) ∙
    ap (λ (b : ℕ). old ++ (map f (range_with_len 0 k) ++ b ∷ [])) is
    ∙ ap (λ (l : List ℕ). old ++ l) (sym (map-range_with_len_more f 0 k k (omega arith)))

pub bitmap_whole : (values : List Value) (old out : List ℕ) (k count : ℕ) → count ≡ length values →
    (count + 7) / 8 ≤ k → k ≤ (count + 7) / 8 → out ≡ old ++
    map (λ k. null_bits 8 (drop (8 * k) values)) (range_with_len 0 k)
    → out ≡ old ++ null_bitmap values
unfolding null_bitmap
bitmap_whole values old out k count is le ge so_far =
    let all : k ≡ (length values + 7) / 8 = omega (arith, is, le, ge, ap (λ n. (n + 7) / 8) is) in
    so_far ∙ ap (λ n. old ++ map (λ k. null_bits 8 (drop (8 * k) values)) (range_with_len 0 n)) all

pub all_length : {X : Type 0} (values : List Value) (view : X → Value) (xs : List X) →
    length values + length xs ≡ length (values ++ map view xs)
all_length values view xs = omega (arith, length-append values (map view xs), length-map xs view)

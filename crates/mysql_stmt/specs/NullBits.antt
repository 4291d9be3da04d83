-- The bits of the bitmap of an execution are those of its values.
use Rattle.std.proofs.Common.{◌≡◌, ℕ, zero, suc, ◌+◌, ◌*◌, ◌/◌, ◌%◌, ◌^◌, ◌<◌, ◌≤◌, ◌==◌, Bool, true, false, List, []}
use Rattle.std.proofs.Common.{◌∷◌, length, get_or, drop, refl, sym, ◌∙◌, ap, arith}
use Rattle.std.specs.Prelude.{if◌then◌else◌, slice_index}
use Rattle.std.proofs.lemmas.Nat.{pow_pos}
use Rattle.std.proofs.Math.Nat.{div-div-eq-div-mul, pow-succ'}
use Rattle.std.proofs.lemmas.List.{get_or-drop, length-drop}
use Rattle.std.proofs.lemmas.List.FromFn.{get_or-map-range_with_len, length-map-range_with_len}
use Rattle.mysql_cells.specs.declared.value.Value.{Value}
use Rattle.mysql_cells.specs.declared.value.Value.TheVariants.{NULL}
use Rattle.mysql_field_lists.specs.NullBitmap.{is_null_at}
use Rattle.mysql_cells.specs.Values.{is_null}
use Rattle.mysql_stmt.specs.Executions.{null_bits, null_bitmap}

-- 1 for true
abbrev one_if : Bool → ℕ
one_if b = if b then 1 else 0

lowest : (b : Bool) (rest : ℕ) → (one_if b + 2 * rest) / 2 ^ 0 % 2 ≡ one_if b
lowest true rest = omega arith
lowest false rest = omega arith

halved : (b : Bool) (rest : ℕ) → (one_if b + 2 * rest) / 2 ≡ rest
halved true rest = omega arith
halved false rest = omega arith

higher : (b : Bool) (rest j : ℕ) → (one_if b + 2 * rest) / 2 ^ suc j % 2 ≡ rest / 2 ^ j % 2
higher b rest j =
    ap (λ n. (one_if b + 2 * rest) / n % 2) (pow-succ' 2 j)
    ∙ ap (λ n. n % 2) (sym (div-div-eq-div-mul (one_if b + 2 * rest) 2 (2 ^ j)))
    ∙ ap (λ n. n / 2 ^ j % 2) (halved b rest)

-- the bit of a value is 1 for NULL
bit_of : (j count : ℕ) (values : List Value) → j < count → j < length values →
    null_bits count values / 2 ^ j % 2 ≡ one_if (is_null (get_or values j NULL))
unfolding null_bits
bit_of j zero values few inside = absurd (omega arith)
bit_of j (suc count) [] few inside = absurd (omega arith)
bit_of zero (suc count) (value ∷ values) few inside = lowest (is_null value) (null_bits count values)
bit_of (suc j) (suc count) (value ∷ values) few inside =
    higher (is_null value) (null_bits count values) j ∙ bit_of j count values (omega arith) (omega arith)

is_one : (b : Bool) → (one_if b == 1) ≡ b
is_one true = refl
is_one false = refl

-- the bitmap has a bit for each value, set for NULL
pub null_at : (values : List Value) (place : ℕ) → place < length values →
    is_null_at 0 (null_bitmap values) place ≡ is_null (get_or values place NULL)
unfolding null_bitmap
null_at values place inside =
    let byte : slice_index (null_bitmap values) (place / 8) ≡ null_bits 8 (drop (8 * (place / 8)) values) =
    get_or-map-range_with_len (λ k. null_bits 8 (drop (8 * k) values)) 0 ((length values + 7) / 8)
    (place / 8) (place / 8) 0 (omega arith) (omega arith) in
    let bit : null_bits 8 (drop (8 * (place / 8)) values) / 2 ^ (place % 8) % 2 ≡
    one_if (is_null (get_or (drop (8 * (place / 8)) values) (place % 8) NULL)) =
    bit_of (place % 8) 8 (drop (8 * (place / 8)) values) (omega arith)
    (omega (arith, length-drop (8 * (place / 8)) values)) in
    let here : get_or (drop (8 * (place / 8)) values) (place % 8) NULL ≡ get_or values place NULL =
    get_or-drop (8 * (place / 8)) values (place % 8) NULL ∙ ap (λ n. get_or values n NULL) (omega arith) in
    ap (λ n. slice_index (null_bitmap values) (n / 8) / 2 ^ (n % 8) % 2 == 1) (omega arith)
    ∙ ap (λ b. (b / 2 ^ (place % 8) % 2) == 1) byte ∙
    ap (λ n. n == 1) (bit ∙ ap (λ v. one_if (is_null v)) here) ∙
    is_one (is_null (get_or values place NULL))

-- a byte of the bitmap for each eight values
pub bitmap_length : (values : List Value) → length (null_bitmap values) ≡ (length values + 7) / 8
unfolding null_bitmap
bitmap_length values = length-map-range_with_len (λ k. null_bits 8 (drop (8 * k) values)) 0 ((length values + 7) / 8)

some_bit : (b : Bool) → one_if b ≤ 1
some_bit true = omega arith
some_bit false = omega arith

-- so many bits are below the power of two
pub null_bits_below : (count : ℕ) (values : List Value) → null_bits count values < 2 ^ count
unfolding null_bits
null_bits_below zero values = omega arith
null_bits_below (suc count) [] = omega (arith, pow_pos (suc count))
null_bits_below (suc count) (value ∷ values) =
    omega (arith, null_bits_below count values, some_bit (is_null value), pow-succ' 2 count)

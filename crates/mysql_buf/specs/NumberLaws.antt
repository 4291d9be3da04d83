-- Numbers and texts read back.
use Rattle.std.proofs.Common.{◌≡◌, ℕ, ℤ, pos, negsuc, zero, suc, ◌+◌, ◌-◌, ◌*◌, ◌%◌, ◌^◌, ◌<◌, ◌≤◌, List, ◌++◌, length}
use Rattle.std.proofs.Common.{take, Some, refl, sym, ap, ◌∙◌, arith, length-append}
use Rattle.std.proofs.Math.Nat.{add-mul, div-one, mod-eq_of_lt, one-le-pow, pow-suc, pow-succ'}
use Rattle.std.proofs.lemmas.Bool.{le-ltb, lt-ltb}
use Rattle.std.proofs.lemmas.Int.{ints}
use Rattle.std.proofs.lemmas.List.{take_at, drop_at}
use Rattle.std.proofs.lemmas.Nat.{mod-mul-add, pow-add}
use Rattle.std.specs.Int.{Width, w8, w16, w32, w64, w128, byte_len, cast_unsigned}
use mir.Val.{bits}
use Rattle.byteorder.specs.Endian.{big_bytes, big_number, little_bytes, little_number, twos_complement}
use Rattle.byteorder.specs.Numbers.{big_from-bytes, big_number-reads_back, length-bytes_high_first}
use Rattle.byteorder.specs.Numbers.{length-bytes_low_first, little_from-bytes, little_number-reads_back}
use Rattle.mysql_buf.specs.FirstBytes.{first-enough}
use Rattle.mysql_buf.specs.Laws.{FitsBytes}
use Rattle.mysql_buf.specs.Reading.{big_at, big_signed_at, first, little_at, little_signed_at, bytes_at}

-- what the first n bytes hold is read, and what follows them is left
pub first-append : {X : Type 0} (n : ℕ) (value : List ℕ → X) (bytes rest : List ℕ) → length bytes ≡
    n → first n value (bytes ++ rest) ≡ Some (value (bytes ++ rest), rest)
first-append n value bytes rest len =
    let whole = length-append bytes rest in
    let enough = first-enough n value (bytes ++ rest) (omega arith) in
    rw (enough, drop_at bytes rest n len) refl

pub bytes_at-append : (text rest : List ℕ) → bytes_at (length text) (text ++ rest) ≡ Some (text, rest)
bytes_at-append text rest =
    rw (
      first-append (length text) (take (length text)) text rest refl,
      take_at text rest (length text) refl,
    ) refl

pub little-reads_back : (n x : ℕ) (rest : List ℕ) → x < 256 ^ n →
    little_at n (little_bytes n x ++ rest) ≡ Some (x, rest)
little-reads_back n x rest h =
    rw (
      first-append n (little_number n) (little_bytes n x) rest (length-bytes_low_first 0 n x),
      little_number-reads_back n x rest h,
    ) refl

pub big-reads_back : (n x : ℕ) (rest : List ℕ) → x < 256 ^ n → big_at n (big_bytes n x ++ rest) ≡ Some (x, rest)
big-reads_back n x rest h =
    rw (
      first-append n (big_number n) (big_bytes n x) rest (length-bytes_high_first n x),
      big_number-reads_back n x rest h,
    ) refl

-- two ways to write the size of n bytes
pub pow-bytes : (n : ℕ) → 256 ^ n ≡ 2 ^ (8 * n)
pow-bytes zero = refl
pow-bytes (suc n) =
    let e : 8 * suc n ≡ 8 * n + 8 = omega arith in
    rw (pow-suc 256 n, pow-bytes n, e, pow-add 2 (8 * n) 8) refl

-- a width has eight bits for each of its bytes
bits-bytes : (w : Width) → bits w ≡ 8 * byte_len w
bits-bytes w8 = refl
bits-bytes w16 = refl
bits-bytes w32 = refl
bits-bytes w64 = refl
bits-bytes w128 = refl

-- the size of a width, by the size of n of its bytes
size-bytes : (w : Width) (n : ℕ) → n ≤ byte_len w → 2 ^ bits w ≡ 2 ^ (8 * (byte_len w - n)) * 256 ^ n
size-bytes w n h =
    let parts : 8 * byte_len w ≡ 8 * (byte_len w - n) + 8 * n = omega arith in
    ap (λ e. 2 ^ e) (bits-bytes w ∙ parts) ∙ pow-add 2 (8 * (byte_len w - n)) (8 * n) ∙
    ap (λ r. 2 ^ (8 * (byte_len w - n)) * r) (sym (pow-bytes n))

-- what is left of a multiple less a small number
mod-below : (m b s : ℕ) → 1 ≤ m → 1 ≤ s → s ≤ b → (m * b - s) % b ≡ b - s
mod-below m b s some low high =
    let whole : m ≡ (m - 1) + 1 = omega arith in
    let product : m * b ≡ (m - 1) * b + 1 * b = ap (λ k. k * b) whole ∙ add-mul (m - 1) 1 b in
    let split : m * b - s ≡ (m - 1) * b + (b - s) = omega arith in
    rw split (mod-mul-add (m - 1) b (b - s) (omega arith))

-- the low n bytes of a signed number, read as two's complement, are the number
pub twos_complement-low : (w : Width) (n : ℕ) (z : ℤ) → 1 ≤ n → n ≤ byte_len w → FitsBytes n z →
    twos_complement n (cast_unsigned w z % 256 ^ n) ≡ z
twos_complement-low w n (pos x) low high fits =
    let top : 8 * n ≡ suc (8 * n - 1) = omega arith in
    let twice : 256 ^ n ≡ 2 * 2 ^ (8 * n - 1) = pow-bytes n ∙ ap (λ e. 2 ^ e) top ∙ pow-succ' 2 (8 * n - 1) in
    let same : x % 256 ^ n ≡ x = mod-eq_of_lt (omega arith) in
    rw (same, lt-ltb x (2 ^ (8 * n - 1)) fits) refl
twos_complement-low w n (negsuc x) low high fits =
    let top : 8 * n ≡ suc (8 * n - 1) = omega arith in
    let twice : 256 ^ n ≡ 2 * 2 ^ (8 * n - 1) = pow-bytes n ∙ ap (λ e. 2 ^ e) top ∙ pow-succ' 2 (8 * n - 1) in
    let some = one-le-pow (8 * (byte_len w - n)) 2 (omega arith) in
    let left : (2 ^ bits w - suc x) % 256 ^ n ≡ 256 ^ n - suc x =
    rw (size-bytes w n high) (mod-below (2 ^ (8 * (byte_len w - n))) (256 ^ n) (suc x)
    (omega (arith, some)) (omega arith) (omega arith)) in
    let above : 2 ^ (8 * n - 1) ≤ 256 ^ n - suc x = omega arith in
    let size = pow-bytes n in
    rw (left, le-ltb (256 ^ n - suc x) (2 ^ (8 * n - 1)) above, ← size) (omega (arith, ints))

pub little-signed-reads_back : (w : Width) (n : ℕ) (z : ℤ) (rest : List ℕ) → 1 ≤ n → n ≤ byte_len w → FitsBytes n z
    → little_signed_at n (little_bytes n (cast_unsigned w z) ++ rest) ≡ Some (z, rest)
little-signed-reads_back w n z rest low high fits =
    let x = cast_unsigned w z in
    let number : little_number n (little_bytes n (cast_unsigned w z) ++ rest) ≡ cast_unsigned w z % 256 ^ n =
    little_from-bytes n 0 (cast_unsigned w z) rest ∙ ap (λ y. y % 256 ^ n) (div-one (cast_unsigned w z)) in
    rw (
      first-append n (λ b. twos_complement n (little_number n b))
          (little_bytes n (cast_unsigned w z)) rest (length-bytes_low_first 0 n (cast_unsigned w z)),
      number,
      twos_complement-low w n z low high fits,
    ) refl

pub big-signed-reads_back : (w : Width) (n : ℕ) (z : ℤ) (rest : List ℕ) → 1 ≤ n → n ≤ byte_len w → FitsBytes n z
    → big_signed_at n (big_bytes n (cast_unsigned w z) ++ rest) ≡ Some (z, rest)
big-signed-reads_back w n z rest low high fits =
    let number : big_number n (big_bytes n (cast_unsigned w z) ++ rest) ≡
    cast_unsigned w z % 256 ^ n = big_from-bytes n (cast_unsigned w z) rest in
    rw (
      first-append n (λ b. twos_complement n (big_number n b)) (big_bytes n (cast_unsigned w z))
          rest (length-bytes_high_first n (cast_unsigned w z)),
      number,
      twos_complement-low w n z low high fits,
    ) refl

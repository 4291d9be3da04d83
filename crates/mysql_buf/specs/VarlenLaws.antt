-- Numbers of variable length read back, and no spelling of a number is shorter.
use Rattle.std.proofs.Common.{◌≡◌, ◌⊎◌, ℕ, zero, suc, ◌+◌, ◌-◌, ◌*◌, ◌/◌, ◌%◌, ◌^◌, ◌<◌, ◌≤◌, if◌then◌else◌, inl, inr}
use Rattle.std.proofs.Common.{List, [], ◌∷◌, ◌++◌, length, Some, refl, sym, ap, ◌∙◌, arith}
use Rattle.std.proofs.Math.Nat.{add-mul, div-lt_iff_lt-mul, mul-le-mul_right, mul_left_comm, one-le-pow}
use Rattle.std.proofs.Math.Nat.{pow-le-pow_right, pow-succ'}
use Rattle.std.proofs.lemmas.Bool.{cases_lt, le-ltb, lt-ltb, ne_eqb}
use Rattle.std.proofs.lemmas.Bool.Decides.{eqb_tells}
use Rattle.std.proofs.lemmas.List.{length-drop}
use Rattle.std.proofs.lemmas.Nat.Bits.{bit_at-trailing_ones}
use Rattle.std.proofs.lemmas.Nat.{div-mul-add, pow-add}
use Rattle.std.specs.Int.{w8, trailing_ones}
use Rattle.std.specs.Int.Count.{count_trailing_zeros}
use Rattle.byteorder.specs.Endian.{little_bytes, little_number}
use Rattle.byteorder.specs.Numbers.{length-bytes_low_first, little_from-lt, little_number-reads_back}
use Rattle.mysql_buf.specs.NumberLaws.{first-append, little-reads_back, pow-bytes}
use Rattle.mysql_buf.specs.FirstBytes.{first-some}
use Rattle.mysql_buf.specs.TextLaws.{left-of}
use Rattle.mysql_buf.specs.Bytes.{AreBytes}
use Rattle.mysql_buf.specs.Reading.{first, little_at}
use Rattle.mysql_buf.specs.Varlen.{marked, varlen, varlen_at, varlen_size}

-- the zeros below a number's lowest one
zeros-below : (k f m y : ℕ) → k < f → y ≡ m * 2 ^ suc k + 2 ^ k → count_trailing_zeros f y ≡ k
unfolding count_trailing_zeros
zeros-below zero zero m y h e = absurd (omega arith)
zeros-below zero (suc f) m y h e = let odd : y % 2 ≡ 1 = omega arith in rw odd refl
zeros-below (suc k) zero m y h e = absurd (omega arith)
zeros-below (suc k) (suc f) m y h e =
    let a = pow-succ' 2 (suc k) in
    let b = pow-succ' 2 k in
    let half : m * 2 ^ suc (suc k) ≡ 2 * (m * 2 ^ suc k) = ap (λ r. m * r) a ∙ mul_left_comm m 2 (2 ^ suc k) in
    let even : y % 2 ≡ 0 = omega arith in
    let below = zeros-below k f m (y / 2) (omega arith) (omega arith) in
    rw (even, below) refl

-- the first byte of a marked number: below ff, with as many low ones as bytes follow
pub first-byte : (k n : ℕ) → k < 8 → ((n * 2 ^ suc k + (2 ^ k - 1)) % 256 ≡ 255 → ⊥) ×
    (trailing_ones w8 ((n * 2 ^ suc k + (2 ^ k - 1)) % 256) ≡ k)
first-byte zero n h = (
  (λ e. omega arith),
  zeros-below 0 8 (127 - n % 128) (255 - (n * 2 + 0) % 256) (omega arith) (omega arith),
)
first-byte (suc zero) n h = (
  (λ e. omega arith),
  zeros-below 1 8 (63 - n % 64) (255 - (n * 4 + 1) % 256) (omega arith)
      (omega arith),
)
first-byte (suc (suc zero)) n h = (
  (λ e. omega arith),
  zeros-below 2 8 (31 - n % 32) (255 - (n * 8 + 3) % 256) (omega arith)
      (omega arith),
)
first-byte (suc (suc (suc zero))) n h = (
  (λ e. omega arith),
  zeros-below 3 8 (15 - n % 16) (255 - (n * 16 + 7) % 256) (omega arith)
      (omega arith),
)
first-byte (suc (suc (suc (suc zero)))) n h = (
  (λ e. omega arith),
  zeros-below 4 8 (7 - n % 8) (255 - (n * 32 + 15) % 256) (omega arith)
      (omega arith),
)
first-byte (suc (suc (suc (suc (suc zero))))) n h = (
  (λ e. omega arith),
  zeros-below 5 8 (3 - n % 4) (255 - (n * 64 + 31) % 256) (omega arith)
      (omega arith),
)
first-byte (suc (suc (suc (suc (suc (suc zero)))))) n h = (
  (λ e. omega arith),
  zeros-below 6 8 (1 - n % 2) (255 - (n * 128 + 63) % 256) (omega arith)
      (omega arith),
)
first-byte (suc (suc (suc (suc (suc (suc (suc zero))))))) n h = (
  (λ e. omega arith),
  zeros-below 7 8 0 (255 - (n * 256 + 127) % 256) (omega arith)
      (omega arith),
)
first-byte (suc (suc (suc (suc (suc (suc (suc (suc k)))))))) n h = absurd (omega arith)

-- the value of s bytes that hold a number above so many marks
pub marked-back : (s k n : ℕ) (rest : List ℕ) → s ≡ suc k → n < 2 ^ (7 * suc k)
    → first s (λ bytes. little_number s bytes / 2 ^ s)
    (little_bytes (suc k) (n * 2 ^ suc k + (2 ^ k - 1)) ++ rest) ≡ Some (n, rest)
marked-back s k n rest e h =
    let v = n * 2 ^ suc k + (2 ^ k - 1) in
    let some = one-le-pow k 2 (omega arith) in
    let twice = pow-succ' 2 k in
    let top : (n + 1) * 2 ^ suc k ≤ 2 ^ (7 * suc k) * 2 ^ suc k = mul-le-mul_right (2 ^ suc k) (omega arith) in
    let expand = add-mul n 1 (2 ^ suc k) in
    let parts : 8 * suc k ≡ 7 * suc k + suc k = omega arith in
    let size : 256 ^ suc k ≡ 2 ^ (7 * suc k) * 2 ^ suc k = pow-bytes (suc k) ∙
    ap (λ r. 2 ^ r) parts ∙ pow-add 2 (7 * suc k) (suc k) in
    let fits : n * 2 ^ suc k + (2 ^ k - 1) < 256 ^ suc k = omega arith in
    let number : little_number s (little_bytes (suc k) (n * 2 ^ suc k + (2 ^ k - 1)) ++ rest) ≡
    n * 2 ^ suc k + (2 ^ k - 1) =
    rw e (little_number-reads_back (suc k) (n * 2 ^ suc k + (2 ^ k - 1)) rest fits) in
    let value : (n * 2 ^ suc k + (2 ^ k - 1)) / 2 ^ s ≡ n =
    rw e (div-mul-add n (2 ^ suc k) (2 ^ k - 1) (omega arith)) in
    let stands = first-append s (λ bytes. little_number s bytes / 2 ^ s)
    (little_bytes (suc k) (n * 2 ^ suc k + (2 ^ k - 1))) rest
    (length-bytes_low_first 0 (suc k) (n * 2 ^ suc k + (2 ^ k - 1)) ∙ sym e) in
    rw (stands, number, value) refl

-- a number of at most eight bytes
short-reads_back : (k n : ℕ) (rest : List ℕ) → k < 8 → n < 2 ^ (7 * suc k) →
    varlen_at (little_bytes (suc k) (n * 2 ^ suc k + (2 ^ k - 1)) ++ rest) ≡ Some (n, rest)
short-reads_back k n rest small h =
    let p = first-byte k n small in
    let size : k + 1 ≡ suc k = omega arith in
    rw (ne_eqb ((n * 2 ^ suc k + (2 ^ k - 1)) % 256) 255 p.0, p.1) (marked-back (k + 1) k n rest size h)

-- a number takes the fewest bytes that hold it
sized-long : (n : ℕ) → 2 ^ 7 ≤ n → 2 ^ 14 ≤ n → 2 ^ 21 ≤ n → 2 ^ 28 ≤ n → n < 2 ^ 56 → (k : ℕ) ×
    (k < 8) × (varlen_size n ≡ suc k) × (n < 2 ^ (7 * suc k)) × ((k ≡ 0) ⊎ (2 ^ (7 * k) ≤ n))
sized-long n a b c d h = elim (cases_lt n (2 ^ 35)) [
  | inl e ↦ (
    4,
    omega arith,
    rw (
      le-ltb n (2 ^ 7) a,
      le-ltb n (2 ^ 14) b,
      le-ltb n (2 ^ 21) c,
      le-ltb n (2 ^ 28) d,
      lt-ltb n (2 ^ 35) e,
    ) refl,
    e,
    inr d,
  )
  | inr e ↦ elim (cases_lt n (2 ^ 42)) [
    | inl f ↦ (
      5,
      omega arith,
      rw (
        le-ltb n (2 ^ 7) a,
        le-ltb n (2 ^ 14) b,
        le-ltb n (2 ^ 21) c,
        le-ltb n (2 ^ 28) d,
        le-ltb n (2 ^ 35) e,
        lt-ltb n (2 ^ 42) f,
      ) refl,
      f,
      inr e,
    )
    | inr f ↦ elim (cases_lt n (2 ^ 49)) [
      | inl g ↦ (
        6,
        omega arith,
        rw (
          le-ltb n (2 ^ 7) a,
          le-ltb n (2 ^ 14) b,
          le-ltb n (2 ^ 21) c,
          le-ltb n (2 ^ 28) d,
          le-ltb n (2 ^ 35) e,
          le-ltb n (2 ^ 42) f,
          lt-ltb n (2 ^ 49) g,
        ) refl,
        g,
        inr f,
      )
      | inr g ↦ (
        7,
        omega arith,
        rw (
          le-ltb n (2 ^ 7) a,
          le-ltb n (2 ^ 14) b,
          le-ltb n (2 ^ 21) c,
          le-ltb n (2 ^ 28) d,
          le-ltb n (2 ^ 35) e,
          le-ltb n (2 ^ 42) f,
          le-ltb n (2 ^ 49) g,
          lt-ltb n (2 ^ 56) h,
        ) refl,
        h,
        inr g,
      )
    ]
  ]
]

pub sized : (n : ℕ) → n < 2 ^ 56 → (k : ℕ) × (k < 8) × (varlen_size n ≡ suc k) ×
    (n < 2 ^ (7 * suc k)) × ((k ≡ 0) ⊎ (2 ^ (7 * k) ≤ n))
sized n h = elim (cases_lt n (2 ^ 7)) [
  | inl a ↦ (0, omega arith, rw (lt-ltb n (2 ^ 7) a) refl, a, inl refl)
  | inr a ↦ elim (cases_lt n (2 ^ 14)) [
    | inl b ↦ (1, omega arith, rw (le-ltb n (2 ^ 7) a, lt-ltb n (2 ^ 14) b) refl, b, inr a)
    | inr b ↦ elim (cases_lt n (2 ^ 21)) [
      | inl c ↦ (2, omega arith, rw (le-ltb n (2 ^ 7) a, le-ltb n (2 ^ 14) b, lt-ltb n (2 ^ 21) c) refl, c, inr b)
      | inr c ↦ elim (cases_lt n (2 ^ 28)) [
        | inl d ↦ (
          3,
          omega arith,
          rw (le-ltb n (2 ^ 7) a, le-ltb n (2 ^ 14) b, le-ltb n (2 ^ 21) c, lt-ltb n (2 ^ 28) d)
              refl,
          d,
          inr c,
        )
        | inr d ↦ sized-long n a b c d h
      ]
    ]
  ]
]

-- the bytes written of a number below 2 ^ 56
varlen-short : (n k : ℕ) → n < 2 ^ 56 → varlen_size n ≡ suc k → varlen n ≡
    little_bytes (suc k) (n * 2 ^ suc k + (2 ^ k - 1))
unfolding marked
varlen-short n k h size =
    let short = ap (λ t. if t then little_bytes (varlen_size n) (marked (varlen_size n) n) else
    255 ∷ little_bytes 8 n) (lt-ltb n (2 ^ 56) h) in
    let sized : little_bytes (varlen_size n) (marked (varlen_size n) n) ≡
    little_bytes (suc k) (marked (suc k) n) = ap (λ s. little_bytes s (marked s n)) size in
    let one : suc k - 1 ≡ k = omega arith in
    short ∙ sized ∙ ap (λ e. little_bytes (suc k) (n * 2 ^ suc k + (2 ^ e - 1))) one

pub varlen-reads_back : (n : ℕ) (rest : List ℕ) → n < 2 ^ 64 → varlen_at (varlen n ++ rest) ≡ Some (n, rest)
varlen-reads_back n rest h = elim (cases_lt n (2 ^ 56)) [
  | inl short ↦
      let p = sized n short in
      ap (λ bytes. varlen_at (bytes ++ rest)) (varlen-short n p.0 short p.2) ∙ short-reads_back p.0 n rest p.1 p.3
  | inr long ↦ rw (le-ltb n (2 ^ 56) long) (little-reads_back 8 n rest (omega arith))
]

-- a number of k + 1 bytes that is below 2 ^ (7 * m) takes at most m
size-bound-at : (m n : ℕ) → 1 ≤ m → n < 2 ^ (7 * m) →
    ((k : ℕ) × (k < 8) × (varlen_size n ≡ suc k) × (n < 2 ^ (7 * suc k)) ×
    ((k ≡ 0) ⊎ (2 ^ (7 * k) ≤ n))) → n < 2 ^ 56 → length (varlen n) ≤ m
size-bound-at m n some h (k, less, size, above, inl none) short =
    let count : length (varlen n) ≡ suc k = ap length (varlen-short n k short size) ∙
    length-bytes_low_first 0 (suc k) (n * 2 ^ suc k + (2 ^ k - 1)) in
    omega (arith, count, none)
size-bound-at m n some h (k, less, size, above, inr least) short =
    let count : length (varlen n) ≡ suc k = ap length (varlen-short n k short size) ∙
    length-bytes_low_first 0 (suc k) (n * 2 ^ suc k + (2 ^ k - 1)) in
    elim (cases_lt k m) [
      | inl within ↦ omega (arith, count, within)
      | inr past ↦
          let top = pow-le-pow_right {n = 2} (omega arith) {i = 7 * m} {j = 7 * k} (omega (arith, past)) in
          absurd (omega (arith, top, least))
    ]

-- a number below 2 ^ (7 * m) takes at most m bytes
size-bound : (m n : ℕ) → 1 ≤ m → m ≤ 8 → n < 2 ^ (7 * m) → length (varlen n) ≤ m
size-bound m n some small h =
    let top = pow-le-pow_right {n = 2} (omega arith) {i = 7 * m} {j = 56} (omega arith) in
    let short : n < 2 ^ 56 = omega (arith, top) in
    size-bound-at m n some h (sized n short) short

length-at_most : (n : ℕ) → length (varlen n) ≤ 9
length-at_most n = elim (cases_lt n (2 ^ 56)) [
  | inl short ↦ let e = size-bound 8 n (omega arith) (omega arith) short in omega (arith, e)
  | inr long ↦ rw (le-ltb n (2 ^ 56) long) (omega arith)
]

-- the low one bits of a byte below ff
ones-bound : (b : ℕ) → b < 256 → (b ≡ 255 → ⊥) → trailing_ones w8 b < 8
ones-bound b byte short = (bit_at-trailing_ones w8 b (omega (arith, short))).0

-- what is left of m bytes without m bits
seven-bits : (m v : ℕ) → v < 256 ^ m → v / 2 ^ m < 2 ^ (7 * m)
seven-bits m v h =
    let parts : 8 * m ≡ 7 * m + m = omega arith in
    let size : 256 ^ m ≡ 2 ^ (7 * m) * 2 ^ m = pow-bytes m ∙ ap (λ r. 2 ^ r) parts ∙ pow-add 2 (7 * m) m in
    (div-lt_iff_lt-mul (one-le-pow m 2 (omega arith))).1 (omega (arith, size))

-- the bytes of a number without as many bits are no fewer than those written
short-shortest : (m n : ℕ) (bytes rest : List ℕ) → 1 ≤ m → m ≤ 8 → AreBytes bytes →
    first m (λ bytes. little_number m bytes / 2 ^ m) bytes ≡ Some (n, rest)
    → length (varlen n) + length rest ≤ length bytes
short-shortest m n bytes rest some most small h =
    let p = first-some m (λ bytes. little_number m bytes / 2 ^ m) bytes (n, rest) h in
    let number : n ≡ little_number m bytes / 2 ^ m = ap (λ p. p.0) p.1 in
    let left : length rest ≡ length bytes - m = ap (λ p. length p.1) p.1 ∙ length-drop m bytes in
    let bound = seven-bits m (little_number m bytes) (little_from-lt 0 m bytes small) in
    let e = size-bound m n some most (omega (arith, bound, number)) in
    omega (arith, e, left, p.0)

-- no spelling of a number is shorter than the written one
pub varlen-shortest : (n : ℕ) (bytes rest : List ℕ) → AreBytes bytes → varlen_at bytes ≡
    Some (n, rest) → length (varlen n) + length rest ≤ length bytes
varlen-shortest n [] rest small h = absurd (cc)
varlen-shortest n (b ∷ bs) rest small h = elim (eqb_tells b 255) [
  | inl long ↦
      let at : little_at 8 bs ≡ Some (n, rest) = rw long.0 at h in
      let p = left-of 8 bs n rest (λ i. small (suc i)) at in
      let e = length-at_most n in
      omega (arith, e, p.1)
  | inr short ↦
      let at : first (trailing_ones w8 b + 1)
      (λ bytes. little_number (trailing_ones w8 b + 1) bytes / 2 ^ (trailing_ones w8 b + 1))
      (b ∷ bs) ≡ Some (n, rest) = rw short.0 at h in
      short-shortest (trailing_ones w8 b + 1) n (b ∷ bs) rest (omega arith)
      (omega (arith, ones-bound b (small 0) short.1)) small at
]

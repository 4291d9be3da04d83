-- Numbers of so many bytes: which bytes say them.
use Rattle.std.proofs.Common.{◌≡◌, ℕ, zero, suc, ◌+◌, ◌*◌, ◌/◌, ◌%◌, ◌^◌, ◌<◌, ◌≤◌, List, [], ◌∷◌, ◌++◌, length, take}
use Rattle.std.proofs.Common.{drop, Some, refl, sym, ap, ◌∙◌, arith, subst, get_or}
use Rattle.std.specs.Int.{bytes_low_first, byte_at}
use Rattle.std.proofs.Math.Nat.{div-div-eq-div-mul, pow-succ'}
use Rattle.std.proofs.lemmas.List.{get_or-append-add, length-take-le, take-append-drop, take_at}
use Rattle.byteorder.specs.Endian.{little_bytes, little_number}
use Rattle.byteorder.specs.Numbers.{little_from-cons, little_from-lt}
use Rattle.mysql_buf.specs.Bytes.{AreBytes}
use Rattle.mysql_buf.specs.FirstBytes.{first-some}
use Rattle.mysql_buf.specs.NumberLaws.{first-append}
use Rattle.mysql_buf.specs.Reading.{bytes_at, little_at}

-- a byte from one place on is a byte of what is left of the number
byte_at-suc : (i x : ℕ) → byte_at (suc i) x ≡ byte_at i (x / 256)
byte_at-suc zero x = refl
byte_at-suc (suc i) x = ap (λ (q : ℕ). q % 256) (ap (λ (p : ℕ). x / p) (pow-succ' 256 (suc i)) ∙
    sym (div-div-eq-div-mul x 256 (256 ^ suc i)))

low_first-suc : (i n x : ℕ) → bytes_low_first (suc i) n x ≡ bytes_low_first i n (x / 256)
low_first-suc i zero x = refl
low_first-suc i (suc n) x = rw (byte_at-suc i x, low_first-suc (suc i) n x) refl

first_byte : (n b y x : ℕ) → b < 256 → x ≡ b + 256 * y → little_bytes (suc n) x ≡ b ∷ little_bytes n y
first_byte n b y x lt e =
    let low : x % 256 ≡ b = omega arith in
    let high : x / 256 ≡ y = omega arith in
    rw (low, low_first-suc 0 n x, high) refl

-- bytes say the number that is read of them
said : (n : ℕ) (bytes : List ℕ) → n ≤ length bytes → AreBytes bytes →
    little_bytes n (little_number n bytes) ++ drop n bytes ≡ bytes
said zero bytes le are = refl
said (suc n) [] le are = absurd (omega arith)
said (suc n) (b ∷ bytes) le are =
    ap (λ (l : List ℕ). l ++ drop n bytes)
    (first_byte n b (little_number n bytes) _ (are 0)
    (ap (λ (r : ℕ). b + 256 * r) (little_from-cons 0 n b bytes)))
    ∙ ap (λ (l : List ℕ). b ∷ l) (said n bytes (omega (arith, le)) (λ i. are (suc i)))

-- The bytes that a number is read of are those that say it.
pub little_taken : (n : ℕ) (bytes : List ℕ) (p : ℕ × List ℕ) → AreBytes bytes → little_at n bytes ≡
    Some p → (p.0 < 256 ^ n) × (bytes ≡ little_bytes n p.0 ++ p.1)
little_taken n bytes p are e =
    let h = first-some n (little_number n) bytes p e in
    let made : (p.0 < 256 ^ n) × (bytes ≡ little_bytes n p.0 ++ p.1) =
    subst (λ (q : ℕ × List ℕ). (q.0 < 256 ^ n) × (bytes ≡ little_bytes n q.0 ++ q.1)) (sym h.1)
    (little_from-lt 0 n bytes are, sym (said n bytes h.0 are)) in
    made

-- So many bytes are read as those that stand first.
pub bytes_taken : (n : ℕ) (bytes : List ℕ) (p : List ℕ × List ℕ) → bytes_at n bytes ≡ Some p →
    (length p.0 ≡ n) × (bytes ≡ p.0 ++ p.1)
bytes_taken n bytes p e =
    let h = first-some n (take n) bytes p e in
    subst (λ (q : List ℕ × List ℕ). (length q.0 ≡ n) × (bytes ≡ q.0 ++ q.1)) (sym h.1)
    (length-take-le n bytes h.0, sym (take-append-drop n bytes))

pub bytes_given : (n : ℕ) (front rest : List ℕ) → length front ≡ n → bytes_at n (front ++ rest) ≡ Some (front, rest)
bytes_given n front rest e = first-append n (take n) front rest e ∙
    ap (λ (l : List ℕ). Some (l, rest)) (take_at front rest n e)

-- one byte
pub byte_given : (b : ℕ) (rest : List ℕ) → little_at 1 (b ∷ rest) ≡ Some (b, rest)
byte_given b rest = first-append 1 (little_number 1) (b ∷ []) rest refl ∙ ap (λ (n : ℕ). Some (n, rest)) (omega arith)

pub byte_taken : (bytes : List ℕ) (p : ℕ × List ℕ) → little_at 1 bytes ≡ Some p → bytes ≡ p.0 ∷ p.1
byte_taken [] p e = let h = first-some 1 (little_number 1) [] p e in absurd (omega (arith, h.0))
byte_taken (b ∷ bytes) p e = let same : p ≡ (b, bytes) = cc (byte_given b bytes) in
    ap (λ (q : ℕ × List ℕ). q.0 ∷ q.1) (sym same)

-- a byte, and a number of so many bytes, that have to be this one
pub byte_is : (bytes : List ℕ) (p : ℕ × List ℕ) (b : ℕ) → little_at 1 bytes ≡ Some p → p.0 ≡ b → bytes ≡ b ∷ p.1
byte_is bytes p b e same = byte_taken bytes p e ∙ ap (λ (n : ℕ). n ∷ p.1) same

pub number_is : (n : ℕ) (bytes : List ℕ) (p : ℕ × List ℕ) (x : ℕ) → AreBytes bytes →
    little_at n bytes ≡ Some p → p.0 ≡ x → bytes ≡ little_bytes n x ++ p.1
number_is n bytes p x are e same = (little_taken n bytes p are e).1 ∙ ap (λ (y : ℕ). little_bytes n y ++ p.1) same

-- what stands behind a front
pub behind_front : (front back all bytes : List ℕ) → bytes ≡ front ++ back → back ≡ all → bytes ≡ front ++ all
behind_front front back all bytes e same = e ∙ ap (λ (l : List ℕ). front ++ l) same

-- what follows bytes is bytes
pub bytes_behind : (front xs bytes : List ℕ) → bytes ≡ front ++ xs → AreBytes bytes → AreBytes xs
bytes_behind front xs bytes e h i =
    subst (λ (n : ℕ). n < 256) (ap (λ (l : List ℕ). get_or l (length front + i) 0) e ∙
    get_or-append-add front xs i 0) (h (length front + i))

-- A reading took this part of the front of the bytes, of which that is said.
pub record Taken {A : Type 0} (Says : List ℕ → A → Type 0) (bytes : List ℕ) (p : A × List ℕ) : Type 0 where
  pub part : List ℕ
  pub joined : bytes ≡ part ++ p.1
  pub is : Says part p.0

-- The same of what it gave, by what that is.
pub taken_as : {A : Type 0} (Says : List ℕ → A → Type 0) (bytes : List ℕ) (found p : A × List ℕ) →
    found ≡ p → Taken Says bytes found → Taken Says bytes p
taken_as {A} Says bytes found p same taken = subst (λ (q : A × List ℕ). Taken Says bytes q) same taken

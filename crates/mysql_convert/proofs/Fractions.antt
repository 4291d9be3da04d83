-- Rows of few digits.
use Rattle.std.proofs.Common.{◌≡◌, ℕ, ◌+◌, ◌-◌, ◌*◌, ◌^◌, ◌≤◌, ◌<◌, Bool, true, false, List, [], ◌∷◌, length, refl, sym}
use Rattle.std.proofs.Common.{ap, ◌∙◌, arith, subst, Option, Some, None, IfSome, if◌then◌else◌, suc, zero, mul_assoc}
use Rattle.std.proofs.Math.Nat.{pow-succ'}
use Rattle.std.proofs.lemmas.Bool.Decides.{nat_tests}
use Rattle.mysql_queries.specs.Literals.{is_digit}
use Rattle.mysql_convert.specs.Numbers.{digits_number}
use Rattle.mysql_convert.specs.IntegerLaws.{digits_after, digits_number-after}

one_digit : (d : ℕ) → is_digit d ≡ true → d - 0x30 ≤ 9
one_digit d h = grind (arith, nat_tests, h)

bound_step : (t : Bool) (b m x : ℕ) (xs : List ℕ) → (t ≡ true → x < b * 10) →
    (x < b * 10 → digits_after x xs ≡ Some m → m < b * 10 * 10 ^ length xs) →
    (if t then digits_after x xs else None) ≡ Some m → m < b * 10 * 10 ^ length xs
bound_step true b m x xs l h e = h (l refl) e
bound_step false b m x xs l h e = absurd (cc)

digits_bound : (n b m : ℕ) (xs : List ℕ) → n < b → digits_after n xs ≡ Some m → m < b * 10 ^ length xs
digits_bound n b m [] l e = let f : n ≡ m = cc in omega (arith, f, l)
digits_bound n b m (d ∷ xs) l e =
    let small : is_digit d ≡ true → n * 10 + (d - 0x30) < b * 10 = λ h. omega (arith, l, one_digit d h) in
    let r : m < b * 10 * 10 ^ length xs =
    bound_step (is_digit d) b m (n * 10 + (d - 0x30)) xs small
    (λ k g. digits_bound (n * 10 + (d - 0x30)) (b * 10) m xs k g) e in
    let same : b * 10 * 10 ^ length xs ≡ b * 10 ^ suc (length xs) =
    mul_assoc b 10 (10 ^ length xs) ∙ ap (λ y. b * y) (sym (pow-succ' 10 (length xs))) in
    subst (λ y. m < y) same r

-- a fraction of at most six digits in nanoseconds
pub record IsSmall (n count : ℕ) : Type 0 where
  pub digits : n < 10 ^ 6
  pub power : 10 ^ (9 - count) ≤ 10 ^ 9
  pub product : n * 10 ^ (9 - count) < 10 ^ 9

by_count : (n count : ℕ) → count ≤ 6 → n < 1 * 10 ^ count → IsSmall n count
by_count n zero l h = record { digits = omega (arith, h); power = omega arith; product = omega (arith, h) }
by_count n (suc zero) l h = record { digits = omega (arith, h); power = omega arith; product = omega (arith, h) }
by_count n (suc (suc zero)) l h = record { digits = omega (arith, h); power = omega arith; product = omega (arith, h) }
by_count n (suc (suc (suc zero))) l h =
    record { digits = omega (arith, h); power = omega arith; product = omega (arith, h) }
by_count n (suc (suc (suc (suc zero)))) l h =
    record { digits = omega (arith, h); power = omega arith; product = omega (arith, h) }
by_count n (suc (suc (suc (suc (suc zero))))) l h =
    record { digits = omega (arith, h); power = omega arith; product = omega (arith, h) }
by_count n (suc (suc (suc (suc (suc (suc zero)))))) l h =
    record { digits = omega (arith, h); power = omega arith; product = omega (arith, h) }
by_count n (suc (suc (suc (suc (suc (suc (suc count))))))) l h = absurd (omega (arith, l))

pub few_digits : (xs : List ℕ) (n : ℕ) → length xs ≤ 6 → digits_number xs ≡ Some n → IsSmall n (length xs)
few_digits [] n l e = absurd (cc)
few_digits (b ∷ xs) n l e =
    by_count n (length (b ∷ xs)) l
    (digits_bound 0 1 n (b ∷ xs) (omega arith) (sym (digits_number-after b xs) ∙ e))

is_none_then : (xs : List ℕ) (o : Option ℕ) → length xs ≤ 6 → digits_number xs ≡ o →
    IfSome o (λ n. 2 ^ 128 ≤ n) → o ≡ None
is_none_then xs None l e h = refl
is_none_then xs (Some n) l e h = let s = few_digits xs n l e in absurd (omega (arith, s.digits, h))

pub few_digits_none : (xs : List ℕ) → length xs ≤ 6 → IfSome (digits_number xs) (λ n. 2 ^ 128 ≤ n) →
    digits_number xs ≡ None
few_digits_none xs l h = is_none_then xs (digits_number xs) l refl h

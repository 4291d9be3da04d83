-- Whole numbers as `parse` reads them.
use Rattle.std.proofs.Common.{◌≡◌, ℕ, ◌<◌, ◌^◌, Bool, true, false, true≢false, List, [], ◌∷◌, length, Ok, Err, refl}
use Rattle.std.proofs.Common.{sym, arith, nat_lt, ◌&&◌, cond}
use Rattle.std.specs.Char.{digit_value}
use Rattle.std.specs.List.{list_all}
use Rattle.std.specs.Str.Parse.{AllDigits, IsNumeral, digits_value}
use Rattle.std.proofs.lemmas.Bool.Decides.{nat_tests}
use Rattle.mysql_replication.specs.Tags.{is_digit}
use Rattle.mysql_replication.specs.Intervals.{number_of_digits}
use Rattle.mysql_replication.specs.declared.error.SidError.TheVariants.{BadInterval}

digit_passes : (c : ℕ) → digit_value c < 10 → is_digit c ≡ true
digit_passes c h = grind (arith, nat_tests)

passes_digit : (c : ℕ) → is_digit c ≡ true → digit_value c < 10
passes_digit c h = grind (arith, nat_tests)

pub and_left : (a b : Bool) → (a && b) ≡ true → a ≡ true
and_left true b h = refl
and_left false b h = h

and_right : (a b : Bool) → (a && b) ≡ true → b ≡ true
and_right true b h = h
and_right false b h = absurd (true≢false (sym h))

pub digits_pass : (ds : List ℕ) → AllDigits 10 ds → list_all is_digit ds ≡ true
digits_pass [] h = refl
digits_pass (c ∷ cs) h = let e : is_digit c ≡ true = digit_passes c h.0 in rw e (digits_pass cs h.1)

pass_digits : (ds : List ℕ) → list_all is_digit ds ≡ true → AllDigits 10 ds
pass_digits [] h = tt
pass_digits (c ∷ cs) h = (passes_digit c (and_left _ _ h), pass_digits cs (and_right _ _ h))

-- A numeral below 2^64 is a number.
pub digits_number : (ds : List ℕ) → IsNumeral 10 ds → digits_value 10 ds < 2 ^ 64 →
    number_of_digits ds ≡ Ok (digits_value 10 ds)
digits_number ds numeral small =
    let some : nat_lt 0 (length ds) ≡ true = grind (arith, nat_tests, numeral.0) in
    let fits : nat_lt (digits_value 10 ds) (2 ^ 64) ≡ true = grind (arith, nat_tests) in
    rw (some, digits_pass ds numeral.1, fits) refl

decided : {A : Type 0} (x y : A) (a b d : Bool) → (a ≡ true → b ≡ true → d ≡ true → ⊥) → cond (a && b && d) x y ≡ y
decided x y true true true never = absurd (never refl refl refl)
decided x y true true false never = refl
decided x y true false d never = refl
decided x y false b d never = refl

-- What is none is refused.
pub digits_no_number : (ds : List ℕ) → ¬ (IsNumeral 10 ds × (digits_value 10 ds < 2 ^ 64)) →
    number_of_digits ds ≡ Err BadInterval
digits_no_number ds never =
    decided _ _ (nat_lt 0 (length ds)) (list_all is_digit ds) (nat_lt (digits_value 10 ds) (2 ^ 64))
    (λ a b d. never ((grind (arith, nat_tests), pass_digits ds b), grind (arith, nat_tests)))

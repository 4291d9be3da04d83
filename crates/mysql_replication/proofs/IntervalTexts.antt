-- Texts of intervals are read back.
use Rattle.std.proofs.Common.{◌≡◌, ℕ, ◌+◌, ◌-◌, ◌<◌, ◌^◌, Bool, true, false, List, [], ◌∷◌, ◌++◌, Ok, refl, ◌∙◌, ap}
use Rattle.std.proofs.Common.{arith, ◌==◌, nat_lt, nat_le}
use Rattle.std.specs.Fmt.{decimal}
use Rattle.std.specs.List.{list_all}
use Rattle.std.specs.Str.Parse.{digits_value, without_leading_plus}
use Rattle.std.proofs.lemmas.Bool.Decides.{nat_tests}
use Rattle.std.proofs.lemmas.Fmt.{decimal_is_IsNumeral}
use Rattle.mysql_replication.specs.Tags.{is_digit}
use Rattle.mysql_replication.specs.Intervals.{around_hyphen, ends_of, interval_of, interval_text, number_of}
use Rattle.mysql_replication.specs.declared.interval.GnoInterval.{GnoInterval}
use Rattle.mysql_replication.proofs.Lacking.{around_no_hyphen, around_one_hyphen, lacks_from}
use Rattle.mysql_replication.proofs.Numbers.{and_left, digits_number, digits_pass}

-- An interval that a text may write.
pub record IsGood (interval : GnoInterval) : Type 0 where
  pub some : 0 < interval.start
  pub up : interval.start < interval.end
  pub fits : interval.end < 2 ^ 64

digit_is_no_plus : (c : ℕ) → is_digit c ≡ true → (c == 43) ≡ false
digit_is_no_plus c h = grind (arith, nat_tests)

digit_is_no_hyphen : (c : ℕ) → is_digit c ≡ true → (c == 45) ≡ false
digit_is_no_hyphen c h = grind (arith, nat_tests)

no_plus : (ds : List ℕ) → list_all is_digit ds ≡ true → without_leading_plus ds ≡ ds
no_plus [] h = refl
no_plus (c ∷ ds) h = rw (digit_is_no_plus c (and_left (is_digit c) (list_all is_digit ds) h)) refl

pub decimal_digits : (n : ℕ) → n < 2 ^ 64 → list_all is_digit (decimal n) ≡ true
decimal_digits n small = digits_pass (decimal n) (decimal_is_IsNumeral n small).0.1

number_of_decimal : (n : ℕ) → n < 2 ^ 64 → number_of (decimal n) ≡ Ok n
unfolding number_of
number_of_decimal n small =
    let is = decimal_is_IsNumeral n small in
    let value : digits_value 10 (decimal n) ≡ n = is.1 in
    let fits : digits_value 10 (decimal n) < 2 ^ 64 = rw value small in
    rw (no_plus (decimal n) (decimal_digits n small)) (digits_number (decimal n) is.0 fits ∙ ap Ok value)

one_end : (n : ℕ) → n < 2 ^ 64 → ends_of (decimal n) (around_hyphen (decimal n)) ≡ Ok (n, n)
unfolding ends_of
one_end n small = rw (
  around_no_hyphen (decimal n)
      (lacks_from is_digit 45 digit_is_no_hyphen (decimal n) (decimal_digits n small)),
  number_of_decimal n small,
) refl

two_ends : (n m : ℕ) → n < 2 ^ 64 → m < 2 ^ 64 →
    ends_of (decimal n ++ 45 ∷ decimal m) (around_hyphen (decimal n ++ 45 ∷ decimal m)) ≡ Ok (n, m)
unfolding ends_of
two_ends n m small fits =
    rw (
      around_one_hyphen (decimal n) (decimal m)
          (lacks_from is_digit 45 digit_is_no_hyphen (decimal n) (decimal_digits n small)),
      number_of_decimal n small,
      number_of_decimal m fits,
    ) refl

ended : (n m : ℕ) (field : List ℕ) (interval : GnoInterval) → IsGood interval → interval.start ≡ n →
    interval.end ≡ m + 1 → ends_of field (around_hyphen field) ≡ Ok (n, m)
    → interval_of field ≡ Ok interval
unfolding interval_of
ended n m field interval good first last ends =
    let fits : nat_lt (m + 1) (2 ^ 64) ≡ true = let f = good.fits in grind (arith, nat_tests) in
    let up : nat_le (m + 1) n ≡ false = let u = good.up in grind (arith, nat_tests) in
    let some : (n == 0) ≡ false = let s = good.some in grind (arith, nat_tests) in
    rw (ends, fits, up, some, ← first, ← last) refl

text_by : (b : Bool) (interval : GnoInterval) → (interval.end == interval.start + 1) ≡ b →
    IsGood interval → interval_of (interval_text interval) ≡ Ok interval
text_by true interval e good =
    let last : interval.end ≡ interval.start + 1 = grind (arith, nat_tests) in
    let small : interval.start < 2 ^ 64 = let f = good.fits in omega arith in
    rw e (ended interval.start interval.start (decimal interval.start) interval good refl last
    (one_end interval.start small))
text_by false interval e good =
    let f = good.fits in
    let u = good.up in
    let last : interval.end ≡ interval.end - 1 + 1 = omega arith in
    let small : interval.start < 2 ^ 64 = omega arith in
    let fits : interval.end - 1 < 2 ^ 64 = omega arith in
    rw e (ended interval.start (interval.end - 1) (decimal interval.start ++ 45 ∷
    decimal (interval.end - 1)) interval good refl last
    (two_ends interval.start (interval.end - 1) small fits))

pub interval_reads_back : (interval : GnoInterval) → IsGood interval →
    interval_of (interval_text interval) ≡ Ok interval
interval_reads_back interval good = text_by (interval.end == interval.start + 1) interval refl good

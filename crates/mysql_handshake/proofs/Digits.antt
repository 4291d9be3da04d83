-- Digits at the front of a text, and the number that they write.
use Rattle.std.proofs.Common.{◌≡◌, ℕ, ◌+◌, ◌-◌, ◌*◌, ◌<◌, ◌≤◌, true, List, take, length, get_or, ap, ◌∙◌, arith}
use Rattle.std.proofs.lemmas.Bool.Decides.{nat_tests}
use Rattle.std.proofs.lemmas.Int.Digits.{digits_value_more}
use Rattle.std.proofs.lemmas.List.{get_or-take}
use Rattle.std.proofs.lemmas.List.Sums.{prefix_len-le-length, prefix_len_passes}
use Rattle.std.proofs.lemmas.Str.{digit_value_digit}
use Rattle.std.specs.Char.{digit_value}
use Rattle.std.specs.List.{prefix_len}
use Rattle.std.specs.Str.Parse.{digits_value}
use Rattle.mysql_handshake.specs.VersionReading.{digits_len}
use Rattle.mysql_handshake.specs.Versions.{is_digit}

-- a digit is one of `0` to `9`
pub digit_range : (c : ℕ) → is_digit c ≡ true → (48 ≤ c) × (c ≤ 57)
digit_range c is = grind (arith, nat_tests)

digit_is : (c : ℕ) → is_digit c ≡ true → digit_value c ≡ c - 48
digit_is c is = let value = digit_value_digit c (digit_range c is) in omega arith

-- one more digit
pub value_more : (digits : List ℕ) (i : ℕ) → i < length digits → is_digit (get_or digits i 0) ≡ true
    → digits_value 10 (take (i + 1) digits) ≡ digits_value 10 (take i digits) * 10 + (get_or digits i 0 - 48)
value_more digits i lt is = digits_value_more 10 digits i lt ∙
    ap (λ (d : ℕ). digits_value 10 (take i digits) * 10 + d) (digit_is (get_or digits i 0) is)

-- the digits that a text begins with are in it
pub digits_within : (most : ℕ) (text : List ℕ) → digits_len most text ≤ length text
unfolding digits_len
digits_within most text = let all = prefix_len-le-length is_digit text in omega arith

-- they are no more than `most`
pub digits_few : (most : ℕ) (text : List ℕ) → digits_len most text ≤ most
unfolding digits_len
digits_few most text = omega arith

in_prefix : (most : ℕ) (text : List ℕ) (k : ℕ) → k < digits_len most text → k < prefix_len is_digit text
unfolding digits_len
in_prefix most text k lt = omega arith

-- and they are digits
pub digits_are : (most : ℕ) (text : List ℕ) (k : ℕ) → k < digits_len most text →
    is_digit (get_or (take (digits_len most text) text) k 0) ≡ true
digits_are most text k lt =
    rw (get_or-take (digits_len most text) text k 0 lt)
    (prefix_len_passes is_digit text k 0 (in_prefix most text k lt))

-- How the duration of a text is read: a step of reading each. What the text is, `Durations` says.
-- MySQL Reference Manual, "The TIME Type", "Fractional Seconds in Time Values".
use Rattle.std.specs.Prelude.{ℕ, ◌+◌, ◌*◌, ◌^◌, ◌-◌, Bool, ◌&&◌, ◌==◌, nat_le, List, [], ◌∷◌, length, Option, Some}
use Rattle.std.specs.Prelude.{None, if◌then◌else◌}
use Rattle.std.specs.Option.{option_map}
use Rattle.mysql_queries.specs.Literals.{is_digit}
use Rattle.mysql_convert.specs.Numbers.{digits_number}

-- the nanoseconds of a time
abbrev pub time_nanos : ℕ → ℕ → ℕ → ℕ → ℕ → ℕ
time_nanos days hours minutes seconds micros =
    (((days * 24 + hours) * 60 + minutes) * 60 + seconds) * 1_000_000_000 + micros * 1_000

-- the number of two digits
abbrev pub two_digits : ℕ → ℕ → ℕ
two_digits tens ones = (tens - 0x30) * 10 + (ones - 0x30)

-- two digits from 00 to 59
abbrev pub is_below_sixty : ℕ → ℕ → Bool
is_below_sixty tens ones = is_digit tens && nat_le tens 0x35 && is_digit ones

-- the nanoseconds of nothing, or of a point and one to six digits
abbrev pub fraction_nanos : List ℕ → Option ℕ
fraction_nanos [] = Some 0
fraction_nanos (point ∷ digits) =
    if (point == 0x2e) && nat_le (length digits) 6 then option_map
    (λ n. n * 10 ^ (9 - length digits)) (digits_number digits) else None

-- the nanoseconds of hours and, behind them, `:MM:SS` and a fraction
abbrev pub clock_nanos : ℕ → List ℕ → Option ℕ
clock_nanos hours (a ∷ m ∷ n ∷ b ∷ s ∷ t ∷ fraction) =
    if (a == 0x3a) && is_below_sixty m n && (b == 0x3a) && is_below_sixty s t
    then option_map (λ nanos. time_nanos 0 hours (two_digits m n) (two_digits s t) 0 + nanos) (fraction_nanos fraction)
    else None
clock_nanos hours _ = None

-- the nanoseconds of a text: hours of two digits, or of three that begin with 0 to 8, and what stands behind them
abbrev pub text_nanos : List ℕ → Option ℕ
text_nanos (h ∷ i ∷ j ∷ clock) =
    if is_digit h && is_digit i && (j == 0x3a) then clock_nanos (two_digits h i) (j ∷ clock) else
    (if is_digit h && nat_le h 0x38 && is_digit i &&
    is_digit j then clock_nanos ((h - 0x30) * 100 + two_digits i j) clock else None)
text_nanos _ = None

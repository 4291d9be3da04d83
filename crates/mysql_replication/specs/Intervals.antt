-- Intervals of transaction numbers, as texts: `n`, or `n-m` for all from n to m.
-- MySQL Reference Manual, "GTID Sets".
use Rattle.std.specs.Prelude.{ℕ, ◌+◌, ◌-◌, ◌^◌, List, [], ◌∷◌, ◌++◌, length, Bool, Option, Some, None, Result, Ok, Err}
use Rattle.std.specs.Prelude.{nat_lt, nat_le, ◌==◌, ◌&&◌, if◌then◌else◌}
use Rattle.std.specs.Fmt.{decimal}
use Rattle.std.specs.List.{before_first, after_first, position_or_len, list_all}
use Rattle.std.specs.Str.Parse.{digits_value, without_leading_plus}
use Rattle.mysql_fields.specs.Wire.{◌>>=◌}
use Rattle.mysql_replication.specs.Tags.{is_digit}
use Rattle.mysql_replication.specs.declared.error.SidError.{SidError}
use Rattle.mysql_replication.specs.declared.error.SidError.TheVariants.{BadInterval, Overflow, StartNotBelowEnd}
use Rattle.mysql_replication.specs.declared.error.SidError.TheVariants.{ZeroGno}
use Rattle.mysql_replication.specs.declared.interval.GnoInterval.{GnoInterval}

-- The hyphen between the two numbers of an interval.
abbrev pub is_hyphen : ℕ → Bool
is_hyphen c = c == 45

-- The whole number below 2^64 that digits write.
abbrev pub number_of_digits : List ℕ → Result ℕ SidError
number_of_digits digits =
    if nat_lt 0 (length digits) && list_all is_digit digits && nat_lt (digits_value 10 digits) (2 ^ 64)
    then Ok (digits_value 10 digits) else Err BadInterval

-- The whole number below 2^64 that a text writes, with or without a plus before its digits.
unfoldable pub number_of : List ℕ → Result ℕ SidError
number_of text = number_of_digits (without_leading_plus text)

-- The two parts of a text around its first hyphen, where it has one.
unfoldable pub around_hyphen : List ℕ → Option (List ℕ × List ℕ)
around_hyphen text =
    if nat_lt (position_or_len is_hyphen text) (length text)
    then Some (before_first is_hyphen text, after_first is_hyphen text) else None

-- The first and the last number of a field: the two around its hyphen, or the one that it is.
unfoldable pub ends_of : List ℕ → Option (List ℕ × List ℕ) → Result (ℕ × ℕ) SidError
ends_of field None = do
  n ← number_of field
  Ok (n, n)
ends_of field (Some parts) = do
  first ← number_of parts.0
  last ← number_of parts.1
  Ok (first, last)

-- The number after a number, below 2^64.
abbrev pub after : ℕ → Result ℕ SidError
after n = if nat_lt (n + 1) (2 ^ 64) then Ok (n + 1) else Err Overflow

-- The interval from a number to before another, which is above it; it holds no zero.
abbrev pub interval_between : ℕ → ℕ → Result GnoInterval SidError
interval_between start end =
    if nat_le end start then Err StartNotBelowEnd
    else if start == 0 then Err ZeroGno
    else Ok (record { start = start; end = end })

-- The interval that a field writes.
unfoldable pub interval_of : List ℕ → Result GnoInterval SidError
interval_of field = do
  ends ← ends_of field (around_hyphen field)
  end ← after ends.1
  interval_between ends.0 end

-- The intervals that fields write, each in its turn.
abbrev pub intervals_of : List (List ℕ) → Result (List GnoInterval) SidError
intervals_of [] = Ok []
intervals_of (field ∷ fields) = do
  interval ← interval_of field
  intervals ← intervals_of fields
  Ok (interval ∷ intervals)

-- The text of an interval: its one number, or its first and its last.
abbrev pub interval_text : GnoInterval → List ℕ
interval_text interval =
    if interval.end == interval.start + 1 then decimal interval.start
    else decimal interval.start ++ 45 ∷ decimal (interval.end - 1)

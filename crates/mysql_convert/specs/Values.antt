-- The values of Rust's booleans, durations and options. MySQL Reference Manual, "Boolean Literals",
-- "The TIME Type", "Fractional Seconds in Time Values", "Working with NULL Values".
use Rattle.std.specs.Prelude.{ℕ, ℤ, pos, ◌+◌, ◌/◌, ◌%◌, ◌^◌, Bool, true, false, nat_le, nat_lt, Option, Some, None}
use Rattle.std.specs.Prelude.{if◌then◌else◌}
use Rattle.mysql_cells.specs.declared.value.Value.{Value}
use Rattle.mysql_cells.specs.declared.value.Value.TheVariants.{NULL, Time}

-- the number of a boolean
abbrev pub number_of_boolean : Bool → ℤ
number_of_boolean false = pos 0
number_of_boolean true = pos 1

-- the time of so many microseconds, none where it takes more than 2^32 - 1 days
abbrev pub time_value : ℕ → Option Value
time_value micros =
    if nat_lt (micros / 86_400_000_000) (2 ^ 32)
    then Some (Time false (micros / 86_400_000_000) (micros / 3_600_000_000 % 24)
    (micros / 60_000_000 % 60) (micros / 1_000_000 % 60) (micros % 1_000_000))
    else None

-- nanoseconds rounded to microseconds, halves up
abbrev pub rounded : ℕ → ℕ
rounded nanos = nanos / 1_000 + (if nat_le 500 (nanos % 1_000) then 1 else 0)

-- The value of a duration of so many nanoseconds.
abbrev pub duration_value : ℕ → Option Value
duration_value nanos = time_value (rounded nanos)

-- the value of an option: NULL for None
abbrev pub value_or_null : {T : Type 0} → (T → Option Value) → Option T → Option Value
value_or_null as_value None = Some NULL
value_or_null as_value (Some x) = as_value x

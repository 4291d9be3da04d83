-- The duration that a value holds.
-- MySQL Reference Manual, "The TIME Type", "Fractional Seconds in Time Values".
use Rattle.std.specs.Prelude.{◌≡◌, ◌≤◌, ◌<◌, ◌⊎◌, ◌↔◌, ℕ, ◌+◌, ◌*◌, ◌^◌, true, false, List, [], ◌++◌, codes, length}
use Rattle.std.specs.Prelude.{Option, Some, None}
use Rattle.std.specs.List.{AllByRecursion}
use Rattle.mysql_queries.specs.Literals.{AreDigits, digits_value, is_digit}
use Rattle.mysql_cells.specs.declared.value.Value.{Value}
use Rattle.mysql_cells.specs.declared.value.Value.TheVariants.{Bytes, Time}
use Rattle.mysql_convert.specs.DurationReading.{text_nanos, time_nanos}

-- so many digits that write a number below a bound
pub record IsGroup (count bound : ℕ) (digits : List ℕ) : Type 0 where
  pub each : AllByRecursion (λ b. is_digit b ≡ true) digits
  pub as_many : length digits ≡ count
  pub below : digits_value digits < bound

-- nothing, or a point and one to six digits, and the decimal fraction of a second that they write, in nanoseconds
abbrev pub IsFraction : List ℕ → ℕ → Type 0
IsFraction text nanos = ((text ≡ []) × (nanos ≡ 0))
    ⊎ ((digits : List ℕ) × (text ≡ codes "." ++ digits) × AreDigits digits × (length digits ≤ 6) ×
    (nanos * 10 ^ length digits ≡ digits_value digits * 1_000_000_000))

-- hours of two digits, or of three below 900, minutes and seconds of two digits below 60, with
-- colons between, and a fraction of a second
pub record IsDurationText (text : List ℕ) (nanos : ℕ) : Type 0 where
  pub hours : List ℕ
  pub minutes : List ℕ
  pub seconds : List ℕ
  pub fraction : List ℕ
  pub part : ℕ
  pub spelled : text ≡ hours ++ codes ":" ++ minutes ++ codes ":" ++ seconds ++ fraction
  pub are_hours : IsGroup 2 100 hours ⊎ IsGroup 3 900 hours
  pub are_minutes : IsGroup 2 60 minutes
  pub are_seconds : IsGroup 2 60 seconds
  pub is_fraction : IsFraction fraction part
  pub value : nanos ≡ time_nanos 0 (digits_value hours) (digits_value minutes) (digits_value seconds) 0 + part

-- The nanoseconds of the duration that a value holds: of a time that isn't negative, or of its text.
abbrev pub duration_of : Value → Option ℕ
duration_of (Time false days hours minutes seconds micros) = Some (time_nanos days hours minutes seconds micros)
duration_of (Bytes bytes) = text_nanos bytes
duration_of _ = None

-- bytes hold a duration exactly where they are the text of one
abbrev pub TextsHoldDurations : Type 0
TextsHoldDurations = (text : List ℕ) (nanos : ℕ) → (duration_of (Bytes text) ≡ Some nanos) ↔ IsDurationText text nanos

-- What a value means, and the texts of dates and times. MySQL Reference Manual, "Literal Values":
-- "Date and Time Literals", "NULL Values"; "Date and Time Data Types".
use Rattle.std.specs.Prelude.{◌≡◌, ℕ, pos, ◌+◌, ◌*◌, ◌-◌, ◌^◌, ◌<◌, ◌==◌, ◌&&◌, ◌||◌, Bool, true, false, not}
use Rattle.std.specs.Prelude.{if◌then◌else◌, List, [], ◌∷◌, ◌++◌, length, replicate, take, is_none, Option, Some, None}
use Rattle.std.specs.Prelude.{FitsSigned, Result, Ok, Err}
use Rattle.std.specs.Fmt.{decimal, sign_text}
use Rattle.std.specs.Int.{w64}
use Rattle.std.specs.List.{position_from}
use Rattle.mysql_buf.specs.Bytes.{AreBytes}
use Rattle.mysql_bytes.specs.declared.content.Content.{Content}
use Rattle.mysql_bytes.specs.declared.content.Content.TheVariants as content
use Rattle.mysql_cells.specs.declared.value.Value.{Value}
use Rattle.mysql_cells.specs.declared.value.Value.TheVariants.{NULL, Bytes, Int, UInt, Float, Double, Date, Time}

-- whether a value is NULL
abbrev pub is_null : Value → Bool
is_null NULL = true
is_null _ = false

-- a number in at least so many digits
abbrev pub digits_in : ℕ → ℕ → List ℕ
digits_in width n = replicate (width - length (decimal n)) 0x30 ++ decimal n

-- a point and six digits, unless there are no microseconds
abbrev pub micros_text : ℕ → List ℕ
micros_text micros = if micros == 0 then [] else 0x2e ∷ digits_in 6 micros

-- HH:MM:SS, the hours in at least so many digits
abbrev pub clock_text : ℕ → ℕ → ℕ → ℕ → List ℕ
clock_text width hours minutes seconds = digits_in width hours ++ 0x3a ∷
    (digits_in 2 minutes ++ 0x3a ∷ digits_in 2 seconds)

-- YYYY-MM-DD
abbrev pub day_text : ℕ → ℕ → ℕ → List ℕ
day_text year month day = digits_in 4 year ++ 0x2d ∷ (digits_in 2 month ++ 0x2d ∷ digits_in 2 day)

-- no part of a time is more than 0
abbrev pub is_zero_time : ℕ → ℕ → ℕ → ℕ → ℕ → Bool
is_zero_time days hours minutes seconds micros = (days == 0) && (hours == 0) && (minutes == 0) &&
    (seconds == 0) && (micros == 0)

-- YYYY-MM-DD, and the time of day unless all of it is 0
abbrev pub date_text : ℕ → ℕ → ℕ → ℕ → ℕ → ℕ → ℕ → List ℕ
date_text year month day hour minute second micros =
    day_text year month day ++
    (if is_zero_time 0 hour minute second micros then [] else 0x20 ∷
    (clock_text 2 hour minute second ++ micros_text micros))

-- a dash if negative, the days as hours, the minutes and seconds, the microseconds
abbrev pub time_text : Bool → ℕ → ℕ → ℕ → ℕ → ℕ → List ℕ
time_text negative days hours minutes seconds micros = sign_text negative ++
    (clock_text 3 (days * 24 + hours) minutes seconds ++ micros_text micros)

-- the value, an all-zero time taken as positive unless its sign is kept
abbrev pub with_zero_sign : Bool → Value → Value
with_zero_sign kept (Time negative days hours minutes seconds micros) =
    Time (negative && (kept || not (is_zero_time days hours minutes seconds micros))) days hours minutes seconds micros
with_zero_sign kept NULL = NULL
with_zero_sign kept (Bytes bytes) = Bytes bytes
with_zero_sign kept (Int z) = Int z
with_zero_sign kept (UInt n) = UInt n
with_zero_sign kept (Float bits) = Float bits
with_zero_sign kept (Double bits) = Double bits
with_zero_sign kept (Date year month day hour minute second micros) = Date year month day hour minute second micros

-- the value with an all-zero time taken as positive
abbrev pub without_zero_sign : Value → Value
without_zero_sign value = with_zero_sign false value

-- what such a value means
abbrev pub plain_content : Value → Option Content
plain_content NULL = Some content.Null
plain_content (Bytes bytes) = Some (content.Bytes bytes)
plain_content (Int z) = Some (content.Number z)
plain_content (UInt n) = Some (content.Number (pos n))
plain_content (Float bits) = None
plain_content (Double bits) = None
plain_content (Date year month day hour minute second micros) =
    Some (content.Bytes (date_text year month day hour minute second micros))
plain_content (Time negative days hours minutes seconds micros) =
    Some (content.Bytes (time_text negative days hours minutes seconds micros))

-- What a value means: nothing, its number, its bytes, or the text of its date or time, an all-zero
-- time taken as positive. A float has no content.
abbrev pub content_of : Value → Option Content
content_of value = plain_content (without_zero_sign value)

-- the first value that is a float
abbrev pub first_float : List Value → Option ℕ
first_float values = position_from (λ value. is_none (content_of value)) 0 values

-- each number of the value fits its field
abbrev pub FitsFields : Value → Type 0
FitsFields NULL = Unit {0}
FitsFields (Bytes bytes) = AreBytes bytes × (length bytes < 2 ^ 64)
FitsFields (Int z) = FitsSigned w64 z
FitsFields (UInt n) = n < 2 ^ 64
FitsFields (Float bits) = bits < 2 ^ 32
FitsFields (Double bits) = bits < 2 ^ 64
FitsFields (Date year month day hour minute second micros) =
    (year < 2 ^ 16) × (month < 256) × (day < 256) × (hour < 256) × (minute < 256) × (second < 256) × (micros < 2 ^ 32)
FitsFields (Time negative days hours minutes seconds micros) =
    (days < 2 ^ 32) × (hours < 256) × (minutes < 256) × (seconds < 256) × (micros < 2 ^ 32)

-- A call appended these bytes; or it was refused, and what there was still comes first.
abbrev pub Puts : {E : Type 0} → List ℕ → List ℕ → List ℕ → Result (Unit {0}) E → Type 0
Puts bytes old new (Ok _) = new ≡ old ++ bytes
Puts bytes old new (Err _) = take (length old) new ≡ old

-- a separator and at least two digits
abbrev pub part_text : ℕ → ℕ → List ℕ
part_text separator n = separator ∷ digits_in 2 n

-- a space and the time of day, unless all of it is 0
abbrev pub time_of_day_text : ℕ → ℕ → ℕ → ℕ → List ℕ
time_of_day_text hour minute second micros =
    if is_zero_time 0 hour minute second micros then [] else 0x20 ∷
    (clock_text 2 hour minute second ++ micros_text micros)

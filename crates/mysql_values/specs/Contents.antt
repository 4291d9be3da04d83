-- The values that contents are sent as.
-- MySQL Reference Manual, "Integer Types (Exact Value)", "Numeric Literals".
use Rattle.std.specs.Prelude.{ℤ, pos, negsuc, suc, ◌^◌, ◌<◌, nat_lt, ◌∷◌, if◌then◌else◌}
use Rattle.std.specs.Fmt.{decimal}
use Rattle.mysql_bytes.specs.declared.content.Content.{Content}
use Rattle.mysql_bytes.specs.declared.content.Content.TheVariants as content
use Rattle.mysql_cells.specs.declared.value.Value.{Value}
use Rattle.mysql_cells.specs.declared.value.Value.TheVariants.{NULL, Bytes, Int, UInt}

-- The value of a whole number of any size: Int where it fits, else UInt, else its digits.
abbrev pub integer_value : ℤ → Value
integer_value (pos n) = if nat_lt n (2 ^ 63) then Int (pos n) else
    (if nat_lt n (2 ^ 64) then UInt n else Bytes (decimal n))
integer_value (negsuc n) = if nat_lt n (2 ^ 63) then Int (negsuc n) else Bytes (0x2d ∷ decimal (suc n))

-- The value that a content is sent as: NULL, a number as Int where it fits, else UInt, or bytes.
abbrev pub content_value : Content → Value
content_value content.Null = NULL
content_value (content.Number number) = integer_value number
content_value (content.Bytes bytes) = Bytes bytes

-- a content whose number, if it is one, is from -2^63 to 2^64-1
abbrev pub IsInRange : Content → Type 0
IsInRange content.Null = Unit {0}
IsInRange (content.Number (pos n)) = n < 2 ^ 64
IsInRange (content.Number (negsuc n)) = n < 2 ^ 63
IsInRange (content.Bytes bytes) = Unit {0}

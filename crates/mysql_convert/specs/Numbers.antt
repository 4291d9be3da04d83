-- The whole number that a value holds.
-- MySQL Reference Manual, "Numeric Literals", "Integer Types (Exact Value)".
use Rattle.std.specs.Prelude.{◌≡◌, ℕ, ℤ, pos, negsuc, neg_ℤ, ◌^◌, ◌-◌, Bool, true, false, nat_lt, List, [], ◌∷◌, Option}
use Rattle.std.specs.Prelude.{Some, None, if◌then◌else◌, ◌==◌}
use Rattle.std.specs.List.{list_all}
use Rattle.std.specs.Option.{option_map, option_and_then}
use Rattle.mysql_queries.specs.Literals.{is_digit, digits_value}
use Rattle.mysql_cells.specs.declared.value.Value.{Value}
use Rattle.mysql_cells.specs.declared.value.Value.TheVariants.{Bytes, Int, UInt}
use Rattle.mysql_cells.specs.Values.{is_null}

-- a number by its sign and its magnitude
abbrev pub signed : Bool → ℕ → ℤ
signed true n = neg_ℤ (pos n)
signed false n = pos n

-- the number of a text of digits, at least one
abbrev pub digits_number : List ℕ → Option ℕ
digits_number [] = None
digits_number (b ∷ bytes) = if list_all is_digit (b ∷ bytes) then Some (digits_value (b ∷ bytes)) else None

-- the number of a text of an optional sign and digits
abbrev pub text_number : List ℕ → Option ℤ
text_number [] = None
text_number (b ∷ bytes) =
    if b == 0x2d then option_map (signed true) (digits_number bytes) else
    (if b == 0x2b then option_map (signed false) (digits_number bytes) else option_map
    (signed false) (digits_number (b ∷ bytes)))

-- The whole number that a value holds, as a number or as its text.
abbrev pub number_of : Value → Option ℤ
number_of (Int z) = Some z
number_of (UInt n) = Some (pos n)
number_of (Bytes bytes) = text_number bytes
number_of _ = None

-- a number that fits so many bits without a sign
abbrev pub unsigned_in : ℕ → ℤ → Option ℕ
unsigned_in bits (pos n) = if nat_lt n (2 ^ bits) then Some n else None
unsigned_in bits (negsuc n) = None

-- a number that fits so many bits, one of them for the sign
abbrev pub signed_in : ℕ → ℤ → Option ℤ
signed_in bits (pos n) = if nat_lt n (2 ^ (bits - 1)) then Some (pos n) else None
signed_in bits (negsuc n) = if nat_lt n (2 ^ (bits - 1)) then Some (negsuc n) else None

-- The number of an integer type that a value holds: one in the range that the type takes.
abbrev pub integer_of : {N : Type 0} → (ℤ → Option N) → Value → Option N
integer_of narrowed value = option_and_then narrowed (number_of value)

-- the value holds this number
abbrev pub HoldsNumber : ℤ → Value → Type 0
HoldsNumber z value = (number_of value ≡ Some z) × (is_null value ≡ false)

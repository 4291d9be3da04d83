-- The literals of a SQL text and their contents, by the mode of the server that reads it and the
-- spelling of byte strings in it. MySQL Reference Manual, "Literal Values": "String Literals",
-- "Numeric Literals", "Hexadecimal Literals", "NULL Values"; "Server SQL Modes"
-- (NO_BACKSLASH_ESCAPES); "Character Set Introducers".
use Rattle.std.specs.Prelude.{◌≡◌, ◌≢◌, ℕ, ◌+◌, ◌-◌, ◌*◌, ◌^◌, ◌<◌, ◌≤◌, Bool, true, ◌||◌, ◌==◌, nat_le, if◌then◌else◌}
use Rattle.std.specs.Prelude.{◌⊎◌, List, [], ◌∷◌, ◌++◌, map, fold, flat_map, codes, ℤ, pos, neg_ℤ}
use Rattle.std.specs.List.{AllByRecursion}
use Rattle.mysql_bytes.specs.declared.content.Content.{Content}
use Rattle.mysql_bytes.specs.declared.content.Content.TheVariants.{Null, Number, Bytes}
pub use Rattle.mysql_queries.specs.Tokens.{is_digit}
use Rattle.mysql_queries.specs.Tokens.{is_within, single_quote, backslash, dash, Inside, Byte, Escape, Doubled}
use Rattle.mysql_queries.specs.Tokens.{inside_bytes, IsInside, has_escapes}
use Rattle.mysql_bytes.specs.declared.mode.Mode.{Mode}
use Rattle.mysql_bytes.specs.declared.spelling.Spelling.{Spelling}
use Rattle.mysql_bytes.specs.declared.spelling.Spelling.TheVariants.{Hexadecimal}

-- an ASCII letter in lower case
abbrev pub lower : ℕ → ℕ
lower b = if is_within 0x41 0x5a b then b + 0x20 else b

-- the number of a row of digits
abbrev pub digits_value : List ℕ → ℕ
digits_value digits = fold (λ n d. n * 10 + (d - 0x30)) 0 digits

-- at least one digit
pub record AreDigits (digits : List ℕ) : Type 0 where
  pub each : AllByRecursion (λ b. is_digit b ≡ true) digits
  pub some : digits ≢ []

-- digits, behind a dash for a negative number; from -2^63 to 2^64-1
pub record IsNumber (spelling : List ℕ) (z : ℤ) : Type 0 where
  pub digits : List ℕ
  pub are : AreDigits digits
  pub value : ((spelling ≡ digits) × (z ≡ pos (digits_value digits)) ×
      (digits_value digits < 2 ^ 64)) ⊎
      ((spelling ≡ dash ∷ digits) × (z ≡ neg_ℤ (pos (digits_value digits))) ×
      (digits_value digits ≤ 2 ^ 63))

-- what a backslash makes of the byte after it
abbrev pub escaped : ℕ → List ℕ
escaped b =
    if b == 0x30 then 0x00 ∷ []
    else (if b == 0x62 then 0x08 ∷ []
    else (if b == 0x6e then 0x0a ∷ []
    else (if b == 0x72 then 0x0d ∷ []
    else (if b == 0x74 then 0x09 ∷ []
    else (if b == 0x5a then 0x1a ∷ []
    else (if (b == 0x25) || (b == 0x5f) then backslash ∷ b ∷ []
    else b ∷ []))))))

-- what stands inside a literal's single quotes, read
abbrev pub inside_content : Inside → List ℕ
inside_content (Byte b) = b ∷ []
inside_content (Escape b) = escaped b
inside_content Doubled = single_quote ∷ []

-- bytes between single quotes, with escapes by backslashes or without
pub record IsString (escapes : Bool) (spelling bytes : List ℕ) : Type 0 where
  pub parts : List Inside
  pub inside : AllByRecursion (IsInside escapes single_quote) parts
  pub spelled : spelling ≡ single_quote ∷ (flat_map (inside_bytes single_quote) parts ++ single_quote ∷ [])
  pub read : bytes ≡ flat_map inside_content parts

abbrev pub is_hex : ℕ → Bool
is_hex b = is_digit b || is_within 0x41 0x46 b || is_within 0x61 0x66 b

abbrev pub hex_value : ℕ → ℕ
hex_value b = if is_digit b then b - 0x30 else (if nat_le b 0x46 then b - 0x37 else b - 0x57)

-- two hexadecimal digits for each byte
abbrev pub SpellsInHex : List ℕ → List ℕ → Type 0
SpellsInHex [] [] = Unit {0}
SpellsInHex [] (byte ∷ bytes) = ⊥
SpellsInHex (high ∷ []) bytes = ⊥
SpellsInHex (high ∷ low ∷ digits) [] = ⊥
SpellsInHex (high ∷ low ∷ digits) (byte ∷ bytes) = (is_hex high ≡ true) × (is_hex low ≡ true) ×
    (byte ≡ 16 * hex_value high + hex_value low) × SpellsInHex digits bytes

-- `0x` and the digits of at least one byte
pub record IsHexLiteral (spelling bytes : List ℕ) : Type 0 where
  pub digits : List ℕ
  pub spelled : spelling ≡ 0x30 ∷ 0x78 ∷ digits
  pub spells : SpellsInHex digits bytes
  pub some : bytes ≢ []

-- The introducers that make a text, or a string of bytes, of a literal in hexadecimal, which is a
-- number where a number is wanted. Each is in lower case, with one blank.
-- MySQL Reference Manual, "Character Set Introducers", "Hexadecimal Literals".
abbrev pub text_introducer : List ℕ
text_introducer = codes "_utf8mb4 "

abbrev pub binary_introducer : List ℕ
binary_introducer = codes "_binary "

-- one of the two
abbrev pub IsIntroducer : List ℕ → Type 0
IsIntroducer introducer = (introducer ≡ text_introducer) ⊎ (introducer ≡ binary_introducer)

-- an introducer and a literal in hexadecimal, where byte strings are spelled so
pub record IsIntroduced (spelling : Spelling) (text bytes : List ℕ) : Type 0 where
  pub allowed : spelling ≡ Hexadecimal
  pub introducer : List ℕ
  pub literal : List ℕ
  pub is : IsIntroducer introducer
  pub spelled : text ≡ introducer ++ literal
  pub hexadecimal : IsHexLiteral literal bytes

-- The texts of each content: NULL in any case, a number, bytes in quotes, in hexadecimal, or in
-- hexadecimal behind an introducer.
abbrev pub IsLiteral : Mode → Spelling → List ℕ → Content → Type 0
IsLiteral mode spelling text Null = map lower text ≡ codes "null"
IsLiteral mode spelling text (Number z) = IsNumber text z
IsLiteral mode spelling text (Bytes bytes) = IsString (has_escapes mode single_quote) text bytes ⊎
    (IsHexLiteral text bytes ⊎ IsIntroduced spelling text bytes)

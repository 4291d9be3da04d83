-- The run of bytes at the front of a text that is read as a literal, or is none.
-- MySQL Reference Manual, "Literal Values", "Character Set Introducers".
use Rattle.std.specs.Prelude.{◌≡◌, ℕ, Bool, true, false, ◌&&◌, ◌==◌, ◌⊎◌, List, [], ◌∷◌, ◌++◌, map, codes}
use Rattle.std.specs.List.{AllByRecursion}
use Rattle.mysql_queries.specs.Tokens.{IsQuoted, has_escapes, single_quote, dash}
use Rattle.mysql_bytes.specs.declared.mode.Mode.{Mode}
use Rattle.mysql_bytes.specs.declared.spelling.Spelling.{Spelling}
use Rattle.mysql_bytes.specs.declared.spelling.Spelling.TheVariants.{Hexadecimal}
use Rattle.mysql_queries.specs.Literals.{IsIntroducer, lower, is_digit, is_hex}

-- no byte that passes the test comes first
abbrev pub EndsBefore : (ℕ → Bool) → List ℕ → Type 0
EndsBefore test [] = Unit {0}
EndsBefore test (b ∷ rest) = test b ≡ false

-- `0x` comes first
abbrev pub begins_hex : List ℕ → Bool
begins_hex [] = false
begins_hex (a ∷ []) = false
begins_hex (a ∷ b ∷ rest) = (a == 0x30) && (b == 0x78)

-- all digits, behind a dash or not; not of a text that begins with `0x`
pub record IsDigitRun (run rest : List ℕ) : Type 0 where
  pub digits : List ℕ
  pub each : AllByRecursion (λ b. is_digit b ≡ true) digits
  pub spelled : (run ≡ digits) ⊎ (run ≡ dash ∷ digits)
  pub ends : EndsBefore is_digit rest
  pub other : begins_hex (run ++ rest) ≡ false

-- `0x` with all hexadecimal digits
pub record IsHexRun (run rest : List ℕ) : Type 0 where
  pub digits : List ℕ
  pub each : AllByRecursion (λ b. is_hex b ≡ true) digits
  pub spelled : run ≡ 0x30 ∷ 0x78 ∷ digits
  pub ends : EndsBefore is_hex rest

-- an introducer and `0x` with all hexadecimal digits behind it, where byte strings are spelled so
pub record IsIntroducedRun (spelling : Spelling) (run rest : List ℕ) : Type 0 where
  pub allowed : spelling ≡ Hexadecimal
  pub introducer : List ℕ
  pub literal : List ℕ
  pub is : IsIntroducer introducer
  pub spelled : run ≡ introducer ++ literal
  pub hexadecimal : IsHexRun literal rest

-- the four letters of NULL, the body to its closing quote, or all digits, also behind an introducer
abbrev pub IsLiteralRun : Mode → Spelling → List ℕ → List ℕ → Type 0
IsLiteralRun mode spelling run rest = (map lower run ≡ codes "null") ⊎
    (IsQuoted (has_escapes mode single_quote) single_quote run rest ⊎
    (IsHexRun run rest ⊎ (IsDigitRun run rest ⊎ IsIntroducedRun spelling run rest)))

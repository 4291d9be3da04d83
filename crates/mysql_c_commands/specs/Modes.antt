-- The flags by which C tells the mode of a server and how byte strings are spelled.
-- MySQL Reference Manual, "Server SQL Modes", "Hexadecimal Literals".
use Rattle.std.specs.Prelude.{◌≡◌, ℕ, Bool, ◌==◌, nat_lt, Option, Some, None, MatchOption, if◌then◌else◌}
use Rattle.std.specs.Int.RustNames.{bit_and}
use Rattle.mysql_values.specs.Spelling.{Spelling}
use Rattle.mysql_values.specs.Mode.{Mode}
use Rattle.mysql_values.specs.Spelling.TheVariants.{Hexadecimal, Quoted}
use Rattle.mysql_c_handles.specs.declared.code.Code.TheVariants.{NoSuchMode}
use Rattle.mysql_c_handles.specs.declared.object.Object.{Object}
use Rattle.mysql_c_handles.specs.Codes.{code_number}

-- whether this one is among flags
abbrev pub has_flag : ℕ → ℕ → Bool
has_flag flags one = bit_and flags one == one

-- The mode and the spelling that flags tell: 1 is NO_BACKSLASH_ESCAPES, 2 ANSI_QUOTES, 4 byte
-- strings in hexadecimal. Flags with any other bit tell none.
abbrev pub flagged : ℕ → Option (Mode × Spelling)
flagged flags =
    if nat_lt flags 8 then Some (
      record { no_backslash_escapes = has_flag flags 1; ansi_quotes = has_flag flags 2 },
      if has_flag flags 4 then Hexadecimal else Quoted,
    ) else None

-- what is told of a mode that isn't known, in place of its flags: these tell no mode
abbrev pub unknown_mode : ℕ
unknown_mode = 8

-- The flags of a mode, or 8, byte strings in quotes.
abbrev pub mode_number : Option Mode → ℕ
mode_number None = unknown_mode
mode_number (Some mode) =
    if mode.no_backslash_escapes then (if mode.ansi_quotes then 3 else 1) else (if mode.ansi_quotes then 2 else 0)

-- What is said in the mode and the spelling that flags tell. Where these tell none the number says
-- so, and the object stays.
abbrev pub InMode : ℕ → ℕ → Object → Object → (Mode → Spelling → Type 0) → Type 0
InMode flags number old new Says =
    MatchOption (flagged flags) ((number ≡ code_number NoSuchMode) × (new ≡ old)) (λ told. Says told.0 told.1)

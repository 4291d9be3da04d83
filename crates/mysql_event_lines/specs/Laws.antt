-- Laws of bytes as people read them.
-- MySQL Reference Manual, "String Literals" (escape sequences) and "Hexadecimal Literals".
use Rattle.std.specs.Prelude.{◌≡◌, ℕ, true, not, nat_lt, List, Some}
use Rattle.std.specs.List.{list_all}
use Rattle.mysql_event_lines.specs.Quoted.{has_no_wide_control, is_control, quoted, readable, unquoted}

-- A text in quotes is read back.
abbrev pub QuotedIsRead : Type 0
QuotedIsRead = (text : List ℕ) → unquoted (quoted text) ≡ Some text

-- What is written of bytes has no control character, of ASCII or of two bytes.
abbrev pub ReadableHasNoControls : Type 0
ReadableHasNoControls = (bytes : List ℕ) → list_all (λ b. nat_lt b 256) bytes ≡ true →
    (list_all (λ b. not (is_control b)) (readable bytes) ≡ true) × (has_no_wide_control (readable bytes) ≡ true)

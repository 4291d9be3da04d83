-- The spellings that a writer chooses for bytes, by the mode of the server that reads them. MySQL
-- Reference Manual, "String Literals" (escape sequences), "Hexadecimal Literals", "Character Set
-- Introducers", "Server SQL Modes" (NO_BACKSLASH_ESCAPES).
use Rattle.std.specs.Prelude.{Bool, ℕ, ◌+◌, ◌/◌, ◌%◌, ◌==◌, ◌||◌, nat_lt, if◌then◌else◌}
use Rattle.std.specs.Prelude.{List, [], ◌∷◌, ◌++◌, flat_map}
use Rattle.std.specs.Str.{is_utf8}
use Rattle.mysql_queries.specs.Literals.{binary_introducer, text_introducer}
use Rattle.mysql_queries.specs.Tokens.{single_quote, double_quote, backslash}

-- A byte inside quotes with escapes: `\0 \n \r \Z \\ \' \"`, and else the byte itself.
abbrev pub escaped_byte : ℕ → List ℕ
escaped_byte b =
    if b == 0x00 then backslash ∷ 0x30 ∷ []
    else (if b == 0x0a then backslash ∷ 0x6e ∷ []
    else (if b == 0x0d then backslash ∷ 0x72 ∷ []
    else (if b == 0x1a then backslash ∷ 0x5a ∷ []
    else (if (b == backslash) || (b == single_quote) || (b == double_quote) then backslash ∷ b ∷ []
    else b ∷ []))))

-- A byte inside quotes, for a server in NO_BACKSLASH_ESCAPES or for another: in that mode the quote
-- is doubled, and each other byte is itself.
abbrev pub written_byte : (no_backslash_escapes : Bool) → ℕ → List ℕ
written_byte no_backslash_escapes b =
    if no_backslash_escapes
    then (if b == single_quote then single_quote ∷ single_quote ∷ [] else b ∷ [])
    else escaped_byte b

-- bytes in single quotes
abbrev pub quoted : (no_backslash_escapes : Bool) → List ℕ → List ℕ
quoted no_backslash_escapes bytes =
    single_quote ∷ (flat_map (written_byte no_backslash_escapes) bytes ++ single_quote ∷ [])

-- a hexadecimal digit in upper case
abbrev pub hex_digit : ℕ → ℕ
hex_digit n = if nat_lt n 10 then n + 0x30 else n + 0x37

-- `0x` and two digits for each byte
abbrev pub in_hexadecimal : List ℕ → List ℕ
in_hexadecimal bytes = 0x30 ∷ 0x78 ∷ flat_map (λ b. hex_digit (b / 16) ∷ hex_digit (b % 16) ∷ []) bytes

-- `_utf8mb4 ` before bytes that are UTF-8, `_binary ` before others, and the bytes in hexadecimal
abbrev pub introduced : List ℕ → List ℕ
introduced bytes = (if is_utf8 bytes then text_introducer else binary_introducer) ++ in_hexadecimal bytes

-- Bytes as people read them in a line: a text in double quotes, with escapes, and bytes that are no text,
-- or have a control character of two bytes, as `x` and hexadecimal. MySQL Reference Manual, "String
-- Literals" (escape sequences) and "Hexadecimal Literals"; The Unicode Standard, "UTF-8".
use Rattle.std.specs.Prelude.{ℕ, ◌+◌, ◌-◌, ◌*◌, ◌/◌, ◌%◌, ◌==◌, ◌||◌, ◌&&◌, Bool, true, false, nat_lt, if◌then◌else◌}
use Rattle.std.specs.Prelude.{List, [], ◌∷◌, ◌++◌, Option, Some, None, flat_map, fold}
use Rattle.std.specs.Str.{is_utf8}
use Rattle.mysql_event_lines.specs.declared.quoted.Scan.{Scan}
use Rattle.mysql_event_lines.specs.declared.quoted.Scan.TheVariants.{Begun, Between, Found}

abbrev pub quote : ℕ
quote = 0x22

abbrev pub backslash : ℕ
backslash = 0x5c

-- a hexadecimal digit in lower case
abbrev pub digit_of : ℕ → ℕ
digit_of n = if nat_lt n 10 then n + 0x30 else n + 0x57

-- a byte in two digits
abbrev pub digits_of : ℕ → List ℕ
digits_of b = digit_of (b / 16) ∷ digit_of (b % 16) ∷ []

-- whether a byte is a control character of ASCII: below a blank, or DEL
abbrev pub is_control : ℕ → Bool
is_control b = nat_lt b 0x20 || (b == 0x7f)

-- A byte of a text in quotes: `\"`, `\\`, `\n`, `\r` and `\t`. Other control characters are `\x` and two
-- digits, and any other byte is itself.
abbrev pub escaped : ℕ → List ℕ
escaped b =
    if b == quote then backslash ∷ quote ∷ []
    else (if b == backslash then backslash ∷ backslash ∷ []
    else (if b == 0x0a then backslash ∷ 0x6e ∷ []
    else (if b == 0x0d then backslash ∷ 0x72 ∷ []
    else (if b == 0x09 then backslash ∷ 0x74 ∷ []
    else (if is_control b then backslash ∷ 0x78 ∷ digits_of b
    else b ∷ [])))))

-- a text in quotes
abbrev pub quoted : List ℕ → List ℕ
quoted text = quote ∷ (flat_map escaped text ++ quote ∷ [])

-- `x`, and two digits for each byte
abbrev pub in_digits : List ℕ → List ℕ
in_digits bytes = 0x78 ∷ flat_map digits_of bytes

-- CONTROL CHARACTERS OF TWO BYTES

-- a reader of UTF-8 that looks for U+0080 to U+009F, 0xc2 and a byte below 0xa0, behind one more byte
abbrev pub scan_byte : Scan → ℕ → Scan
scan_byte Between b = if b == 0xc2 then Begun else Between
scan_byte Begun b = if nat_lt b 0xa0 then Found else Between
scan_byte Found b = Found

abbrev pub is_between : Scan → Bool
is_between Between = true
is_between Begun = false
is_between Found = false

-- whether no control character of two bytes stands in bytes, and none is begun at their end
abbrev pub has_no_wide_control : List ℕ → Bool
has_no_wide_control bytes = is_between (fold scan_byte Between bytes)

-- bytes that are UTF-8 without such a character in quotes, and others in digits
abbrev pub readable : List ℕ → List ℕ
readable bytes = if is_utf8 bytes && has_no_wide_control bytes then quoted bytes else in_digits bytes

-- READING BACK

-- How far the reader of a text in quotes has come, and the text so far.
pub data Reader : Type 0 where
  Before : Reader
  Inside : List ℕ → Reader
  Escape : List ℕ → Reader
  First : List ℕ → Reader
  Second : List ℕ → ℕ → Reader
  Behind : List ℕ → Reader
  Failed : Reader

-- the number of a digit in lower case, or 16
abbrev pub digit_value : ℕ → ℕ
digit_value b =
    if nat_lt b 0x30 then 16
    else (if nat_lt b 0x3a then b - 0x30
    else (if nat_lt b 0x61 then 16
    else (if nat_lt b 0x67 then b - 0x57 else 16)))

-- what a byte behind a backslash makes of the text
abbrev pub behind_backslash : List ℕ → ℕ → Reader
behind_backslash text b =
    if b == quote then Inside (text ++ quote ∷ [])
    else (if b == backslash then Inside (text ++ backslash ∷ [])
    else (if b == 0x6e then Inside (text ++ 0x0a ∷ [])
    else (if b == 0x72 then Inside (text ++ 0x0d ∷ [])
    else (if b == 0x74 then Inside (text ++ 0x09 ∷ [])
    else (if b == 0x78 then First text
    else Failed)))))

-- the reader behind one more byte
abbrev pub read_byte : Reader → ℕ → Reader
read_byte Before b = if b == quote then Inside [] else Failed
read_byte (Inside text) b =
    if b == quote then Behind text
    else (if b == backslash then Escape text else Inside (text ++ b ∷ []))
read_byte (Escape text) b = behind_backslash text b
read_byte (First text) b = if digit_value b == 16 then Failed else Second text (digit_value b)
read_byte (Second text d) b =
    if digit_value b == 16 then Failed else Inside (text ++ (16 * d + digit_value b) ∷ [])
read_byte (Behind text) b = Failed
read_byte Failed b = Failed

-- the text that was read, where its last quote was
abbrev pub text_read : Reader → Option (List ℕ)
text_read (Behind text) = Some text
text_read reader = None

-- the text that stands in quotes, and nothing behind them
abbrev pub unquoted : List ℕ → Option (List ℕ)
unquoted line = text_read (fold read_byte Before line)

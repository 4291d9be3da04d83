-- The literal of a value in a query. MySQL Reference Manual, "Literal Values": "String Literals",
-- "Numeric Literals", "Date and Time Literals", "Hexadecimal Literals", "NULL Values"; "Character Set
-- Introducers"; of the SQL mode NO_BACKSLASH_ESCAPES: "Server SQL Modes".
use Rattle.std.specs.Prelude.{ℕ, Bool, if◌then◌else◌, List, [], ◌∷◌, ◌++◌, codes, Option, Some, None}
use Rattle.std.specs.Fmt.{decimal, signed_decimal}
use Rattle.std.specs.Str.{is_utf8}
use Rattle.mysql_queries.specs.Tokens.{single_quote}
use Rattle.mysql_queries.specs.Written.{in_hexadecimal, introduced, quoted}
use Rattle.mysql_bytes.specs.declared.mode.Mode.{Mode}
use Rattle.mysql_bytes.specs.declared.spelling.Spelling.{Spelling}
use Rattle.mysql_bytes.specs.declared.spelling.Spelling.TheVariants.{Quoted, Hexadecimal}
use Rattle.mysql_cells.specs.Values.{date_text, time_text, without_zero_sign}
use Rattle.mysql_cells.specs.declared.value.Value.{Value}
use Rattle.mysql_cells.specs.declared.value.Value.TheVariants.{NULL, Bytes, Int, UInt, Float, Double, Date, Time}

-- a text between single quotes as it is
abbrev pub in_quotes : List ℕ → List ℕ
in_quotes text = single_quote ∷ (text ++ single_quote ∷ [])

-- bytes that are UTF-8 between quotes, for a server in NO_BACKSLASH_ESCAPES or for another, and
-- others in hexadecimal
abbrev pub quoted_sql : (no_backslash_escapes : Bool) → List ℕ → List ℕ
quoted_sql no_backslash_escapes bytes =
    if is_utf8 bytes then quoted no_backslash_escapes bytes else in_hexadecimal bytes

-- bytes in hexadecimal behind an introducer, and none between quotes
abbrev pub hexadecimal_sql : List ℕ → List ℕ
hexadecimal_sql [] = in_quotes []
hexadecimal_sql (b ∷ bytes) = introduced (b ∷ bytes)

-- a byte string by its spelling
abbrev pub bytes_sql : (no_backslash_escapes : Bool) → Spelling → List ℕ → List ℕ
bytes_sql no_backslash_escapes Quoted bytes = quoted_sql no_backslash_escapes bytes
bytes_sql no_backslash_escapes Hexadecimal bytes = hexadecimal_sql bytes

-- The SQL text of a value, by the mode of the server that reads it and the spelling of byte strings.
-- Floats have none.
abbrev pub spelled_sql : (no_backslash_escapes : Bool) → Spelling → Value → Option (List ℕ)
spelled_sql no_backslash_escapes spelling NULL = Some (codes "NULL")
spelled_sql no_backslash_escapes spelling (Bytes bytes) = Some (bytes_sql no_backslash_escapes spelling bytes)
spelled_sql no_backslash_escapes spelling (Int z) = Some (signed_decimal z)
spelled_sql no_backslash_escapes spelling (UInt n) = Some (decimal n)
spelled_sql no_backslash_escapes spelling (Float bits) = None
spelled_sql no_backslash_escapes spelling (Double bits) = None
spelled_sql no_backslash_escapes spelling (Date year month day hour minute second micros) =
    Some (in_quotes (date_text year month day hour minute second micros))
spelled_sql no_backslash_escapes spelling (Time negative days hours minutes seconds micros) =
    Some (in_quotes (time_text negative days hours minutes seconds micros))

-- The SQL text of a value with byte strings in quotes.
abbrev pub sql_of : (no_backslash_escapes : Bool) → Value → Option (List ℕ)
sql_of no_backslash_escapes value = spelled_sql no_backslash_escapes Quoted value

-- the literal that is bound for a value: its SQL text, an all-zero time taken as positive
abbrev pub literal_of : Mode → Spelling → Value → Option (List ℕ)
literal_of mode spelling value = spelled_sql mode.no_backslash_escapes spelling (without_zero_sign value)

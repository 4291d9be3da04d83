-- How a value's SQL text is appended, and that it is a literal of the value's content. MySQL
-- Reference Manual, "Literal Values": "String Literals" (escape sequences), "Hexadecimal Literals",
-- "Date and Time Literals"; "Character Set Introducers"; "Server SQL Modes" (NO_BACKSLASH_ESCAPES).
use Rattle.std.specs.Prelude.{◌≡◌, ◌≢◌, ◌⊎◌, ℕ, ◌<◌, Bool, false, true}
use Rattle.std.specs.Prelude.{List, [], ◌∷◌, ◌++◌, length, take, Option, Some, None, Result, Ok, Err}
use Rattle.std.specs.List.{AllByRecursion}
use Rattle.mysql_queries.specs.Tokens.{backslash, backtick, double_quote, single_quote, slash, star}
use Rattle.mysql_queries.specs.Literals.{IsLiteral}
use Rattle.mysql_cells.specs.Values.{FitsFields, content_of, plain_content}
use Rattle.mysql_literals.specs.Literals.{in_quotes, literal_of, spelled_sql}
use Rattle.mysql_bytes.specs.declared.content.Content.{Content}
use Rattle.mysql_bytes.specs.declared.mode.Mode.{Mode}
use Rattle.mysql_bytes.specs.declared.spelling.Spelling.{Spelling}
use Rattle.mysql_bytes.specs.declared.spelling.Spelling.TheVariants.{Hexadecimal}
use Rattle.mysql_literals.specs.declared.as_sql.AsSqlError.{AsSqlError}
use Rattle.mysql_literals.specs.declared.as_sql.AsSqlError.TheVariants as as_sql_error
use Rattle.mysql_cells.specs.declared.value.Value.{Value}
use Rattle.mysql_cells.specs.declared.value.Value.TheVariants.{NULL, Bytes, Int, UInt, Float, Double, Date, Time}

-- A call appended a text, if there is one; where there is none it says that the value is a float
-- and leaves all as it was.
abbrev pub PutsSql : Option (List ℕ) → List ℕ → List ℕ → Result (Unit {0}) AsSqlError → Type 0
PutsSql (Some text) old new (Ok _) = new ≡ old ++ text
PutsSql (Some text) old new (Err e) = (e ≡ as_sql_error.Memory) × (take (length old) new ≡ old)
PutsSql None old new (Ok _) = ⊥
PutsSql None old new (Err e) = (e ≡ as_sql_error.Float) × (new ≡ old)

-- A call appended a literal, if there is one; where there is none it says that the value is a
-- float. After a refusal all is as it was.
abbrev pub PutsLiteral : Option (List ℕ) → List ℕ → List ℕ → Result (Unit {0}) AsSqlError → Type 0
PutsLiteral (Some text) old new (Ok _) = new ≡ old ++ text
PutsLiteral (Some text) old new (Err e) = (e ≡ as_sql_error.Memory) × (new ≡ old)
PutsLiteral None old new (Ok _) = ⊥
PutsLiteral None old new (Err e) = (e ≡ as_sql_error.Float) × (new ≡ old)

-- The SQL text of a value for a mode is in that mode and its spelling a literal of what the value
-- means, the sign of an all-zero time kept in both.
abbrev pub SqlIsLiteral : Value → Type 0
SqlIsLiteral value = (mode : Mode) (spelling : Spelling) (text : List ℕ) (content : Content) →
    spelled_sql mode.no_backslash_escapes spelling value ≡ Some text →
    plain_content value ≡ Some content → IsLiteral mode spelling text content

-- The literal that is bound for a value and a mode is in that mode and its spelling a literal of its
-- content.
abbrev pub HasLiteral : Value → Type 0
HasLiteral value = (mode : Mode) (spelling : Spelling) (text : List ℕ) (content : Content) →
    literal_of mode spelling value ≡ Some text →
    content_of value ≡ Some content → IsLiteral mode spelling text content

-- A byte of ASCII that no mode, no character set and no comment takes otherwise: none of the three
-- quotes, no backslash, no star and no slash.
abbrev pub IsSafeByte : ℕ → Type 0
IsSafeByte b = (b < 0x80) × (b ≢ single_quote) × (b ≢ double_quote) × (b ≢ backtick) × (b ≢ backslash) ×
    (b ≢ star) × (b ≢ slash)

-- dates, times and the empty byte string, which stand between quotes in hexadecimal spelling too
abbrev pub stands_in_quotes : Value → Bool
stands_in_quotes (Date year month day hour minute second micros) = true
stands_in_quotes (Time negative days hours minutes seconds micros) = true
stands_in_quotes (Bytes []) = true
stands_in_quotes _ = false

-- In hexadecimal spelling the literal of a value has safe bytes alone, but for the two quotes
-- around a date, a time and no bytes.
abbrev pub HexadecimalIsSafe : Value → Type 0
HexadecimalIsSafe value = (mode : Mode) (text : List ℕ) →
    literal_of mode Hexadecimal value ≡ Some text →
    ((stands_in_quotes value ≡ false) × AllByRecursion IsSafeByte text) ⊎
    ((stands_in_quotes value ≡ true) × (inside : List ℕ) × (text ≡ in_quotes inside) ×
    AllByRecursion IsSafeByte inside)

-- Hexadecimal spelling is the same for each mode.
abbrev pub OneHexadecimal : Type 0
OneHexadecimal = (value : Value) (mode other : Mode) →
    literal_of mode Hexadecimal value ≡ literal_of other Hexadecimal value

-- That holds of each value whose numbers fit their fields.
abbrev pub EachHexadecimalIsSafe : Type 0
EachHexadecimalIsSafe = (value : Value) → FitsFields value → HexadecimalIsSafe value

-- So do both that are said of literals.
abbrev pub EachSqlIsLiteral : Type 0
EachSqlIsLiteral = (value : Value) → FitsFields value → SqlIsLiteral value × HasLiteral value

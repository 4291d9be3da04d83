-- What the definitions of values exclude: their texts, their cells, and parameter sets that are made
-- of lists. MySQL Reference Manual, "Literal Values", "Server SQL Modes", "PREPARE Statement"; MySQL:
-- Client/Server Protocol, "Binary Protocol Value".
use Rattle.std.specs.Prelude.{◌≡◌, ◌^◌, pos, true, false, [], ◌∷◌, codes, Some, None, Ok, Vec}
use Rattle.std.specs.declared.alloc.Global.{Global}
use Rattle.mysql_cells.specs.Cells.{cell_at}
use Rattle.mysql_literals.specs.Literals.{in_quotes, literal_of, sql_of}
use Rattle.mysql_bytes.specs.declared.spelling.Spelling.{Spelling}
use Rattle.mysql_bytes.specs.declared.spelling.Spelling.TheVariants.{Hexadecimal, Quoted}
use Rattle.mysql_cells.specs.declared.value.Value.{Value}
use Rattle.mysql_cells.specs.declared.value.Value.TheVariants.{Bytes, Int, Time, UInt}
use Rattle.mysql_bytes.specs.declared.mode.Mode.{Mode}
use Rattle.mysql_convert.specs.Sets.{IsMadeOf, set_cause}
use Rattle.mysql_convert.specs.Sets.Parts.{ByName, InOrder}
use Rattle.mysql_values.specs.declared.params.Params.TheVariants.{Positional}
use Rattle.mysql_values.specs.declared.params.SetError.TheVariants.{Redefined, TooLong}

-- TEXTS

-- For a server in NO_BACKSLASH_ESCAPES a quote is doubled: `''''`. Excluded: a backslash before it,
-- behind which the literal ends there. MySQL Reference Manual, "String Literals", "Server SQL Modes".
abbrev pub QuotesAreDoubledWithoutEscapes : Type 0
QuotesAreDoubledWithoutEscapes = sql_of true (Bytes (0x27 ∷ [])) ≡ Some (0x27 ∷ 0x27 ∷ 0x27 ∷ 0x27 ∷ [])

-- For any other server a backslash stands before it: `'\''`. Excluded: a quote that is doubled there
-- too, which is a literal of the same content, and not the text that is promised.
-- MySQL Reference Manual, "String Literals".
abbrev pub QuotesAreEscapedElse : Type 0
QuotesAreEscapedElse = sql_of false (Bytes (0x27 ∷ [])) ≡ Some (0x27 ∷ 0x5c ∷ 0x27 ∷ 0x27 ∷ [])

-- In hexadecimal spelling no bytes are `''`. Excluded: `0x`, also behind an introducer, which is no
-- literal. MySQL Reference Manual, "Hexadecimal Literals", "Character Set Introducers".
abbrev pub NoBytesStandInQuotes : Type 0
NoBytesStandInQuotes = (mode : Mode) →
    literal_of mode Hexadecimal (Bytes []) ≡ Some (0x27 ∷ 0x27 ∷ [])

-- In it `1` is `_utf8mb4 0x31`. Excluded: `0x31`, which is the number 49 where a server wants one.
-- MySQL Reference Manual, "Hexadecimal Literals", "Character Set Introducers".
abbrev pub TextsAreNoNumbers : Type 0
TextsAreNoNumbers = (mode : Mode) →
    literal_of mode Hexadecimal (Bytes (0x31 ∷ [])) ≡ Some (codes "_utf8mb4 0x31")

-- Bytes that aren't UTF-8 are behind `_binary`. Excluded: `_utf8mb4` before them, for which a server
-- refuses the statement. MySQL Reference Manual, "Character Set Introducers".
abbrev pub OtherBytesAreBinary : Type 0
OtherBytesAreBinary = (mode : Mode) →
    literal_of mode Hexadecimal (Bytes (0xff ∷ [])) ≡ Some (codes "_binary 0xFF")

-- `*/` is `'*/'`, whatever stands around it. Excluded: one that a backslash parts, which is the same
-- content, and not the text that is promised. MySQL Reference Manual, "String Literals".
abbrev pub CommentsAreNotParted : Type 0
CommentsAreNotParted = (mode : Mode) →
    literal_of mode Quoted (Bytes (0x2a ∷ 0x2f ∷ [])) ≡ Some (in_quotes (0x2a ∷ 0x2f ∷ []))

-- A negative time of all zeros is bound as `'000:00:00'`. Excluded: one with its dash, which means
-- something else than an execution of it. MySQL Reference Manual, "The TIME Type".
abbrev pub ZeroTimesAreBoundWithoutSign : Type 0
ZeroTimesAreBoundWithoutSign = (mode : Mode) (spelling : Spelling) →
    literal_of mode spelling (Time true 0 0 0 0 0) ≡ Some (in_quotes (codes "000:00:00"))

-- CELLS

-- Eight bytes of a column without a sign (type 8, LONGLONG) are UInt from 2^63 on. Excluded: -2^63, the number
-- with a sign of the same bytes. MySQL: Client/Server Protocol, "Binary Protocol Value", "Column Definition Flags".
abbrev pub LargeNumbersStayPositive : Type 0
LargeNumbersStayPositive =
    cell_at 8 true (0 ∷ 0 ∷ 0 ∷ 0 ∷ 0 ∷ 0 ∷ 0 ∷ 0x80 ∷ []) ≡ Ok (UInt (2 ^ 63), [])

-- SETS

-- A list of 1 and 2 makes a set of 1 and 2. Excluded: its first value at each place.
-- MySQL Reference Manual, "PREPARE Statement" (parameter markers).
abbrev pub EachPlaceHasItsValue : Type 0
EachPlaceHasItsValue = (list : Vec Value Global) →
    IsMadeOf (InOrder (Some (Int (pos 1)) ∷ Some (Int (pos 2)) ∷ [])) (Positional list) →
    list.items ≡ Int (pos 1) ∷ Int (pos 2) ∷ []

-- Of two equal names no set is made, whichever their values are. Excluded: a set that keeps the
-- first of them, or the last. Names as placeholders are a form of client libraries.
abbrev pub EqualNamesAreRefused : Type 0
EqualNamesAreRefused = (first second : Value) →
    set_cause (ByName (([], Some first) ∷ ([], Some second) ∷ [])) ≡ Some (Redefined [])

-- Of a value that is too long (None) no set is made. Excluded: a set without its pair.
abbrev pub LongValuesAreRefused : Type 0
LongValuesAreRefused = set_cause (ByName (([], None) ∷ [])) ≡ Some (TooLong 0)

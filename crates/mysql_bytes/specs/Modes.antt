-- What a server tells of its SQL mode, and the collations in which quotes are no safe ends.
-- MySQL: Client/Server Protocol, "Status Flags" (SERVER_STATUS_flags_enum); MySQL Reference Manual,
-- "Server SQL Modes" (Combination SQL Modes), "Server Tracking of Client Session State", "Supported
-- Character Sets and Collations"; MariaDB Server Documentation, "OK_Packet" (server status),
-- "SQL_MODE", "Supported Character Sets and Collations".
use Rattle.std.specs.Prelude.{ℕ, Bool, not, ◌&&◌, ◌||◌, ◌==◌, nat_le, ◌-◌, if◌then◌else◌, List, [], ◌∷◌}
use Rattle.std.specs.Prelude.{codes, drop, length, map, take, Option, Some, None}
use Rattle.std.specs.Char.{is_ascii_whitespace}
use Rattle.std.specs.List.{list_all, list_any, prefix_len, slice_split, suffix_len}
use Rattle.std.specs.Str.{str_eq_ignore_ascii_case}
use Rattle.mysql_const.specs.FlagSets.{contains}
use Rattle.mysql_bytes.specs.declared.mode.Mode.{Mode}

-- MySQL: Client/Server Protocol, "Status Flags": SERVER_STATUS_NO_BACKSLASH_ESCAPES
abbrev pub no_backslash_escapes_bit : ℕ
no_backslash_escapes_bit = 0x200

-- MariaDB Server Documentation, "OK_Packet" (server status): SERVER_STATUS_ANSI_QUOTES
abbrev pub ansi_quotes_bit : ℕ
ansi_quotes_bit = 0x8000

-- the mode that a server's status tells
abbrev pub mode_of_status : ℕ → Mode
mode_of_status status = record {
  no_backslash_escapes = contains status no_backslash_escapes_bit;
  ansi_quotes = contains status ansi_quotes_bit;
}

-- a name is one of some, with its letters in any case
abbrev pub is_one_of : List (List ℕ) → List ℕ → Bool
is_one_of names name = list_any (str_eq_ignore_ascii_case name) names

-- The names of modes in which no backslash escapes.
-- MySQL Reference Manual, "Server SQL Modes".
abbrev pub modes_without_escapes : List (List ℕ)
modes_without_escapes = codes "NO_BACKSLASH_ESCAPES" ∷ []

-- The names of modes in which double quotes are those of identifiers: the mode itself, and each that
-- stands for it and others.
-- MySQL Reference Manual, "Server SQL Modes" (Combination SQL Modes); MariaDB Server Documentation, "SQL_MODE".
abbrev pub modes_with_ansi_quotes : List (List ℕ)
modes_with_ansi_quotes =
    codes "ANSI_QUOTES"
    ∷ codes "ANSI"
    ∷ codes "DB2"
    ∷ codes "MAXDB"
    ∷ codes "ORACLE"
    ∷ codes "POSTGRESQL"
    ∷ []

-- The names of modes that change nothing of where a string or an identifier ends: all others that
-- either manual lists, but for MSSQL, in which brackets quote an identifier too. Empty names count
-- among them, as those of an empty value.
-- MySQL Reference Manual, "Server SQL Modes", also of 5.7; MariaDB Server Documentation, "SQL_MODE".
abbrev pub modes_of_other_things : List (List ℕ)
modes_of_other_things =
    []
    ∷ codes "ALLOW_INVALID_DATES"
    ∷ codes "EMPTY_STRING_IS_NULL"
    ∷ codes "ERROR_FOR_DIVISION_BY_ZERO"
    ∷ codes "HIGH_NOT_PRECEDENCE"
    ∷ codes "IGNORE_BAD_TABLE_OPTIONS"
    ∷ codes "IGNORE_SPACE"
    ∷ codes "MYSQL323"
    ∷ codes "MYSQL40"
    ∷ codes "NO_AUTO_CREATE_USER"
    ∷ codes "NO_AUTO_VALUE_ON_ZERO"
    ∷ codes "NO_DIR_IN_CREATE"
    ∷ codes "NO_ENGINE_SUBSTITUTION"
    ∷ codes "NO_FIELD_OPTIONS"
    ∷ codes "NO_KEY_OPTIONS"
    ∷ codes "NO_TABLE_OPTIONS"
    ∷ codes "NO_UNSIGNED_SUBTRACTION"
    ∷ codes "NO_ZERO_DATE"
    ∷ codes "NO_ZERO_IN_DATE"
    ∷ codes "ONLY_FULL_GROUP_BY"
    ∷ codes "PAD_CHAR_TO_FULL_LENGTH"
    ∷ codes "PIPES_AS_CONCAT"
    ∷ codes "REAL_AS_FLOAT"
    ∷ codes "SIMULTANEOUS_ASSIGNMENT"
    ∷ codes "STRICT_ALL_TABLES"
    ∷ codes "STRICT_TRANS_TABLES"
    ∷ codes "TIME_ROUND_FRACTIONAL"
    ∷ codes "TIME_TRUNCATE_FRACTIONAL"
    ∷ codes "TRADITIONAL"
    ∷ []

-- a name tells how a text is read: it is one of those above, with its letters in any case
abbrev pub is_known_mode : List ℕ → Bool
is_known_mode name = is_one_of modes_without_escapes name || is_one_of modes_with_ansi_quotes name ||
    is_one_of modes_of_other_things name

-- bytes without the blanks that they begin with, and without those that they end with
abbrev pub behind_blanks : List ℕ → List ℕ
behind_blanks bytes = drop (prefix_len is_ascii_whitespace bytes) bytes

abbrev pub before_blanks : List ℕ → List ℕ
before_blanks bytes = take (length bytes - suffix_len is_ascii_whitespace bytes) bytes

-- bytes without the blanks around them
abbrev pub within_blanks : List ℕ → List ℕ
within_blanks bytes = before_blanks (behind_blanks bytes)

-- The names that the variable `sql_mode` holds stand between commas; blanks around a name don't count.
-- MySQL Reference Manual, "Server SQL Modes".
abbrev pub names_of_sql_mode : List ℕ → List (List ℕ)
names_of_sql_mode value = map within_blanks (slice_split (λ b. b == 0x2c) value)

-- the mode that names tell
abbrev pub mode_of_names : List (List ℕ) → Mode
mode_of_names names = record {
  no_backslash_escapes = list_any (is_one_of modes_without_escapes) names;
  ansi_quotes = list_any (is_one_of modes_with_ansi_quotes) names;
}

-- the mode that the value of the variable `sql_mode` tells; none where one of its names isn't known
abbrev pub mode_of_sql_mode : List ℕ → Option Mode
mode_of_sql_mode value =
    if list_all is_known_mode (names_of_sql_mode value) then Some (mode_of_names (names_of_sql_mode value)) else None

-- The ids of the collations of character sets of which some character has 27, 22, 5c or 60 behind
-- its first byte: of big5, sjis, gbk, cp932 and gb18030, and of gb2312 the binary one.
-- MySQL Reference Manual, "Supported Character Sets and Collations".
abbrev pub collations_that_hide_quotes : List ℕ
collations_that_hide_quotes =
    1 ∷ 84 ∷ 13 ∷ 88 ∷ 86 ∷ 28 ∷ 87 ∷ 95 ∷ 96 ∷ 248 ∷ 249 ∷ 250 ∷ []

-- an id is one of these
abbrev pub hides_quotes : ℕ → Bool
hides_quotes id = list_any (λ listed. listed == id) collations_that_hide_quotes

-- An id is none of these, and none that is greater by 1024, as those of collations without padding are.
-- MariaDB Server Documentation, "Supported Character Sets and Collations".
abbrev pub is_safe_to_quote : ℕ → Bool
is_safe_to_quote id = not (hides_quotes id || (nat_le 1024 id && hides_quotes (id - 1024)))

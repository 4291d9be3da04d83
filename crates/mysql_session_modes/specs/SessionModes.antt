-- What a client knows of its session's SQL mode and character set, by what was said so far. Nothing is
-- concluded from a status, a login or silence.
-- MySQL Reference Manual, "Server SQL Modes", "Connection Character Sets and Collations", "Server
-- Tracking of Client Session State", "Stored Objects" (what a routine changes is undone at its end);
-- MariaDB Server Documentation, "SET STATEMENT", "Supported Character Sets and Collations".
use Rattle.std.specs.Prelude.{◌≡◌, ℕ, Bool, false, not, ◌&&◌, ◌||◌, nat_lt, if◌then◌else◌}
use Rattle.std.specs.Prelude.{List, [], ◌∷◌, codes, Option, Some, None, is_some, unwrap_or}
use Rattle.std.specs.List.{list_all}
use Rattle.mysql_bytes.specs.Modes.{is_one_of}
use Rattle.mysql_bytes.specs.declared.mode.Mode.{Mode}
use Rattle.mysql_bytes.specs.declared.spelling.Spelling.{Spelling}
use Rattle.mysql_bytes.specs.declared.spelling.Spelling.TheVariants.{Hexadecimal, Quoted}
use Rattle.mysql_queries.specs.Sql.{default_mode}
use Rattle.mysql_queries.specs.Tokens.{HasTokens}
use Rattle.mysql_session_modes.specs.Texts.{ends_at_semicolon, first_word, has_word, is_one_statement}
use Rattle.mysql_session_modes.specs.declared.session_mode.SessionMode.{SessionMode}

-- WHAT IS KNOWN

abbrev pub unknown_mode : SessionMode
unknown_mode = record { mode = None; is_safe_set = None; counts = false }

-- The character sets in which quotes and backslashes are themselves: UTF-8, and each of one byte a
-- character that has ASCII's bytes for ASCII. All others aren't, known or not.
abbrev pub safe_sets : List (List ℕ)
safe_sets =
    codes "utf8mb4"
    ∷ codes "utf8mb3"
    ∷ codes "utf8"
    ∷ codes "ascii"
    ∷ codes "binary"
    ∷ codes "latin1"
    ∷ codes "latin2"
    ∷ codes "latin5"
    ∷ codes "latin7"
    ∷ codes "armscii8"
    ∷ codes "cp1250"
    ∷ codes "cp1251"
    ∷ codes "cp1256"
    ∷ codes "cp1257"
    ∷ codes "cp850"
    ∷ codes "cp852"
    ∷ codes "cp866"
    ∷ codes "dec8"
    ∷ codes "geostd8"
    ∷ codes "greek"
    ∷ codes "hebrew"
    ∷ codes "hp8"
    ∷ codes "keybcs2"
    ∷ codes "koi8r"
    ∷ codes "koi8u"
    ∷ codes "macce"
    ∷ codes "macroman"
    ∷ codes "tis620"
    ∷ []

abbrev pub is_safe_set : List ℕ → Bool
is_safe_set name = is_one_of safe_sets name

abbrev pub is_true : Option Bool → Bool
is_true None = false
is_true (Some b) = b

-- Both are known, and quotes are safe.
abbrev pub is_safe : SessionMode → Bool
is_safe s = is_some s.mode && is_true s.is_safe_set

-- How texts are to be spelled.
abbrev pub spelling_in : SessionMode → Spelling
spelling_in s = if is_safe s then Quoted else Hexadecimal

-- BEHIND A TEXT

-- First words of statements that change neither. What a routine, a trigger or a function that they call
-- changes is undone at its end.
abbrev pub keeping_words : List (List ℕ)
keeping_words =
    codes "SELECT"
    ∷ codes "INSERT"
    ∷ codes "UPDATE"
    ∷ codes "DELETE"
    ∷ codes "COMMIT"
    ∷ codes "ROLLBACK"
    ∷ codes "START"
    ∷ codes "REPLACE"
    ∷ codes "WITH"
    ∷ codes "CALL"
    ∷ codes "SHOW"
    ∷ codes "USE"
    ∷ codes "DO"
    ∷ codes "SAVEPOINT"
    ∷ codes "RELEASE"
    ∷ codes "EXPLAIN"
    ∷ codes "DESCRIBE"
    ∷ codes "DESC"
    ∷ codes "CREATE"
    ∷ codes "ALTER"
    ∷ codes "DROP"
    ∷ codes "TRUNCATE"
    ∷ codes "RENAME"
    ∷ codes "LOCK"
    ∷ codes "UNLOCK"
    ∷ codes "GRANT"
    ∷ codes "REVOKE"
    ∷ codes "ANALYZE"
    ∷ codes "OPTIMIZE"
    ∷ codes "CHECK"
    ∷ codes "VALUES"
    ∷ codes "TABLE"
    ∷ codes "KILL"
    ∷ codes "FLUSH"
    ∷ []

-- MariaDB's BEGIN NOT ATOMIC runs statements of any kind.
abbrev pub is_keeping : (word text : List ℕ) → Bool
is_keeping word text =
    is_one_of keeping_words word ||
    (is_one_of (codes "BEGIN" ∷ []) word && not (has_word (codes "not") text))

abbrev pub is_ascii : List ℕ → Bool
is_ascii text = list_all (λ b. nat_lt b 0x80) text

-- A SET whose words are all there as ASCII: of others a server may take a letter for one of ASCII's.
-- MariaDB's `SET STATEMENT` sets for one statement alone.
abbrev pub is_plain_set : (word text : List ℕ) → Bool
is_plain_set word text =
    is_one_of (codes "SET" ∷ []) word && (is_ascii text && not (has_word (codes "statement") text))

-- Behind it what it may set isn't known: servers run its first assignment where they refuse its second.
abbrev pub kept_by_set : List ℕ → SessionMode → SessionMode
kept_by_set text s = record s {
  mode = if has_word (codes "sql_mode") text then None else s.mode;
  is_safe_set =
      if has_word (codes "character") text || (has_word (codes "charset") text || has_word (codes "names") text)
      then None else s.is_safe_set;
}

-- Behind one statement with this first word.
abbrev pub kept_by : (word text : List ℕ) → SessionMode → SessionMode
kept_by word text s =
    if is_keeping word text then s
    else if is_plain_set word text then kept_by_set text s
    else unknown_mode

-- A text is one statement by its bytes alone, or by its tokens, where it is known how they are read.
abbrev pub is_one : List (List ℕ) → List ℕ → SessionMode → Bool
is_one tokens text s = ends_at_semicolon text || (is_safe s && is_one_statement tokens)

abbrev pub kept_behind : List (List ℕ) → List ℕ → SessionMode → SessionMode
kept_behind tokens text s =
    if is_one tokens text s then kept_by (first_word tokens) text s else unknown_mode

-- Behind a text of these tokens, whether it is answered or refused. What its reply tells counts, but
-- behind the word STATEMENT: MariaDB tells what a `SET STATEMENT` sets, and not that it ends.
unfoldable pub mode_behind_tokens : List (List ℕ) → List ℕ → SessionMode → SessionMode
mode_behind_tokens tokens text s =
    record (kept_behind tokens text s) { counts = not (has_word (codes "statement") text) }

-- The mode by which a text is read: the default one where none is known.
abbrev pub mode_read : SessionMode → Mode
mode_read s = unwrap_or s.mode default_mode

-- Behind a statement that is sent as this text.
abbrev pub BehindText : List ℕ → SessionMode → SessionMode → Type 0
BehindText text old new = (tokens : List (List ℕ)) × HasTokens (mode_read old) text tokens ×
    (new ≡ mode_behind_tokens tokens text old)

-- Which tokens of a query are placeholders, and when one stands alone: no neighbouring byte runs
-- together with a literal in its place, no string stands beside it, and servers agree about the query.
-- MySQL Reference Manual, "PREPARE Statement" (parameter markers), "String Literals" (strings placed
-- next to each other), "Comments", "Schema Object Names", "Stored Routine Syntax" and "CREATE LIBRARY
-- Statement" (dollar quotes); MariaDB Server Documentation, "Comment Syntax", "SQL_MODE" (MSSQL).
use Rattle.std.specs.Prelude.{ℕ, ◌+◌, ◌-◌, Bool, true, false, not, ◌&&◌, ◌||◌, ◌==◌, nat_le}
use Rattle.std.specs.Prelude.{if◌then◌else◌, List, [], ◌∷◌, drop, length, slice_index}
use Rattle.std.specs.List.{concat, prefix_len}
use Rattle.mysql_queries.specs.Tokens.{is_within, is_digit, is_quote, is_simple_byte, exclamation, dash, dollar, slash}
use Rattle.mysql_queries.specs.Tokens.{star, colon}
use Rattle.mysql_queries.specs.Tokens.{question, backslash, bracket, kind_of, quotes_identifier, Kind, Quoted}
use Rattle.mysql_queries.specs.Tokens.{LineComment}
use Rattle.mysql_queries.specs.Tokens.{BlockComment, Opening, Closing, Name, Mark, Plain}
use Rattle.mysql_bytes.specs.declared.mode.Mode.{Mode}

abbrev pub is_name_kind : Kind → Bool
is_name_kind Name = true
is_name_kind kind = false

abbrev pub is_mark_kind : Kind → Bool
is_mark_kind Mark = true
is_mark_kind kind = false

abbrev pub is_name : List ℕ → Bool
is_name token = is_name_kind (kind_of token)

-- a placeholder is a name or a mark
abbrev pub is_place : List ℕ → Bool
is_place token = is_name token || is_mark_kind (kind_of token)

-- the first one, if any, passes the test
abbrev pub begins : {X : Type 0} → (X → Bool) → List X → Bool
begins test [] = false
begins test (x ∷ xs) = test x

-- NEIGHBOURS

-- a byte that could run together with a literal: a letter, a digit, one of `_$.@:?\`, a quote, or from 0x80 on
abbrev pub is_joining : ℕ → Bool
is_joining b =
    is_within 0x30 0x39 b || is_within 0x41 0x5a b || is_within 0x61 0x7a b || (b == 0x5f) ||
    (b == 0x24) || (b == 0x2e) || (b == 0x40)
    || (b == colon) || (b == question) || (b == backslash) || is_quote b || nat_le 0x80 b

-- Whether the bytes from start up to end stand apart: the byte after them, if any, joins nothing,
-- nor does the byte before them, if any, which is no dash either.
abbrev pub stands_apart : List ℕ → ℕ → ℕ → Bool
stands_apart query start end =
    ((start == 0) || (not (is_joining (slice_index query (start - 1))) && not (slice_index query (start - 1) == dash)))
    && ((end == length query) || not (is_joining (slice_index query end)))

-- ADJACENT STRINGS

-- space, tab, line feed, vertical tab, form feed and carriage return
abbrev pub is_blank : ℕ → Bool
is_blank b = is_within 0x09 0x0d b || (b == 0x20)

-- a token of this kind stands for nothing: a comment, what begins or ends one whose inside is read, or
-- a blank
abbrev pub is_left_out_kind : Kind → List ℕ → Bool
is_left_out_kind LineComment token = true
is_left_out_kind BlockComment token = true
is_left_out_kind Opening token = true
is_left_out_kind Closing token = true
is_left_out_kind Plain token = begins is_blank token
is_left_out_kind kind token = false

abbrev pub is_left_out : List ℕ → Bool
is_left_out token = is_left_out_kind (kind_of token) token

-- a quoted token is a string, unless its quotes are those of identifiers
abbrev pub is_string_kind : Mode → Kind → Bool
is_string_kind mode (Quoted quote) = not (quotes_identifier mode quote)
is_string_kind mode kind = false

abbrev pub is_string : Mode → List ℕ → Bool
is_string mode token = is_string_kind mode (kind_of token)

-- the first token that stands for something is a string: a server joins a string before it to it
abbrev pub meets_string : Mode → List (List ℕ) → Bool
meets_string mode [] = false
meets_string mode (token ∷ tokens) = if is_left_out token then meets_string mode tokens else is_string mode token

-- WHERE SERVERS DISAGREE

-- a byte of a dollar quote's name: a letter, a digit, the underscore, or from 0x80 on
abbrev pub is_tag_byte : ℕ → Bool
is_tag_byte b = is_within 0x30 0x39 b || is_within 0x41 0x5a b || is_within 0x61 0x7a b || (b == 0x5f) || nat_le 0x80 b

-- A dollar quote begins behind a byte: `$`, a name or none, and `$`, where the first is no part of a
-- name. It is a string at MySQL, and no token at MariaDB.
abbrev pub begins_dollar_quote : ℕ → List ℕ → Bool
begins_dollar_quote last [] = false
begins_dollar_quote last (b ∷ after) =
    (b == dollar) && not (is_tag_byte last || (last == dollar)) &&
    begins (λ c. c == dollar) (drop (prefix_len is_tag_byte after) after)

-- `/*M!` comes first
abbrev pub begins_for_mariadb : List ℕ → Bool
begins_for_mariadb [] = false
begins_for_mariadb (a ∷ []) = false
begins_for_mariadb (a ∷ b ∷ []) = false
begins_for_mariadb (a ∷ b ∷ c ∷ []) = false
begins_for_mariadb (a ∷ b ∷ c ∷ d ∷ text) = (a == slash) && (b == star) && (c == 0x4d) && (d == exclamation)

-- Behind a byte, what begins here is read otherwise by some servers: `[, which begins an identifier
-- in MariaDB's MSSQL mode; a dollar quote; and `/*M!`, a comment at MySQL whose inside MariaDB runs.
abbrev pub is_read_otherwise : ℕ → List ℕ → Bool
is_read_otherwise last text =
    begins (λ b. b == bracket) text || begins_dollar_quote last text || begins_for_mariadb text

-- `/*!`, and its inside is read
abbrev pub is_opening_kind : Kind → Bool
is_opening_kind Opening = true
is_opening_kind kind = false

abbrev pub is_opening : List ℕ → Bool
is_opening token = is_opening_kind (kind_of token)

-- `*/`, before no star
abbrev pub is_closing_kind : Kind → Bool
is_closing_kind Closing = true
is_closing_kind kind = false

abbrev pub is_closing : List ℕ → Bool
is_closing token = is_closing_kind (kind_of token)

-- a placeholder or a simple byte
abbrev pub is_run_token : List ℕ → Bool
is_run_token token = is_place token || begins is_simple_byte token

-- What follows `/*!` is a comment without a version, which every server runs up to one end: no digit
-- first, placeholders and simple bytes, and `*/` behind them.
abbrev pub is_run : List (List ℕ) → Bool
is_run tokens = not (begins is_digit (concat tokens)) &&
    begins is_closing (drop (prefix_len is_run_token tokens) tokens)

-- the last byte, or the one before where there is none
abbrev pub last_of : ℕ → List ℕ → ℕ
last_of last [] = last
last_of last (b ∷ bytes) = last_of b bytes

-- Servers agree about a token between a byte and other tokens: it begins nothing that some read
-- otherwise, and where it is `/*!` it begins a comment without a version.
abbrev pub agree_at : ℕ → List ℕ → List (List ℕ) → Bool
agree_at last token behind =
    not (is_read_otherwise last (concat (token ∷ behind))) && (not (is_opening token) || is_run behind)

-- servers agree about each of the tokens that stand behind a byte
abbrev pub servers_agree : ℕ → List (List ℕ) → Bool
servers_agree last [] = true
servers_agree last (token ∷ tokens) = agree_at last token tokens && servers_agree (last_of last token) tokens

-- ALL THREE

-- A placeholder of a query from start up to end stands alone, between the tokens before it, of which
-- the last comes first, and those behind it, where servers agree about the query or not.
abbrev pub stands_alone : Mode → (agree : Bool) → List ℕ → ℕ → ℕ → (before behind : List (List ℕ)) → Bool
stands_alone mode agree query start end before behind =
    stands_apart query start end && not (begins is_opening before) &&
    not (meets_string mode before) && not (meets_string mode behind) && agree

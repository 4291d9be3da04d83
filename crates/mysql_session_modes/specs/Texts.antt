-- What a text tells of what it may change: its words, its first one, and whether it is one statement.
-- MySQL Reference Manual, "Comments", "Keywords and Reserved Words", "Server SQL Modes"; MySQL:
-- Client/Server Protocol, "Multi-Statement"; MariaDB Server Documentation, "Comment Syntax".
use Rattle.std.specs.Prelude.{ℕ, Bool, true, false, not, ◌+◌, ◌==◌, ◌&&◌, ◌||◌, nat_le, if◌then◌else◌}
use Rattle.std.specs.Prelude.{List, [], ◌∷◌, codes, drop, length, take}
use Rattle.std.specs.Char.{to_ascii_lowercase}
use Rattle.std.specs.List.{concat, prefix_len}
use Rattle.mysql_queries.specs.Alone.{begins, is_blank, is_tag_byte}
use Rattle.mysql_queries.specs.Tokens.{BlockComment, Kind, LineComment, Opening, Plain, dollar, kind_of}

-- WORDS

-- A text goes on with a word, its letters in any case; the word is given in small ones.
unfoldable pub is_word_at : List ℕ → List ℕ → Bool
is_word_at [] text = true
is_word_at (letter ∷ word) [] = false
is_word_at (letter ∷ word) (byte ∷ text) = (to_ascii_lowercase byte == letter) && is_word_at word text

-- A word stands in a text, wherever that is.
unfoldable pub has_word : List ℕ → List ℕ → Bool
has_word word [] = false
has_word word (byte ∷ text) = is_word_at word (byte ∷ text) || has_word word text

-- WHAT IS LEFT OUT

-- Some servers run what stands in a comment that begins with `/*!` or `/*M!`.
abbrev pub some_run : List ℕ → Bool
some_run token = is_word_at (codes "/*!") token || is_word_at (codes "/*m!") token

-- Each server leaves out blanks, and comments that none of them runs.
abbrev pub is_skipped_kind : Kind → List ℕ → Bool
is_skipped_kind LineComment token = true
is_skipped_kind BlockComment token = not (some_run token)
is_skipped_kind Plain token = begins is_blank token
is_skipped_kind kind token = false

abbrev pub is_skipped : List ℕ → Bool
is_skipped token = is_skipped_kind (kind_of token) token

-- The first token that stands for something, and all behind it.
abbrev pub behind_skipped : List (List ℕ) → List (List ℕ)
behind_skipped tokens = drop (prefix_len is_skipped tokens) tokens

-- THE FIRST WORD

-- a letter, a digit, the underscore, the dollar sign, or from 0x80 on
abbrev pub is_word_byte : ℕ → Bool
is_word_byte b = is_tag_byte b || (b == dollar)

abbrev pub word_of : List ℕ → List ℕ
word_of text = take (prefix_len is_word_byte text) text

-- The word that a text of these tokens begins with, behind what is left out.
abbrev pub first_word : List (List ℕ) → List ℕ
first_word tokens = word_of (concat (behind_skipped tokens))

-- ONE STATEMENT

abbrev pub semicolon : ℕ
semicolon = 0x3b

-- The first `;` of a text is its last byte, or there is none: no mode makes two statements of it.
abbrev pub ends_at_semicolon : List ℕ → Bool
ends_at_semicolon text = nat_le (length text) (prefix_len (λ b. not (b == semicolon)) text + 1)

-- a `;` outside of strings, quoted identifiers and comments
abbrev pub is_semicolon_kind : Kind → List ℕ → Bool
is_semicolon_kind Plain token = begins (λ b. b == semicolon) token
is_semicolon_kind kind token = false

abbrev pub is_semicolon : List ℕ → Bool
is_semicolon token = is_semicolon_kind (kind_of token) token

-- Servers may disagree about all that follows a comment that some of them run, or a dollar sign, which
-- may begin a string.
abbrev pub is_doubtful_kind : Kind → List ℕ → Bool
is_doubtful_kind Opening token = true
is_doubtful_kind BlockComment token = some_run token
is_doubtful_kind Plain token = begins (λ b. b == dollar) token
is_doubtful_kind kind token = false

abbrev pub is_doubtful : List ℕ → Bool
is_doubtful token = is_doubtful_kind (kind_of token) token

-- Tokens of one statement: behind the first `;` nothing follows but what is left out, and servers agree
-- about where it stands.
abbrev pub is_one_statement : List (List ℕ) → Bool
is_one_statement [] = true
is_one_statement (token ∷ tokens) =
    if is_semicolon token then length (behind_skipped tokens) == 0
    else not (is_doubtful token) && is_one_statement tokens

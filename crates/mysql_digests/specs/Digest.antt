-- The digest of a statement: its text with the values taken out, without comments, and with one
-- space between what stands in it, as far as servers agree about its tokens. MySQL Reference
-- Manual, "Performance Schema Statement Digests and Sampling"; "Literal Values", "Character Set
-- Introducers", "Comments" (what values and comments are).
use Rattle.std.specs.Prelude.{◌≡◌, ℕ, ◌-◌, Bool, true, false, ◌&&◌, ◌||◌, ◌==◌, if◌then◌else◌, List, [], ◌∷◌, ◌++◌}
use Rattle.std.specs.Prelude.{codes, length, map, take}
use Rattle.std.specs.List.{concat}
use Rattle.std.specs.Char.{to_ascii_lowercase}
use Rattle.std.specs.Str.{str_eq_ignore_ascii_case}
use Rattle.mysql_queries.specs.Literals.{is_digit}
use Rattle.mysql_queries.specs.Alone.{is_opening, is_read_otherwise, last_of}
use Rattle.mysql_queries.specs.Queries.{is_joining}
use Rattle.mysql_queries.specs.Scanning.{is_plain}
use Rattle.mysql_queries.specs.Tokens.{is_within, quotes_identifier, kind_of, Kind, Quoted, LineComment, BlockComment}
use Rattle.mysql_queries.specs.Tokens.{Opening, Closing, Name, Mark, Plain, HasTokens, dash}
use Rattle.mysql_bytes.specs.declared.mode.Mode.{Mode}
use Rattle.mysql_digests.specs.declared.left_out.Before.{Before}
use Rattle.mysql_digests.specs.declared.left_out.Before.TheVariants.{Apart, Joined, Exponent, Power}

abbrev pub space : ℕ
space = 0x20

abbrev pub opening : ℕ
opening = 0x28

abbrev pub closing : ℕ
closing = 0x29

abbrev pub comma : ℕ
comma = 0x2c

abbrev pub dot : ℕ
dot = 0x2e

-- space, tab, line feed, vertical tab, form feed and carriage return
abbrev pub is_blank : ℕ → Bool
is_blank b = is_within 0x09 0x0d b || (b == space)

-- a byte of a word: a letter, a digit, one of `_$.@\`, or from 0x80 on
abbrev pub is_word_byte : ℕ → Bool
is_word_byte b = is_joining b && is_plain b

-- a byte of an operator that has several: one of `<=>!|&`
abbrev pub is_operator_byte : ℕ → Bool
is_operator_byte b = (b == 0x3c) || (b == 0x3d) || (b == 0x3e) || (b == 0x21) || (b == 0x7c) || (b == 0x26)

-- What stands in a text: nothing that counts, a value by its token, a word, an operator of several
-- bytes, a quoted identifier, or another byte.
pub data Lexeme : Type 0 where
  Gap : Lexeme
  Value : Lexeme
  Word : (bytes : List ℕ) → Lexeme
  Operator : (bytes : List ℕ) → Lexeme
  Identifier : (bytes : List ℕ) → Lexeme
  Byte : (b : ℕ) → Lexeme

-- a byte of a word before what follows, which it joins if that is a word
abbrev pub with_word_byte : ℕ → List Lexeme → List Lexeme
with_word_byte b (Word bytes ∷ lexemes) = Word (b ∷ bytes) ∷ lexemes
with_word_byte b lexemes = Word (b ∷ []) ∷ lexemes

-- a byte of an operator before what follows, which it joins if that is an operator
abbrev pub with_operator_byte : ℕ → List Lexeme → List Lexeme
with_operator_byte b (Operator bytes ∷ lexemes) = Operator (b ∷ bytes) ∷ lexemes
with_operator_byte b lexemes = Operator (b ∷ []) ∷ lexemes

-- a byte that is a token, before what follows
abbrev pub with_byte : ℕ → List Lexeme → List Lexeme
with_byte b lexemes =
    if is_word_byte b then with_word_byte b lexemes
    else (if is_operator_byte b then with_operator_byte b lexemes
    else (if is_blank b then Gap ∷ lexemes
    else Byte b ∷ lexemes))

abbrev pub with_bytes : List ℕ → List Lexeme → List Lexeme
with_bytes [] lexemes = lexemes
with_bytes (b ∷ bytes) lexemes = with_byte b (with_bytes bytes lexemes)

-- A token of a kind, before what follows. A string and a placeholder are values. Comments don't
-- count, nor does what begins or ends one whose inside is read.
abbrev pub with_token : Mode → Kind → List ℕ → List Lexeme → List Lexeme
with_token mode (Quoted quote) token lexemes =
    (if quotes_identifier mode quote then Identifier token else Value) ∷ lexemes
with_token mode LineComment token lexemes = Gap ∷ lexemes
with_token mode BlockComment token lexemes = Gap ∷ lexemes
with_token mode Opening token lexemes = Gap ∷ lexemes
with_token mode Closing token lexemes = Gap ∷ lexemes
with_token mode Name token lexemes = Value ∷ lexemes
with_token mode Mark token lexemes = Value ∷ lexemes
with_token mode Plain token lexemes = with_bytes token lexemes

-- what stands in a text with these tokens
abbrev pub lexemes_of : Mode → List (List ℕ) → List Lexeme
lexemes_of mode [] = []
lexemes_of mode (token ∷ tokens) = with_token mode (kind_of token) token (lexemes_of mode tokens)

-- Servers disagree about a token behind a byte, before others: it begins what some read otherwise, or
-- a comment whose inside is read.
abbrev pub is_disputed : ℕ → List ℕ → List (List ℕ) → Bool
is_disputed last token behind = is_read_otherwise last (concat (token ∷ behind)) || is_opening token

-- the tokens before the first about which servers disagree, behind a byte
abbrev pub agreed : ℕ → List (List ℕ) → List (List ℕ)
agreed last [] = []
agreed last (token ∷ tokens) =
    if is_disputed last token tokens then [] else token ∷ agreed (last_of last token) tokens

-- whether there is such a one
abbrev pub is_cut : ℕ → List (List ℕ) → Bool
is_cut last [] = false
is_cut last (token ∷ tokens) = is_disputed last token tokens || is_cut (last_of last token) tokens

-- a digit comes first, or a dot and a digit
abbrev pub begins_number : List ℕ → Bool
begins_number [] = false
begins_number (a ∷ []) = is_digit a
begins_number (a ∷ b ∷ bytes) = is_digit a || ((a == dot) && is_digit b)

-- a word that is a value: one that begins as a number, or NULL, TRUE or FALSE, in any case
abbrev pub is_value : List ℕ → Bool
is_value word =
    begins_number word || str_eq_ignore_ascii_case word (codes "null") ||
    str_eq_ignore_ascii_case word (codes "true") || str_eq_ignore_ascii_case word (codes "false")

-- a word that says how the value behind it is read, in any case
abbrev pub is_introducer : List ℕ → Bool
is_introducer word =
    str_eq_ignore_ascii_case word (codes "_utf8mb4") || str_eq_ignore_ascii_case word (codes "_binary")

-- What a digest is made of: text that is kept, three marks that are, values, a row of values, and rows.
pub data Piece : Type 0 where
  Text : (bytes : List ℕ) → Piece
  Comma : Piece
  Open : Piece
  Close : Piece
  Values : (many : Bool) → Piece
  Row : (of_many : Bool) → Piece
  Rows : (of_many : Bool) → Piece

-- its text
abbrev pub text_of : Piece → List ℕ
text_of (Text bytes) = bytes
text_of Comma = comma ∷ []
text_of Open = opening ∷ []
text_of Close = closing ∷ []
text_of (Values false) = codes "?"
text_of (Values true) = codes "?, ..."
text_of (Row false) = codes "(?)"
text_of (Row true) = codes "(...)"
text_of (Rows false) = codes "(?) /* , ... */"
text_of (Rows true) = codes "(...) /* , ... */"

-- a value behind pieces, the last piece first: behind values and a comma it is one more of them
abbrev pub with_value : List Piece → List Piece
with_value (Comma ∷ Values many ∷ pieces) = Values true ∷ pieces
with_value pieces = Values false ∷ pieces

-- a row behind pieces: behind rows and a comma it is one more of them
abbrev pub with_row : (of_many : Bool) → List Piece → List Piece
with_row of_many (Comma ∷ Row others ∷ pieces) = Rows others ∷ pieces
with_row of_many (Comma ∷ Rows others ∷ pieces) = Rows others ∷ pieces
with_row of_many pieces = Row of_many ∷ pieces

-- what closes: behind what opens and values it makes a row of them
abbrev pub with_close : List Piece → List Piece
with_close (Values many ∷ Open ∷ pieces) = with_row many pieces
with_close pieces = Close ∷ pieces

-- A word behind pieces. An introducer is left out, and others are in lower case.
abbrev pub with_word : List ℕ → List Piece → List Piece
with_word word pieces =
    if is_value word then with_value pieces
    else (if is_introducer word then pieces else Text (map to_ascii_lowercase word) ∷ pieces)

-- a byte behind pieces
abbrev pub with_mark : ℕ → List Piece → List Piece
with_mark b pieces =
    if b == comma then Comma ∷ pieces
    else (if b == opening then Open ∷ pieces
    else (if b == closing then with_close pieces
    else Text (b ∷ []) ∷ pieces))

-- what stands in a text, behind pieces
abbrev pub with_lexeme : Lexeme → List Piece → List Piece
with_lexeme Gap pieces = pieces
with_lexeme Value pieces = with_value pieces
with_lexeme (Word bytes) pieces = with_word bytes pieces
with_lexeme (Operator bytes) pieces = Text bytes ∷ pieces
with_lexeme (Identifier bytes) pieces = Text bytes ∷ pieces
with_lexeme (Byte b) pieces = with_mark b pieces

-- a word comes first that begins with a digit
abbrev pub digit_follows : List Lexeme → Bool
digit_follows (Word (b ∷ bytes) ∷ lexemes) = is_digit b
digit_follows lexemes = false

-- a value comes first that is no word
abbrev pub value_follows : List Lexeme → Bool
value_follows (Value ∷ lexemes) = true
value_follows lexemes = false

-- one of `xbn`, in any case, with which a string in hexadecimal, of bits or of national characters begins
abbrev pub is_string_prefix : List ℕ → Bool
is_string_prefix [] = false
is_string_prefix (b ∷ []) =
    (b == 0x78) || (b == 0x58) || (b == 0x62) || (b == 0x42) || (b == 0x6e) || (b == 0x4e)
is_string_prefix (b ∷ c ∷ bytes) = false

-- digits and dots, and an `e` behind them, in any case
abbrev pub ends_in_e : List ℕ → Bool
ends_in_e [] = false
ends_in_e (b ∷ []) = (b == 0x65) || (b == 0x45)
ends_in_e (b ∷ c ∷ bytes) = (is_digit b || (b == dot)) && ends_in_e (c ∷ bytes)

-- a number up to the sign of its exponent
abbrev pub awaits_exponent : List ℕ → Bool
awaits_exponent word = begins_number word && ends_in_e word

-- a dash may be a sign here
abbrev pub may_sign : Before → Bool
may_sign Apart = true
may_sign Joined = false
may_sign Exponent = true
may_sign Power = false

abbrev pub is_exponent : Before → Bool
is_exponent Apart = false
is_exponent Joined = false
is_exponent Exponent = true
is_exponent Power = false

abbrev pub is_power : Before → Bool
is_power Apart = false
is_power Joined = false
is_power Exponent = false
is_power Power = true

-- What stands in a text is left out if it is part of a value beside it: the sign of a number or of
-- its exponent, the digits behind that, and what a string begins with.
abbrev pub is_left_out : Before → Lexeme → List Lexeme → Bool
is_left_out before Gap lexemes = false
is_left_out before Value lexemes = false
is_left_out before (Word bytes) lexemes = is_power before || (is_string_prefix bytes && value_follows lexemes)
is_left_out before (Operator bytes) lexemes = false
is_left_out before (Identifier bytes) lexemes = false
is_left_out before (Byte b) lexemes = may_sign before && (b == dash) && digit_follows lexemes

-- what the next one has before it
abbrev pub before_next : Before → Lexeme → List Lexeme → Before
before_next before Gap lexemes = Apart
before_next before Value lexemes = Joined
before_next before (Word bytes) lexemes = if awaits_exponent bytes then Exponent else Joined
before_next before (Operator bytes) lexemes = Apart
before_next before (Identifier bytes) lexemes = Joined
before_next before (Byte b) lexemes =
    if is_exponent before && (b == dash) && digit_follows lexemes then Power
    else (if is_joining b then Joined else Apart)

-- the pieces of what stands in a text, behind these
abbrev pub pieces_behind : Before → List Piece → List Lexeme → List Piece
pieces_behind before pieces [] = pieces
pieces_behind before pieces (lexeme ∷ lexemes) =
    pieces_behind (before_next before lexeme lexemes)
    (if is_left_out before lexeme lexemes then pieces else with_lexeme lexeme pieces) lexemes

-- the texts of pieces in order, with a space behind each
abbrev pub with_spaces : List Piece → List ℕ
with_spaces [] = []
with_spaces (piece ∷ pieces) = with_spaces pieces ++ (text_of piece ++ space ∷ [])

-- bytes without the last
abbrev pub without_last : List ℕ → List ℕ
without_last bytes = take (length bytes - 1) bytes

-- the mark that stands for all from the first token on about which servers disagree
abbrev pub rest_mark : List ℕ
rest_mark = codes "/* ... */"

-- that mark behind pieces, if something is left out
abbrev pub with_rest : Bool → List Piece → List Piece
with_rest true pieces = Text rest_mark ∷ pieces
with_rest false pieces = pieces

-- The digest of a text with these tokens: the texts of its pieces, with a space between each two. It
-- goes up to the first token about which servers disagree; a mark stands for all that follows.
abbrev pub digest_of : Mode → List (List ℕ) → List ℕ
digest_of mode tokens =
    without_last (with_spaces
    (with_rest (is_cut 0 tokens) (pieces_behind Apart [] (lexemes_of mode (agreed 0 tokens)))))

-- the bytes are the digest of the text, as a server in the mode reads it
abbrev pub IsDigest : Mode → List ℕ → List ℕ → Type 0
IsDigest mode text digest =
    (tokens : List (List ℕ)) × HasTokens mode text tokens × (digest ≡ digest_of mode tokens)

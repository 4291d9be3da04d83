-- What the code finds at the front of a text, as the definitions have it.
-- MySQL Reference Manual, "Comments", "String Literals", "Schema Object Names".
use Rattle.std.specs.Prelude.{◌≡◌, ◌⊎◌, ℕ, Bool, true, false, not, ◌||◌, List, [], ◌∷◌}
use Rattle.mysql_queries.specs.Literals.{is_digit}
use Rattle.mysql_queries.specs.Tokens.{HasTokens, Kind, Quoted, LineComment, BlockComment, Opening, Closing, Name, Mark}
use Rattle.mysql_queries.specs.Tokens.{Plain, kind_of}
use Rattle.mysql_queries.specs.Tokens.{quotes_identifier}
use Rattle.mysql_bytes.specs.declared.mode.Mode.{Mode}
use Rattle.mysql_queries.specs.Alone.{begins_dollar_quote, is_opening_kind, is_read_otherwise}
use Rattle.mysql_queries.specs.LiteralRuns.{EndsBefore}
use Rattle.mysql_digests.specs.Digest.{Lexeme, agreed, is_cut, is_word_byte, lexemes_of}
use Rattle.mysql_digests.specs.Digest as digest
use Rattle.mysql_digests.specs.declared.lexemes.Found.{Found}
use Rattle.mysql_digests.specs.declared.lexemes.Found.TheVariants.{Gap, Value, Word, Operator, Identifier, Byte}

-- what was found, with its bytes
abbrev pub lexeme_view : Found → List ℕ → Lexeme
lexeme_view Gap bytes = digest.Gap
lexeme_view Value bytes = digest.Value
lexeme_view Word bytes = digest.Word bytes
lexeme_view Operator bytes = digest.Operator bytes
lexeme_view Identifier bytes = digest.Identifier bytes
lexeme_view (Byte b) bytes = digest.Byte b

-- The text, behind a byte, begins with this, before the rest, which is behind another byte: whatever
-- tokens the rest has, it and they are what the text has, as far as servers agree.
abbrev pub BeginsWith : Mode → ℕ → List ℕ → Lexeme → ℕ → List ℕ → Type 0
BeginsWith mode last text lexeme next rest = (tokens : List (List ℕ)) → HasTokens mode rest tokens →
    (all : List (List ℕ)) × HasTokens mode text all ×
    (lexemes_of mode (agreed last all) ≡ lexeme ∷ lexemes_of mode (agreed next tokens)) ×
    (is_cut last all ≡ is_cut next tokens)

-- servers disagree about what begins a text, behind a byte
abbrev pub begins_disputed : ℕ → List ℕ → Bool
begins_disputed last text = is_read_otherwise last text || is_opening_kind (kind_of text)

-- a word ends behind a byte, before a text: no byte of a word comes first, or a dollar quote begins there
abbrev pub EndsWord : ℕ → List ℕ → Type 0
EndsWord last rest = EndsBefore is_word_byte rest ⊎ (begins_dollar_quote last rest ≡ true)

-- a digit comes first
abbrev pub first_is_digit : List ℕ → Bool
first_is_digit [] = false
first_is_digit (b ∷ bytes) = is_digit b

-- a token of the kind is a value
abbrev pub is_value_kind : Mode → Kind → Bool
is_value_kind mode (Quoted quote) = not (quotes_identifier mode quote)
is_value_kind mode LineComment = false
is_value_kind mode BlockComment = false
is_value_kind mode Opening = false
is_value_kind mode Closing = false
is_value_kind mode Name = true
is_value_kind mode Mark = true
is_value_kind mode Plain = false

-- a value comes first that is no word
abbrev pub first_is_value : Mode → List ℕ → Bool
first_is_value mode [] = false
first_is_value mode (b ∷ bytes) = is_value_kind mode (kind_of (b ∷ bytes))

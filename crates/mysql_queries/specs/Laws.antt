-- The laws of tokens, literals and queries, over any mode of the server that reads them and any
-- spelling of byte strings. MySQL Reference Manual, "Literal Values", "Character Set Introducers" and
-- "Comments".
use Rattle.std.specs.List.{AllByRecursion, concat}
use Rattle.mysql_queries.specs.Alone.{begins, is_opening, servers_agree}
use Rattle.mysql_queries.specs.Servers.{Server, HasTokensAt, tokens_at}
use Rattle.mysql_queries.specs.Written.{quoted, in_hexadecimal, introduced}
use Rattle.std.specs.Prelude.{◌≡◌, ◌≢◌, ◌⊎◌, ◌<◌, ◌++◌, ℕ, Bool, true, false, length, List, [], ◌∷◌, codes, negsuc}
use Rattle.mysql_queries.specs.Tokens.{HasTokens, is_digit, backslash, single_quote}
use Rattle.mysql_queries.specs.Literals.{IsLiteral}
use Rattle.mysql_bytes.specs.declared.content.Content.{Content}
use Rattle.mysql_bytes.specs.declared.content.Content.TheVariants.{Null, Number, Bytes}
use Rattle.mysql_queries.specs.Queries.{Slices, Lexes, AllAlone, AreLiterals, HasPlaces, InOrder, interleaved}
use Rattle.mysql_queries.specs.Queries.{is_joining, pieces_of, places_of, slices_between}
use Rattle.mysql_queries.specs.Parsed.{names_of, names_at}
use Rattle.mysql_queries.specs.LiteralRuns.{EndsBefore, IsLiteralRun}
use Rattle.mysql_queries.specs.Sql.{Sql, default_mode}
use Rattle.mysql_queries.specs.declared.placeholders.Place.{Place}
use Rattle.mysql_bytes.specs.declared.mode.Mode.{Mode}
use Rattle.mysql_bytes.specs.declared.spelling.Spelling.{Spelling}
use Rattle.mysql_bytes.specs.declared.spelling.Spelling.TheVariants.{Hexadecimal, Quoted}

-- Each text has tokens.
abbrev pub SomeTokens : Type 0
SomeTokens = (mode : Mode) (text : List ℕ) → (tokens : List (List ℕ)) × HasTokens mode text tokens

-- It has one list of them.
abbrev pub OneTokens : Type 0
OneTokens = (mode : Mode) (text : List ℕ) (tokens others : List (List ℕ)) → HasTokens mode text tokens →
    HasTokens mode text others → tokens ≡ others

-- A literal has at most one content.
abbrev pub OneContent : Type 0
OneContent = (mode : Mode) (spelling : Spelling) (literal : List ℕ) (content other : Content) →
    IsLiteral mode spelling literal content → IsLiteral mode spelling literal other → content ≡ other

-- A text that joins the tokens of a query and of literals is the query's pieces with literals between.
abbrev pub LexedIsSliced : Type 0
LexedIsSliced = (query : Sql) (text : List ℕ) (contents : List Content) → Lexes query text contents →
    Slices query text contents

-- Where each placeholder stands alone, no token crosses an end of a literal, however it is spelled.
abbrev pub SlicedIsLexed : Type 0
SlicedIsLexed = (query : Sql) (text : List ℕ) (contents : List Content) → AllAlone query →
    Slices query text contents → Lexes query text contents

-- Where each placeholder stands alone, a text is the query's pieces with literals of one list of
-- contents between, at most.
abbrev pub OneReading : Type 0
OneReading = (query : Sql) (text : List ℕ) (contents others : List Content) → AllAlone query →
    Slices query text contents → Slices query text others → contents ≡ others

-- A query has one list of placeholders.
abbrev pub OnePlaces : Type 0
OnePlaces = (query : Sql) (places others : List Place) → HasPlaces query places →
    HasPlaces query others → places ≡ others

-- The pieces of a query are its slices before, between and after its placeholders.
abbrev pub PiecesAreSlices : Type 0
PiecesAreSlices = (query : Sql) (tokens : List (List ℕ)) → HasTokens query.mode query.text tokens →
    pieces_of tokens ≡ slices_between query.text 0 (places_of query tokens)

-- The names of a query are its slices at the placeholders that are names, without their colons.
abbrev pub NamesAreSlices : Type 0
NamesAreSlices = (query : Sql) (tokens : List (List ℕ)) → HasTokens query.mode query.text tokens →
    names_of tokens ≡ names_at query.text (places_of query tokens)

-- The placeholders of a query stand one after another.
abbrev pub PlacesInOrder : Type 0
PlacesInOrder = (query : Sql) (places : List Place) → HasPlaces query places → InOrder query.text 0 places

-- Where each placeholder stands alone, the query with a literal in each place is read as the
-- literals' contents, in both ways.
abbrev pub FilledIsRead : Type 0
FilledIsRead = (query : Sql) (places : List Place) (literals : List (List ℕ))
    (contents : List Content) → HasPlaces query places →
    AllByRecursion (λ place. place.alone ≡ true) places
    → length literals ≡ length places → AreLiterals query.mode query.spelling literals contents
    → Slices query (interleaved (slices_between query.text 0 places) literals) contents ×
    Lexes query (interleaved (slices_between query.text 0 places) literals) contents

-- Where each placeholder stands alone, a text is read as contents or as none.
abbrev pub TextIsDecided : Type 0
TextIsDecided = (query : Sql) → AllAlone query → (text : List ℕ) →
    ((contents : List Content) × Slices query text contents) ⊎
    ((contents : List Content) → Slices query text contents → ⊥)

-- A literal before a byte that joins nothing is the run that is read there.
abbrev pub LiteralIsRun : Type 0
LiteralIsRun = (mode : Mode) (spelling : Spelling) (literal rest : List ℕ) (content : Content) →
    IsLiteral mode spelling literal content → EndsBefore is_joining rest → IsLiteralRun mode spelling literal rest

-- Literals of each kind that a writer need not choose, and some that are none: an introducer is one
-- of two, in lower case, has one blank, and is read in hexadecimal spelling alone.
pub record WorkedSpellings : Type 0 where
  pub null : (mode : Mode) (spelling : Spelling) → IsLiteral mode spelling (codes "nUlL") Null
  pub zeros : (mode : Mode) (spelling : Spelling) → IsLiteral mode spelling (codes "-007") (Number (negsuc 6))
  pub hexadecimal : (mode : Mode) (spelling : Spelling) →
      IsLiteral mode spelling (codes "0x4a6B") (Bytes (0x4a ∷ 0x6b ∷ []))
  pub text : (mode : Mode) → IsLiteral mode Hexadecimal (codes "_utf8mb4 0x41") (Bytes (0x41 ∷ []))
  pub binary : (mode : Mode) → IsLiteral mode Hexadecimal (codes "_binary 0xfF31") (Bytes (0xff ∷ 0x31 ∷ []))
  pub quotes : (spelling : Spelling) → IsLiteral default_mode spelling (0x27 ∷ 0x61 ∷ 0x27 ∷
      0x27 ∷ 0x62 ∷ 0x5c ∷ 0x78 ∷ 0x27 ∷ []) (Bytes (0x61 ∷ 0x27 ∷ 0x62 ∷ 0x78 ∷ []))
  pub backslash : (spelling : Spelling) (ansi_quotes : Bool) →
      IsLiteral (record { no_backslash_escapes = true; ansi_quotes = ansi_quotes }) spelling
      (0x27 ∷ 0x5c ∷ 0x27 ∷ []) (Bytes (0x5c ∷ []))
  pub plus : (mode : Mode) (spelling : Spelling) (content : Content) →
      IsLiteral mode spelling (codes "+5") content → ⊥
  pub odd : (mode : Mode) (spelling : Spelling) (content : Content) →
      IsLiteral mode spelling (codes "0x4") content → ⊥
  pub quoted : (mode : Mode) (content : Content) → IsLiteral mode Quoted (codes "_utf8mb4 0x41") content → ⊥
  pub letters : (mode : Mode) (content : Content) → IsLiteral mode Hexadecimal (codes "_UTF8MB4 0x41") content → ⊥
  pub blanks : (mode : Mode) (content : Content) → IsLiteral mode Hexadecimal (codes "_utf8mb4  0x41") content → ⊥
  pub alone : (mode : Mode) (content : Content) → IsLiteral mode Hexadecimal (codes "_binary 0x") content → ⊥

-- What is read at the front of a text is one run and one content.
abbrev pub OneRead : Type 0
OneRead = (mode : Mode) (spelling : Spelling) (run rest other after : List ℕ) (content another : Content) →
    run ++ rest ≡ other ++ after → IsLiteralRun mode spelling run rest → IsLiteral mode spelling run content →
    IsLiteralRun mode spelling other after → IsLiteral mode spelling other another →
    (run ≡ other) × (content ≡ another)

-- What a writer makes of bytes for a mode is a literal of them in it.
pub record WrittenIsRead : Type 0 where
  -- in quotes
  pub quotes : (mode : Mode) (spelling : Spelling) (bytes : List ℕ) →
      IsLiteral mode spelling (quoted mode.no_backslash_escapes bytes) (Bytes bytes)
  -- in hexadecimal, where they are not none
  pub digits : (mode : Mode) (spelling : Spelling) (bytes : List ℕ) → AllByRecursion (λ b. b < 256) bytes →
      bytes ≢ [] → IsLiteral mode spelling (in_hexadecimal bytes) (Bytes bytes)
  -- behind an introducer, in the spelling in which it is read
  pub introducers : (mode : Mode) (bytes : List ℕ) → AllByRecursion (λ b. b < 256) bytes →
      bytes ≢ [] → IsLiteral mode Hexadecimal (introduced bytes) (Bytes bytes)

-- Without bytes that a mode takes otherwise a text in quotes is a literal of itself in each mode:
-- that of a date or a time, and that of no bytes.
abbrev pub PlainIsRead : Type 0
PlainIsRead = (mode : Mode) (spelling : Spelling) (bytes : List ℕ) →
    AllByRecursion (λ b. (b ≢ single_quote) × (b ≢ backslash)) bytes →
    IsLiteral mode spelling (single_quote ∷ (bytes ++ single_quote ∷ [])) (Bytes bytes)

-- Where a placeholder of a query stands alone, servers agree about the query.
abbrev pub AloneIsAgreed : Type 0
AloneIsAgreed = (query : Sql) (tokens : List (List ℕ)) → HasTokens query.mode query.text tokens → AllAlone query →
    places_of query tokens ≢ [] → servers_agree 0 tokens ≡ true

-- Where servers agree about a query, a comment of it whose inside is read has no version: each with
-- one is a token, which holds no placeholder.
abbrev pub NoVersionIsRead : Type 0
NoVersionIsRead = (before : List (List ℕ)) (token : List ℕ) (behind : List (List ℕ)) →
    servers_agree 0 (before ++ token ∷ behind) ≡ true → is_opening token ≡ true →
    begins is_digit (concat behind) ≡ false

-- Of a query whose placeholders stand alone, each text has the same tokens at each server but for the
-- insides of the query's own comments with a version: at one that skips them each is one token, as the
-- text's tokens have it, and one that runs them takes each apart.
abbrev pub ServersReadAlike : Type 0
ServersReadAlike = (query : Sql) (text : List ℕ) (contents : List Content) (tokens : List (List ℕ)) → AllAlone query →
    contents ≢ [] → Slices query text contents → HasTokens query.mode text tokens → (server : Server) →
    HasTokensAt server query.mode text (tokens_at server tokens) ×
    ((others : List (List ℕ)) → HasTokensAt server query.mode text others → others ≡ tokens_at server tokens)

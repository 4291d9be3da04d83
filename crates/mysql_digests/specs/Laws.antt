-- The laws of digests, over any mode of the server that reads the texts.
-- MySQL Reference Manual, "Performance Schema Statement Digests and Sampling"; "PREPARE Statement"
-- (parameter markers).
use Rattle.std.specs.Prelude.{◌≡◌, ℕ, Bool, true, false, not, ◌⊎◌, List, [], ◌∷◌, codes}
use Rattle.mysql_queries.specs.Alone.{begins_for_mariadb}
use Rattle.mysql_queries.specs.Queries.{AllAlone, Slices}
use Rattle.mysql_queries.specs.Sql.{Sql}
use Rattle.mysql_queries.specs.Tokens.{HasTokens, Kind, Quoted, LineComment, BlockComment, Opening, Closing, Name, Mark}
use Rattle.mysql_queries.specs.Tokens.{Plain, kind_of}
use Rattle.mysql_queries.specs.Tokens.{quotes_identifier}
use Rattle.mysql_bytes.specs.declared.content.Content.{Content}
use Rattle.mysql_bytes.specs.declared.mode.Mode.{Mode}
use Rattle.mysql_digests.specs.Digest.{IsDigest, agreed, is_cut}

-- Each text has a digest.
abbrev pub SomeDigest : Type 0
SomeDigest = (mode : Mode) (text : List ℕ) → (digest : List ℕ) × IsDigest mode text digest

-- It has one.
abbrev pub OneDigest : Type 0
OneDigest = (mode : Mode) (text digest other : List ℕ) → IsDigest mode text digest → IsDigest mode text other →
    digest ≡ other

-- Where each placeholder of a query stands alone, a text over it has the query's own digest.
abbrev pub TextHasItsQuerysDigest : Type 0
TextHasItsQuerysDigest = (query : Sql) (text digest : List ℕ) (contents : List Content) → AllAlone query →
    Slices query text contents → IsDigest query.mode text digest → IsDigest query.mode query.text digest

-- So two texts over it have one digest.
abbrev pub TextsHaveOneDigest : Type 0
TextsHaveOneDigest = (query : Sql) (text other digest another : List ℕ) (contents others : List Content) →
    AllAlone query → Slices query text contents → Slices query other others →
    IsDigest query.mode text digest → IsDigest query.mode other another → digest ≡ another

-- a quoted token is a string, unless its quotes are those of identifiers
abbrev pub is_string_kind : Mode → Kind → Bool
is_string_kind mode (Quoted quote) = not (quotes_identifier mode quote)
is_string_kind mode LineComment = false
is_string_kind mode BlockComment = false
is_string_kind mode Opening = false
is_string_kind mode Closing = false
is_string_kind mode Name = false
is_string_kind mode Mark = false
is_string_kind mode Plain = false

abbrev pub is_comment_kind : Kind → Bool
is_comment_kind (Quoted quote) = false
is_comment_kind LineComment = true
is_comment_kind BlockComment = true
is_comment_kind Opening = false
is_comment_kind Closing = false
is_comment_kind Name = false
is_comment_kind Mark = false
is_comment_kind Plain = false

abbrev pub AreStrings : Mode → List ℕ → List ℕ → Type 0
AreStrings mode token other =
    (is_string_kind mode (kind_of token) ≡ true) × (is_string_kind mode (kind_of other) ≡ true)

-- both are comments, and MariaDB runs both or none
abbrev pub AreComments : List ℕ → List ℕ → Type 0
AreComments token other =
    (is_comment_kind (kind_of token) ≡ true) × (is_comment_kind (kind_of other) ≡ true) ×
    (begins_for_mariadb token ≡ begins_for_mariadb other)

-- one by one, both are the same token, or both are strings, or both are comments
abbrev pub DifferInside : Mode → List (List ℕ) → List (List ℕ) → Type 0
DifferInside mode [] [] = Unit {0}
DifferInside mode [] (other ∷ others) = ⊥
DifferInside mode (token ∷ tokens) [] = ⊥
DifferInside mode (token ∷ tokens) (other ∷ others) =
    ((token ≡ other) ⊎ (AreStrings mode token other ⊎ AreComments token other)) × DifferInside mode tokens others

-- A digest tells nothing of what stands inside a string or a comment: texts that differ in strings
-- and comments alone have one.
abbrev pub InsidesAreNotTold : Type 0
InsidesAreNotTold = (mode : Mode) (text other digest : List ℕ) (tokens others : List (List ℕ)) →
    HasTokens mode text tokens → HasTokens mode other others → DifferInside mode tokens others →
    IsDigest mode text digest → IsDigest mode other digest

-- It tells nothing of what follows where servers begin to disagree: texts with the same tokens before
-- that have one.
abbrev pub RestIsNotTold : Type 0
RestIsNotTold = (mode : Mode) (text other digest : List ℕ) (tokens others : List (List ℕ)) →
    HasTokens mode text tokens → HasTokens mode other others → agreed 0 tokens ≡ agreed 0 others →
    is_cut 0 tokens ≡ is_cut 0 others → IsDigest mode text digest → IsDigest mode other digest

-- Digests of small texts. A value is taken out, and so are its sign, its exponent and what a string
-- begins with, but no dash behind a word. Values, rows and comments are one each. NULL is a value in any
-- case, a word with a digit is none, and words are in lower case. Hints and simple version comments are
-- comments. Where servers disagree a mark stands for the rest, but two dollars within a word are its own.
pub record WorkedDigests : Type 0 where
  pub value : (mode : Mode) → IsDigest mode (codes "a=5") (codes "a = ?")
  pub string : (mode : Mode) → IsDigest mode (codes "'a'") (codes "?")
  pub null : (mode : Mode) → IsDigest mode (codes "nUlL") (codes "?")
  pub word : (mode : Mode) → IsDigest mode (codes "A1") (codes "a1")
  pub sign : (mode : Mode) → IsDigest mode (codes "-5") (codes "?")
  pub minus : (mode : Mode) → IsDigest mode (codes "a-5") (codes "a - ?")
  pub exponent : (mode : Mode) → IsDigest mode (codes "1.5e-7") (codes "?")
  pub hexadecimal : (mode : Mode) → IsDigest mode (codes "0x1e-7") (codes "? - ?")
  pub prefix : (mode : Mode) → IsDigest mode (codes "X'a'") (codes "?")
  pub values : (mode : Mode) → IsDigest mode (codes "1,2,3") (codes "?, ...")
  pub row : (mode : Mode) → IsDigest mode (codes "(1)") (codes "(?)")
  pub rows : (mode : Mode) → IsDigest mode (codes "(1,2),(3,4)") (codes "(...) /* , ... */")
  pub mark : (mode : Mode) → IsDigest mode (codes "a<=?") (codes "a <= ?")
  pub comment : (mode : Mode) → IsDigest mode (codes "a/**/b") (codes "a b")
  pub introducer : (mode : Mode) → IsDigest mode (codes "_binary 0x41") (codes "?")
  pub hint : (mode : Mode) → IsDigest mode (codes "/*+b*/a") (codes "a")
  pub simple : (mode : Mode) → IsDigest mode (codes "/*!1 b*/a") (codes "a")
  pub opening : (mode : Mode) → IsDigest mode (codes "a/*!b") (codes "a /* ... */")
  pub mariadb : (mode : Mode) → IsDigest mode (codes "a/*M!b*/") (codes "a /* ... */")
  pub bracket : (mode : Mode) → IsDigest mode (codes "a[b]") (codes "a /* ... */")
  pub dollars : (mode : Mode) → IsDigest mode (codes "$b$a") (codes "/* ... */")
  pub dollar_word : (mode : Mode) → IsDigest mode (codes "a$b$") (codes "a$b$")

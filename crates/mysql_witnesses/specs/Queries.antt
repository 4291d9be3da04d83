-- What the definitions of queries exclude: their tokens, their mode, and texts over them. MySQL
-- Reference Manual, "Server SQL Modes", "Schema Object Names", "Literal Values", "Comments", "Optimizer
-- Hints", "PREPARE Statement"; MySQL: Client/Server Protocol, "Status Flags".
use Rattle.std.specs.Prelude.{◌≡◌, ℕ, ◌+◌, Bool, true, false, List, [], ◌∷◌, codes, Some, None}
use Rattle.mysql_bytes.specs.Modes.{mode_of_sql_mode, mode_of_status}
use Rattle.mysql_queries.specs.Queries.{HasPlaces, Slices}
use Rattle.mysql_queries.specs.Sql.{read_by_default, read_in}
use Rattle.mysql_bytes.specs.declared.content.Content.{Content}
use Rattle.mysql_bytes.specs.declared.mode.Mode.{Mode}
use Rattle.mysql_queries.specs.declared.placeholders.Place.{Place}

abbrev pub ansi_quotes : Mode
ansi_quotes = record { no_backslash_escapes = false; ansi_quotes = true }

abbrev pub no_backslash_escapes : Mode
no_backslash_escapes = record { no_backslash_escapes = true; ansi_quotes = false }

-- a question mark at a place, that stands alone or not
abbrev pub question_at : ℕ → (alone : Bool) → Place
question_at start alone = record { start = start; end = start + 1; name = false; alone = alone }

-- `"\" ?`
abbrev pub quoted_backslash : List ℕ
quoted_backslash = 0x22 ∷ 0x5c ∷ 0x22 ∷ 0x20 ∷ 0x3f ∷ []

-- In ANSI_QUOTES double quotes are those of an identifier, in which a backslash is a byte like any
-- other: `"\" ?` has a placeholder. Excluded: a reader that takes them for a string's in each mode,
-- to which the second one is escaped, so that the placeholder stands inside.
-- MySQL Reference Manual, "Server SQL Modes" (ANSI_QUOTES), "Schema Object Names".
abbrev pub IdentifiersHaveNoEscapes : Type 0
IdentifiersHaveNoEscapes = (places : List Place) → HasPlaces (read_in ansi_quotes quoted_backslash) places →
    places ≡ question_at 4 true ∷ []

-- `/*+?*/?` has one placeholder, behind the hint. Excluded: a hint whose inside is read.
-- MySQL Reference Manual, "Optimizer Hints", "Comments".
abbrev pub HintsAreComments : Type 0
HintsAreComments = (places : List Place) → HasPlaces (read_by_default (codes "/*+?*/?")) places →
    places ≡ question_at 6 true ∷ []

-- `/*!9'*/?'` has none: a server that runs the comment reads a string in it. Excluded: a version
-- comment with a quote that is taken for a simple one. MySQL Reference Manual, "Comments".
abbrev pub QuotesMakeNoSimpleComment : Type 0
QuotesMakeNoSimpleComment = (places : List Place) → HasPlaces (read_by_default (codes "/*!9'*/?'")) places →
    places ≡ []

-- In `/*!9*b*/?` the placeholder doesn't stand alone: one server skips the comment, and another reads
-- its inside. Excluded: a placeholder that stands alone behind a version comment that isn't simple.
-- MySQL Reference Manual, "Comments".
abbrev pub OthersPartServers : Type 0
OthersPartServers = (places : List Place) → HasPlaces (read_by_default (codes "/*!9*b*/?")) places →
    places ≡ question_at 8 false ∷ []

-- In `/*!9b*/?` it does, and in `/*!*/?`, which every server runs up to one end. Excluded: a reader
-- that lets no placeholder behind `/*!` stand alone. MySQL Reference Manual, "Comments".
pub record SimpleCommentsPartNone : Type 0 where
  pub version : (places : List Place) → HasPlaces (read_by_default (codes "/*!9b*/?")) places →
      places ≡ question_at 7 true ∷ []
  pub none : (places : List Place) → HasPlaces (read_by_default (codes "/*!*/?")) places →
      places ≡ question_at 5 true ∷ []

-- Of `sql_mode` blanks around a name don't count, and a name that isn't known tells that, as MSSQL
-- does. Excluded: a mode that is told in spite of it. MySQL Reference Manual, "Server SQL Modes";
-- MariaDB Server Documentation, "SQL_MODE".
pub record NamesTellAModeOrNone : Type 0 where
  pub blanks : mode_of_sql_mode (codes " ansi_quotes ,") ≡ Some ansi_quotes
  pub brackets : mode_of_sql_mode (codes "ANSI_QUOTES,mssql") ≡ None
  pub unknown : mode_of_sql_mode (codes "ANSI_QUOTES,x") ≡ None

-- The bit 0x200 of a status tells NO_BACKSLASH_ESCAPES, and 0x8000 ANSI_QUOTES. Excluded: the two
-- exchanged. MySQL: Client/Server Protocol, "Status Flags"; MariaDB Server Documentation,
-- "OK_Packet" (server status).
abbrev pub EachBitTellsItsMode : Type 0
EachBitTellsItsMode = (mode_of_status 0x200 ≡ no_backslash_escapes) × (mode_of_status 0x8000 ≡ ansi_quotes)

-- `1x 2` is no text over `? ?`: a piece of the query follows its literal at once. Excluded: a reader
-- that looks for the piece further on, and passes over what stands before it.
-- MySQL Reference Manual, "PREPARE Statement" (parameter markers).
abbrev pub PiecesFollowLiteralsAtOnce : Type 0
PiecesFollowLiteralsAtOnce = (contents : List Content) →
    Slices (read_by_default (codes "? ?")) (codes "1x 2") contents → ⊥

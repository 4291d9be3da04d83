-- Placeholders of a query, the pieces between them, and the texts that a query and contents make,
-- all of them as a server in the query's mode reads them. MySQL Reference Manual, "PREPARE
-- Statement" (parameter markers); names as placeholders are a form of client libraries.
use Rattle.std.specs.Prelude.{◌≡◌, ℕ, ◌+◌, ◌≤◌, ◌<◌, Bool, true, false, not, ◌&&◌, if◌then◌else◌, ◌⊎◌}
use Rattle.std.specs.Prelude.{List, [], ◌∷◌, ◌++◌, length, drop, slice_index, slice_range, Option}
use Rattle.std.specs.List.{AllByRecursion, concat, list_any, join_with_byte, position_from}
use Rattle.mysql_queries.specs.declared.placeholders.Place.{Place}
pub use Rattle.mysql_queries.specs.Alone.{is_joining, is_mark_kind, is_name, is_name_kind, is_place, stands_apart}
pub use Rattle.mysql_queries.specs.Alone.{servers_agree, stands_alone}
use Rattle.mysql_queries.specs.Tokens.{colon, question, HasTokens}
use Rattle.mysql_queries.specs.Literals.{IsLiteral}
use Rattle.mysql_queries.specs.Sql.{Sql}
use Rattle.mysql_bytes.specs.declared.content.Content.{Content}
use Rattle.mysql_bytes.specs.declared.mode.Mode.{Mode}
use Rattle.mysql_bytes.specs.declared.spelling.Spelling.{Spelling}

-- the token goes before the first piece
abbrev pub before_first : List ℕ → List (List ℕ) → List (List ℕ)
before_first token [] = token ∷ []
before_first token (piece ∷ pieces) = (token ++ piece) ∷ pieces

-- the joined tokens before, between and after the placeholders
abbrev pub pieces_of : List (List ℕ) → List (List ℕ)
pieces_of [] = [] ∷ []
pieces_of (token ∷ tokens) = if is_place token then [] ∷ pieces_of tokens else before_first token (pieces_of tokens)

-- a piece, a literal of a content, the next piece, and so on to the last piece
abbrev pub Alternates : Mode → Spelling → List (List ℕ) → List Content → List ℕ → Type 0
Alternates mode spelling [] contents text = ⊥
Alternates mode spelling (piece ∷ []) [] text = text ≡ piece
Alternates mode spelling (piece ∷ []) (content ∷ contents) text = ⊥
Alternates mode spelling (piece ∷ next ∷ pieces) [] text = ⊥
Alternates mode spelling (piece ∷ next ∷ pieces) (content ∷ contents) text =
    (literal : List ℕ) × (rest : List ℕ) × IsLiteral mode spelling literal content ×
    (text ≡ piece ++ (literal ++ rest)) × Alternates mode spelling (next ∷ pieces) contents rest

-- the text is the query's pieces with literals of the contents between them
pub record Slices (query : Sql) (text : List ℕ) (contents : List Content) : Type 0 where
  pub tokens : List (List ℕ)
  pub has : HasTokens query.mode query.text tokens
  pub alternates : Alternates query.mode query.spelling (pieces_of tokens) contents text

-- Tokens with each placeholder replaced by the tokens of a literal of its content. A token that is
-- no placeholder is kept.
abbrev pub Replaces : Mode → Spelling → List (List ℕ) → List Content → List (List ℕ) → Type 0
Replaces mode spelling [] contents replaced = (contents ≡ []) × (replaced ≡ [])
Replaces mode spelling (token ∷ tokens) contents replaced =
    ((is_place token ≡ false) × (others : List (List ℕ)) × (replaced ≡ token ∷ others) ×
    Replaces mode spelling tokens contents others)
    ⊎ ((is_place token ≡ true) × (content : Content) × (next : List Content) × (literal : List ℕ) ×
    (literal_tokens : List (List ℕ)) × (others : List (List ℕ))
    × (contents ≡ content ∷ next) × IsLiteral mode spelling literal content ×
    HasTokens mode literal literal_tokens ×
    (replaced ≡ literal_tokens ++ others) × Replaces mode spelling tokens next others)

-- the text's tokens are the query's with each placeholder replaced by the tokens of a literal of its content
pub record Lexes (query : Sql) (text : List ℕ) (contents : List Content) : Type 0 where
  pub tokens : List (List ℕ)
  pub has : HasTokens query.mode query.text tokens
  pub replaced : List (List ℕ)
  pub text_has : HasTokens query.mode text replaced
  pub replaces : Replaces query.mode query.spelling tokens contents replaced

-- a placeholder of the query at a token that begins at start, between the tokens before it, of which
-- the last comes first, and those behind it
abbrev pub place_at : Sql → (agree : Bool) → (before : List (List ℕ)) → ℕ → List ℕ → (behind : List (List ℕ)) → Place
place_at query agree before start token behind =
    record {
      start = start;
      end = start + length token;
      name = is_name token;
      alone = stands_alone query.mode agree query.text start (start + length token) before behind;
    }

-- the placeholders among tokens of the query that begin at start behind others, of which the last
-- comes first
abbrev pub places_behind : Sql → (agree : Bool) → (before : List (List ℕ)) → ℕ → List (List ℕ) → List Place
places_behind query agree before start [] = []
places_behind query agree before start (token ∷ tokens) =
    if is_place token then place_at query agree before start token tokens ∷
    places_behind query agree (token ∷ before) (start + length token) tokens
    else places_behind query agree (token ∷ before) (start + length token) tokens

-- the placeholders among the tokens of a query, before which no byte stands
abbrev pub places_of : Sql → List (List ℕ) → List Place
places_of query tokens = places_behind query (servers_agree 0 tokens) [] 0 tokens

-- the slices of the query from start on: before, between and after these placeholders
abbrev pub slices_between : List ℕ → ℕ → List Place → List (List ℕ)
slices_between query start [] = drop start query ∷ []
slices_between query start (place ∷ places) = slice_range query start place.start ∷
    slices_between query place.end places

-- the placeholders of the query are these
abbrev pub HasPlaces : Sql → List Place → Type 0
HasPlaces query places = (tokens : List (List ℕ)) × HasTokens query.mode query.text tokens ×
    (places ≡ places_of query tokens)

-- each placeholder of the query stands alone
abbrev pub AllAlone : Sql → Type 0
AllAlone query = (places : List Place) → HasPlaces query places → AllByRecursion (λ place. place.alone ≡ true) places

-- both kinds of placeholder occur
abbrev pub is_mixed : List Place → Bool
is_mixed places = list_any (λ place. place.name) places && list_any (λ place. not place.name) places

-- whether both kinds of placeholder occur in the query
abbrev pub HasMixed : Sql → Bool → Type 0
HasMixed query mixed = (places : List Place) × HasPlaces query places × (mixed ≡ is_mixed places)

-- the query with a question mark for each placeholder: its pieces joined by question marks
abbrev pub IsParsed : Sql → List ℕ → Type 0
IsParsed query parsed = (tokens : List (List ℕ)) × HasTokens query.mode query.text tokens ×
    (parsed ≡ join_with_byte question (pieces_of tokens))

-- the first placeholder that doesn't stand alone
abbrev pub first_not_alone : List Place → Option ℕ
first_not_alone places = position_from (λ place. not place.alone) 0 places

-- a colon or a question mark
abbrev pub BeginsPlace : ℕ → Type 0
BeginsPlace b = (b ≡ colon) ⊎ (b ≡ question)

-- placeholders one after another within the query, from start on, each with what it begins with and
-- whether it stands alone
abbrev pub InOrder : List ℕ → ℕ → List Place → Type 0
InOrder query start [] = Unit {0}
InOrder query start (place ∷ places) =
    (start ≤ place.start) × (place.start < place.end) × (place.end ≤ length query) ×
    BeginsPlace (slice_index query place.start)
    × (place.alone ≡ true → stands_apart query place.start place.end ≡ true) × InOrder query place.end places

-- pieces with literals between them
abbrev pub interleaved : List (List ℕ) → List (List ℕ) → List ℕ
interleaved pieces [] = concat pieces
interleaved [] (literal ∷ literals) = []
interleaved (piece ∷ pieces) (literal ∷ literals) = piece ++ (literal ++ interleaved pieces literals)

-- each of these is a literal of the content beside it
abbrev pub AreLiterals : Mode → Spelling → List (List ℕ) → List Content → Type 0
AreLiterals mode spelling [] [] = Unit {0}
AreLiterals mode spelling [] (content ∷ contents) = ⊥
AreLiterals mode spelling (literal ∷ literals) [] = ⊥
AreLiterals mode spelling (literal ∷ literals) (content ∷ contents) =
    IsLiteral mode spelling literal content × AreLiterals mode spelling literals contents

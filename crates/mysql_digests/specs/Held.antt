-- The pieces of a digest as the code holds them: the kind of each, and their texts in a row.
-- MySQL Reference Manual, "Performance Schema Statement Digests and Sampling".
use Rattle.std.specs.Prelude.{◌≡◌, ℕ, Bool, true, false, List, [], ◌∷◌, ◌++◌, codes, Option, Some, None}
use Rattle.mysql_digests.specs.Digest.{Piece, with_spaces, comma, opening, closing}
use Rattle.mysql_digests.specs.Digest as digest
use Rattle.mysql_digests.specs.declared.pieces.PieceKind.{PieceKind}
use Rattle.mysql_digests.specs.declared.pieces.PieceKind.TheVariants.{Text, Comma, Open, Close, Values, Row, Rows}
use Rattle.mysql_digests.specs.declared.pieces.Pieces.{Pieces}

-- the kind of a piece
abbrev pub piece_kind : Piece → PieceKind
piece_kind (digest.Text bytes) = Text
piece_kind digest.Comma = Comma
piece_kind digest.Open = Open
piece_kind digest.Close = Close
piece_kind (digest.Values many) = Values many
piece_kind (digest.Row of_many) = Row of_many
piece_kind (digest.Rows of_many) = Rows of_many

-- the kinds of pieces in order, of which the last comes first
abbrev pub kinds_of : List Piece → List PieceKind
kinds_of [] = []
kinds_of (piece ∷ pieces) = kinds_of pieces ++ (piece_kind piece ∷ [])

-- the text of each piece of a kind; of text that is kept, none
abbrev pub mark_of : PieceKind → List ℕ
mark_of Text = []
mark_of Comma = comma ∷ []
mark_of Open = opening ∷ []
mark_of Close = closing ∷ []
mark_of (Values false) = codes "?"
mark_of (Values true) = codes "?, ..."
mark_of (Row false) = codes "(?)"
mark_of (Row true) = codes "(...)"
mark_of (Rows false) = codes "(?) /* , ... */"
mark_of (Rows true) = codes "(...) /* , ... */"

-- these pieces are held
pub record Holds (pieces : List Piece) (held : Pieces) : Type 0 where
  pub kinds : held.kinds.items ≡ kinds_of pieces
  pub bytes : held.bytes.items ≡ with_spaces pieces

abbrev pub is_comma : PieceKind → Bool
is_comma Text = false
is_comma Comma = true
is_comma Open = false
is_comma Close = false
is_comma (Values many) = false
is_comma (Row of_many) = false
is_comma (Rows of_many) = false

abbrev pub is_open : PieceKind → Bool
is_open Text = false
is_open Comma = false
is_open Open = true
is_open Close = false
is_open (Values many) = false
is_open (Row of_many) = false
is_open (Rows of_many) = false

-- of values, whether they are many
abbrev pub values_of : PieceKind → Option Bool
values_of Text = None
values_of Comma = None
values_of Open = None
values_of Close = None
values_of (Values many) = Some many
values_of (Row of_many) = None
values_of (Rows of_many) = None

-- of a row or rows, whether they are of many values
abbrev pub rows_of : PieceKind → Option Bool
rows_of Text = None
rows_of Comma = None
rows_of Open = None
rows_of Close = None
rows_of (Values many) = None
rows_of (Row of_many) = Some of_many
rows_of (Rows of_many) = Some of_many

-- of the values before a comma that stands last, whether they are many
abbrev pub values_before : List Piece → Option Bool
values_before (digest.Comma ∷ piece ∷ pieces) = values_of (piece_kind piece)
values_before pieces = None

-- of the row or rows before a comma that stands last, whether they are of many values
abbrev pub rows_before : List Piece → Option Bool
rows_before (digest.Comma ∷ piece ∷ pieces) = rows_of (piece_kind piece)
rows_before pieces = None

-- of the values that stand last behind what opens, whether they are many
abbrev pub values_opened : List Piece → Option Bool
values_opened (piece ∷ digest.Open ∷ pieces) = values_of (piece_kind piece)
values_opened pieces = None

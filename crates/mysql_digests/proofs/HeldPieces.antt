-- Pieces as the code holds them.
use Rattle.std.proofs.Common.{◌≡◌, Bool, true, false, List, [], ◌∷◌, refl, ap, Some, None}
use Rattle.mysql_digests.specs.Digest.{Piece, Text, Comma, Open, Close, Values, Row, Rows, text_of, with_value}
use Rattle.mysql_digests.specs.Digest.{with_row, with_close}
use Rattle.mysql_digests.specs.Held.{mark_of, piece_kind, values_before, rows_before, values_opened}

-- a value where no values stand before a comma
pub value_plain : (pieces : List Piece) → values_before pieces ≡ None → with_value pieces ≡ Values false ∷ pieces
value_plain [] h = refl
value_plain (Text b ∷ pieces) h = refl
value_plain (Open ∷ pieces) h = refl
value_plain (Close ∷ pieces) h = refl
value_plain (Values b ∷ pieces) h = refl
value_plain (Row b ∷ pieces) h = refl
value_plain (Rows b ∷ pieces) h = refl
value_plain (Comma ∷ []) h = refl
value_plain (Comma ∷ Text b ∷ pieces) h = refl
value_plain (Comma ∷ Comma ∷ pieces) h = refl
value_plain (Comma ∷ Open ∷ pieces) h = refl
value_plain (Comma ∷ Close ∷ pieces) h = refl
value_plain (Comma ∷ Row b ∷ pieces) h = refl
value_plain (Comma ∷ Rows b ∷ pieces) h = refl
value_plain (Comma ∷ Values many ∷ pieces) h = cc

pub row_plain : (of_many : Bool) (pieces : List Piece) → rows_before pieces ≡ None →
    with_row of_many pieces ≡ Row of_many ∷ pieces
row_plain o [] h = refl
row_plain o (Text b ∷ pieces) h = refl
row_plain o (Open ∷ pieces) h = refl
row_plain o (Close ∷ pieces) h = refl
row_plain o (Values b ∷ pieces) h = refl
row_plain o (Row b ∷ pieces) h = refl
row_plain o (Rows b ∷ pieces) h = refl
row_plain o (Comma ∷ []) h = refl
row_plain o (Comma ∷ Text b ∷ pieces) h = refl
row_plain o (Comma ∷ Comma ∷ pieces) h = refl
row_plain o (Comma ∷ Open ∷ pieces) h = refl
row_plain o (Comma ∷ Close ∷ pieces) h = refl
row_plain o (Comma ∷ Values b ∷ pieces) h = refl
row_plain o (Comma ∷ Row b ∷ pieces) h = cc
row_plain o (Comma ∷ Rows b ∷ pieces) h = cc

pub close_plain : (pieces : List Piece) → values_opened pieces ≡ None → with_close pieces ≡ Close ∷ pieces
close_plain [] h = refl
close_plain (Text b ∷ pieces) h = refl
close_plain (Comma ∷ pieces) h = refl
close_plain (Open ∷ pieces) h = refl
close_plain (Close ∷ pieces) h = refl
close_plain (Row b ∷ pieces) h = refl
close_plain (Rows b ∷ pieces) h = refl
close_plain (Values many ∷ []) h = refl
close_plain (Values many ∷ Text b ∷ pieces) h = refl
close_plain (Values many ∷ Comma ∷ pieces) h = refl
close_plain (Values many ∷ Open ∷ pieces) h = cc
close_plain (Values many ∷ Close ∷ pieces) h = refl
close_plain (Values many ∷ Values b ∷ pieces) h = refl
close_plain (Values many ∷ Row b ∷ pieces) h = refl
close_plain (Values many ∷ Rows b ∷ pieces) h = refl

-- what stands before a comma at the end, and what a value or a row makes of it
pub record Folds (pieces folded : List Piece) (mark : Piece) : Type 0 where
  pub rest : List Piece
  pub first : Piece
  pub second : Piece
  pub stands : pieces ≡ first ∷ second ∷ rest
  pub folds : folded ≡ mark ∷ rest
  pub first_text : text_of first ≡ mark_of (piece_kind first)
  pub second_text : text_of second ≡ mark_of (piece_kind second)

pub values_text : (many : Bool) → text_of (Values many) ≡ mark_of (piece_kind (Values many))
values_text true = refl
values_text false = refl

pub row_text : (many : Bool) → text_of (Row many) ≡ mark_of (piece_kind (Row many))
row_text true = refl
row_text false = refl

pub rows_text : (many : Bool) → text_of (Rows many) ≡ mark_of (piece_kind (Rows many))
rows_text true = refl
rows_text false = refl

pub value_folds : (pieces : List Piece) (many : Bool) → values_before pieces ≡ Some many →
    Folds pieces (with_value pieces) (Values true)
value_folds [] many h = cc
value_folds (Text b ∷ pieces) many h = cc
value_folds (Open ∷ pieces) many h = cc
value_folds (Close ∷ pieces) many h = cc
value_folds (Values b ∷ pieces) many h = cc
value_folds (Row b ∷ pieces) many h = cc
value_folds (Rows b ∷ pieces) many h = cc
value_folds (Comma ∷ []) many h = cc
value_folds (Comma ∷ Text b ∷ pieces) many h = cc
value_folds (Comma ∷ Comma ∷ pieces) many h = cc
value_folds (Comma ∷ Open ∷ pieces) many h = cc
value_folds (Comma ∷ Close ∷ pieces) many h = cc
value_folds (Comma ∷ Row b ∷ pieces) many h = cc
value_folds (Comma ∷ Rows b ∷ pieces) many h = cc
value_folds (Comma ∷ Values b ∷ pieces) many h =
    record {
      rest = pieces;
      first = Comma;
      second = Values b;
      stands = refl;
      folds =
          refl;
      first_text = refl;
      second_text = values_text b;
    }

pub row_folds : (of_many others : Bool) (pieces : List Piece) → rows_before pieces ≡ Some others →
    Folds pieces (with_row of_many pieces) (Rows others)
row_folds o others [] h = cc
row_folds o others (Text b ∷ pieces) h = cc
row_folds o others (Open ∷ pieces) h = cc
row_folds o others (Close ∷ pieces) h = cc
row_folds o others (Values b ∷ pieces) h = cc
row_folds o others (Row b ∷ pieces) h = cc
row_folds o others (Rows b ∷ pieces) h = cc
row_folds o others (Comma ∷ []) h = cc
row_folds o others (Comma ∷ Text b ∷ pieces) h = cc
row_folds o others (Comma ∷ Comma ∷ pieces) h = cc
row_folds o others (Comma ∷ Open ∷ pieces) h = cc
row_folds o others (Comma ∷ Close ∷ pieces) h = cc
row_folds o others (Comma ∷ Values b ∷ pieces) h = cc
row_folds o others (Comma ∷ Row b ∷ pieces) h = let e : b ≡ others = cc in
    record {
      rest = pieces;
      first = Comma;
      second = Row b;
      stands = refl;
      folds =
          ap (λ y. Rows y ∷ pieces) e;
      first_text = refl;
      second_text = row_text b;
    }
row_folds o others (Comma ∷ Rows b ∷ pieces) h = let e : b ≡ others = cc in
    record {
      rest = pieces;
      first = Comma;
      second = Rows b;
      stands = refl;
      folds =
          ap (λ y. Rows y ∷ pieces) e;
      first_text = refl;
      second_text = rows_text b;
    }

-- values behind what opens, and the row that they are
pub record Opened (pieces : List Piece) (many : Bool) : Type 0 where
  pub rest : List Piece
  pub stands : pieces ≡ Values many ∷ Open ∷ rest
  pub text : text_of (Values many) ≡ mark_of (piece_kind (Values many))
  pub closes : with_close pieces ≡ with_row many rest

-- The first value of another kind, row by row.
use Rattle.std.proofs.Common.{◌≡◌, ℕ, ◌+◌, ◌<◌, List, [], ◌∷◌, ◌++◌, length, take, get_or, Some, None, sym, ◌∙◌, ap}
use Rattle.std.proofs.Common.{Bor}
use Rattle.std.specs.Prelude.{All}
use Rattle.std.specs.Option.{option_map}
use Rattle.std.proofs.lemmas.List.{length-map, take_more}
use Rattle.std.proofs.lemmas.List.Elements.{All-get_or}
use Rattle.mysql_cells.specs.declared.value.Value.{Value}
use Rattle.mysql_bulk_builder.specs.Cut.{Row}
use Rattle.mysql_bulk_builder.specs.Causes.{is_of_other_kind, mixed_kinds, place_where}
use Rattle.mysql_bulk_builder.specs.RowLists.{row_in}
use Rattle.mysql_bulk_builder.specs.ValueTypes.{first_values}
use Rattle.mysql_bulk_builder.proofs.FirstAt.{first_at_none, first_at_some}
use Rattle.mysql_bulk_builder.proofs.FirstValues.{length_first}

-- how many first values there are
pub width_is : (firsts : List (Bor Value)) (columns : ℕ) (rows : List Row) → row_in firsts ≡
    first_values columns rows → length firsts ≡ columns
width_is firsts columns rows is = sym (length-map firsts (λ (v : Bor Value). v.now)) ∙
    ap length is ∙ length_first columns rows

-- how many values a row has
pub row_width : (rows : List (Bor (List (Bor Value)))) (columns i : ℕ)
    (x : Bor (List (Bor Value))) → All (λ row. length row.now ≡ columns) rows → i < length rows →
    x ≡ get_or rows i x → length x.now ≡ columns
row_width rows columns i x all lt is = ap (λ (row : Bor (List (Bor Value))). length row.now) is ∙
    All-get_or (λ (row : Bor (List (Bor Value))). length row.now ≡ columns) rows i x lt all

-- none in the rows before
abbrev pub NoneBefore : List Row → ℕ → Type 0
NoneBefore rows n = (k : ℕ) → k < n → place_where (is_of_other_kind (take k rows)) (get_or rows k []) ≡ None

-- no row has one
pub none_mixed : (rows : List Row) → NoneBefore rows (length rows) → None ≡ mixed_kinds rows
none_mixed rows none = sym
    (first_at_none (λ set row. option_map (λ place. (set, place))
    (place_where (is_of_other_kind (take set rows)) row)) rows []
    (λ k lt. ap (λ o. option_map (λ place. (k, place)) o) (none k lt)))

-- a row has the first one
pub first_mixed : (rows : List Row) (k place : ℕ) (row : Row) → k < length rows → get_or rows k [] ≡
    row → NoneBefore rows k → Some place ≡ place_where (is_of_other_kind (take k rows)) row →
    Some (k, place) ≡ mixed_kinds rows
first_mixed rows k place row lt at none found =
    sym (first_at_some (λ set row. option_map (λ place. (set, place))
    (place_where (is_of_other_kind (take set rows)) row)) rows [] k (k, place) lt
    (ap (λ o. option_map (λ place. (k, place)) o)
    (ap (λ r. place_where (is_of_other_kind (take k rows)) r) at ∙ sym found))
    (λ j less. ap (λ o. option_map (λ place. (j, place)) o) (none j less)))

-- the rows so far and one more
pub rows_more : (rows : List Row) (k : ℕ) (row : Row) → k < length rows → get_or rows k [] ≡ row →
    take k rows ++ row ∷ [] ≡ take (k + 1) rows
rows_more rows k row lt at = ap (λ r. take k rows ++ r ∷ []) (sym at) ∙ sym (take_more rows k [] lt)

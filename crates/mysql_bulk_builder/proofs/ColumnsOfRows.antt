-- The columns of rows that were joined to one list.
use Rattle.std.proofs.Common.{◌≡◌, ℕ, zero, suc, ◌+◌, ◌*◌, ◌<◌, ◌==◌, true, List, [], ◌∷◌, ◌++◌, length, get_or, map}
use Rattle.std.proofs.Common.{sym, ap, ◌∙◌, arith}
use Rattle.std.proofs.lemmas.Bool.{eqb-true}
use Rattle.std.proofs.lemmas.List.{get_or-append-add, length-map, same_lists}
use Rattle.std.proofs.lemmas.List.FromFn.{get_or-map-range_with_len, length-map-range_with_len}
use Rattle.std.proofs.Math.ListN.{get_or-append}
use Rattle.mysql_cells.specs.declared.value.Value.{Value}
use Rattle.mysql_cells.specs.declared.value.Value.TheVariants.{NULL}
use Rattle.mysql_bulk_builder.specs.Bulk.{all_values, have_length}
use Rattle.mysql_bulk_builder.specs.Laws.{ColumnsAreThoseOfRows}
use Rattle.mysql_bulk_builder.proofs.RequestRows.{both}

value_at : (rows : List (List Value)) (n c k : ℕ) (d : Value) → have_length n rows ≡ true → c < n →
    k < length rows → get_or (all_values rows) (k * n + c) NULL ≡
    get_or (map (λ (row : List Value). get_or row c NULL) rows) k d
unfolding have_length
value_at [] n c k d same few inside = absurd (omega arith)
value_at (row ∷ rows) n c zero d same few inside =
    let p = both (length row == n) (have_length n rows) same in
    let whole = eqb-true (length row) n p.0 in
    ap (λ (i : ℕ). get_or (row ++ all_values rows) i NULL) (omega arith) ∙
    get_or-append row (all_values rows) NULL c (omega (arith, whole, few))
value_at (row ∷ rows) n c (suc k) d same few inside =
    let p = both (length row == n) (have_length n rows) same in
    let whole = eqb-true (length row) n p.0 in
    let place : suc k * n + c ≡ length row + (k * n + c) = omega (arith, whole) in
    ap (λ (i : ℕ). get_or (row ++ all_values rows) i NULL) place ∙
    get_or-append-add row (all_values rows) (k * n + c) NULL ∙
    value_at rows n c k d p.1 few (omega arith)

pub columns_are_those_of_rows : ColumnsAreThoseOfRows
columns_are_those_of_rows rows n c same few =
    let f : ℕ → Value = λ k. get_or (all_values rows) (k * n + c) NULL in
    let g : List Value → Value = λ row. get_or row c NULL in
    let len = length-map-range_with_len f 0 (length rows) in
    same_lists _ (map g rows) (len ∙ sym (length-map rows g))
    (λ k d inside. get_or-map-range_with_len f 0 (length rows) k k d (omega (arith, len, inside))
    (omega arith) ∙ value_at rows n c k d same few (omega (arith, len, inside)))

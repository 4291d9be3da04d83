-- The size of a row, by its values as they lie in memory.
use Rattle.std.proofs.Common.{◌≡◌, ℕ, ◌+◌, ◌<◌, ◌≤◌, List, length, take, get_or, refl, sym, ◌∙◌, ap, arith, Bor}
use Rattle.std.proofs.lemmas.List.{get_or-map, length-map}
use Rattle.std.specs.Prelude.{sum_by}
use Rattle.std.proofs.lemmas.List.Sums.{sum_by-cons, sum_by_more, sum_by_more_le}
use Rattle.std.proofs.lemmas.List.Recursion.{is_sum_by}
use Rattle.mysql_cells.specs.declared.value.Value.{Value}
use Rattle.mysql_cells.specs.Cells.{bin_len}
use Rattle.mysql_bulk_builder.specs.Cut.{Row, row_size}
use Rattle.mysql_bulk_builder.specs.RowLists.{row_in, rows_in}

pub row_size-is : (values : List Value) → row_size values ≡ sum_by (λ v. 1 + bin_len v) values
row_size-is values = is_sum_by (λ vs. row_size vs) (λ v. 1 + bin_len v) refl
    (λ v vs. sum_by-cons (λ value. 1 + bin_len value) v vs) values

-- a value that takes more than what is left makes the row too large
pub past_room : (values : List Value) (i room left : ℕ) (x : Value) → i < length values → x ≡ get_or values i x →
    left + row_size (take i values) ≡ room → left ≤ bin_len x → room < row_size values
past_room values i room left x lt is so_far past =
    let more = sum_by_more_le (λ v. 1 + bin_len v) values i x lt in
    let at : bin_len (get_or values i x) ≡ bin_len x = sym (ap bin_len is) in
    omega (arith, more, at, row_size-is values, row_size-is (take i values), so_far, past)

-- a value and a row, whatever stands for a missing one
pub value_at : (values : List (Bor Value)) (i : ℕ) (x : Bor Value) (d : Value) → i < length values →
    x ≡ get_or values i x → get_or (row_in values) i d ≡ x.now
value_at values i x d lt is = get_or-map (λ (v : Bor Value). v.now) values i x d lt ∙
    ap (λ (v : Bor Value). v.now) (sym is)

pub row_at : (rows : List (Bor (List (Bor Value)))) (i : ℕ) (x : Bor (List (Bor Value))) (d : Row) →
    i < length rows → x ≡ get_or rows i x → get_or (rows_in rows) i d ≡ row_in x.now
row_at rows i x d lt is = get_or-map (λ (r : Bor (List (Bor Value))). row_in r.now) rows i x d lt ∙
    ap (λ (r : Bor (List (Bor Value))). row_in r.now) (sym is)

-- one value more
pub size_more : (values : List (Bor Value)) (i : ℕ) (x : Bor Value) → i < length values → x ≡ get_or values i x →
    row_size (take (i + 1) (row_in values)) ≡ row_size (take i (row_in values)) + (1 + bin_len x.now)
size_more values i x lt is =
    let lt' : i < length (row_in values) = omega (arith, lt, length-map values (λ (v : Bor Value). v.now)) in
    let more = sum_by_more (λ v. 1 + bin_len v) (row_in values) i x.now lt' in
    omega (
      arith,
      more,
      ap bin_len (value_at values i x x.now lt is),
      row_size-is (take i (row_in values)),
      row_size-is (take (i + 1) (row_in values)),
    )

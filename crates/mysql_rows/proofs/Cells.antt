-- Cells that are read one after the other.
use Rattle.std.proofs.Common.{◌≡◌, ℕ, suc, ◌-◌, ◌+◌, ◌≤◌, ◌<◌, Bool, List, [], ◌∷◌, ◌++◌, length, take, drop, get_or}
use Rattle.std.proofs.Common.{Option, Some, Ok, Err, refl, sym, ap, ◌∙◌, append_assoc, append-nil, add-one, drop-cons}
use Rattle.std.proofs.Common.{length-append, length-take, arith}
use Rattle.std.proofs.lemmas.List.{drop_all}
use Rattle.mysql_buf.specs.FirstBytes.{first-some}
use Rattle.mysql_buf.specs.Reading.{bytes_at}
use Rattle.mysql_fields.specs.declared.error.WireError.{WireError}
use Rattle.mysql_fields.specs.Wire.{Reading, Refuses, ◌>>=◌}
use Rattle.mysql_field_lists.specs.ElementLaws.{with_front}
use Rattle.mysql_field_lists.specs.Lists.{elements_at}
use Rattle.mysql_cells.specs.declared.value.Value.{Value}
use Rattle.mysql_columns.specs.declared.column.Column.{Column}
use Rattle.mysql_columns.specs.Views.{column_view}
use Rattle.mysql_field_lists.specs.NullBitmap.{is_null_at}
use Rattle.mysql_rows.specs.Rows.{binary_cell_at, binary_cells_at, some_cells}
use Rattle.mysql_rows.specs.Views.{column_views}

-- the next cell joins those before it
regroup : (front : List (Option Value)) (y : Value) (read : Reading (List Value)) →
    with_front front (some_cells (read >>= λ x. Ok (y ∷ x.0, x.1))) ≡
    with_front (front ++ Some y ∷ []) (some_cells read)
regroup front y (Ok x) = ap (λ (ys : List (Option Value)). Ok (ys, x.1)) (simp append_assoc)
regroup front y (Err e) = refl

-- one cell more
pub one_more : (front : List (Option Value)) (cell : Option Value) (i : ℕ) → length front ≡ i →
    length (front ++ cell ∷ []) ≡ i + 1
one_more front cell i h = omega (arith, h, length-append front (cell ∷ []))

-- a slice has the length that was asked for
pub slice_len : (n : ℕ) (bytes slice rest : List ℕ) → bytes_at n bytes ≡ Some (slice, rest) → length slice ≡ n
slice_len n bytes slice rest h =
    let p = first-some n (take n) bytes (slice, rest) h in
    let is : slice ≡ take n bytes = ap (λ (z : List ℕ × List ℕ). z.0) p.1 in
    rw is (omega (arith, p.0, length-take n bytes))

module _ (read_at : List ℕ → Reading Value) (front : List (Option Value)) (count i : ℕ)
    (bytes : List ℕ) (total : Reading (List (Option Value))) where
  pub goes_on : (y : Value) (after : List ℕ) → i < count → read_at bytes ≡ Ok (y, after)
      → with_front front (some_cells (elements_at read_at (count - i) bytes)) ≡ total →
      with_front (front ++ Some y ∷
      []) (some_cells (elements_at read_at (count - (i + 1)) after)) ≡ total
  unfolding elements_at
  goes_on y after lt h so_far =
      let k : count - i ≡ suc (count - (i + 1)) = omega arith in
      let one : with_front front (some_cells (elements_at read_at (count - i) bytes)) ≡
      with_front (front ++ Some y ∷
      []) (some_cells (elements_at read_at (count - (i + 1)) after)) =
      rw (k, h) (regroup front y (elements_at read_at (count - (i + 1)) after)) in
      sym one ∙ so_far

  pub ends : (e : WireError) → i < count → Refuses e (read_at bytes) →
      with_front front (some_cells (elements_at read_at (count - i) bytes)) ≡ total →
      Refuses e total
  unfolding elements_at
  ends e lt h so_far ne =
      let k : count - i ≡ suc (count - (i + 1)) = omega arith in
      let one : with_front front (some_cells (elements_at read_at (count - i) bytes)) ≡ Err e = rw (k, h ne) refl in
      sym so_far ∙ one

  pub is_done : count ≤ i → with_front front (some_cells (elements_at read_at (count - i) bytes)) ≡
      total → total ≡ Ok (front, bytes)
  unfolding elements_at
  is_done le so_far =
      let k : count - i ≡ 0 = omega arith in
      let one : with_front front (some_cells (elements_at read_at (count - i) bytes)) ≡
      Ok (front, bytes) = rw k (ap (λ (ys : List (Option Value)). Ok (ys, bytes))
      (append-nil front)) in
      sym so_far ∙ one

-- the column at this place, and those after it
pub next_column : (columns : List Column) (i : ℕ) (column : Column) → i < length columns → column ≡
    get_or columns i column → drop i columns ≡ column ∷ drop (i + 1) columns
next_column columns i column lt at =
    let here : drop i columns ≡ get_or columns i column ∷ drop (i + 1) columns =
    rw add-one (drop-cons columns i column lt) in
    here ∙ ap (λ (x : Column). x ∷ drop (i + 1) columns) (sym at)

-- the cells from a place on
abbrev pub cells_from : ℕ → List ℕ → List Column → ℕ → List ℕ → Reading (List (Option Value))
cells_from offset bitmap columns i bytes =
    some_cells (binary_cells_at offset bitmap i (column_views (drop i columns)) bytes)

module _ (offset : ℕ) (bitmap : List ℕ) (columns : List Column) (front : List (Option Value))
    (i : ℕ) (bytes : List ℕ) (total : Reading (List (Option Value))) where
  pub binary_goes_on : (is_null : Bool) (column : Column) (y : Value) (after : List ℕ) →
      drop i columns ≡ column ∷ drop (i + 1) columns → is_null ≡ is_null_at offset bitmap i
      → binary_cell_at is_null (column_view column) bytes ≡ Ok (y, after)
      → with_front front (cells_from offset bitmap columns i bytes) ≡ total →
      with_front (front ++ Some y ∷ []) (cells_from offset bitmap columns (i + 1) after) ≡ total
  unfolding binary_cells_at
  binary_goes_on is_null column y after d n h so_far =
      let cell : binary_cell_at (is_null_at offset bitmap i) (column_view column) bytes ≡ Ok (y, after) = rw (← n) h in
      let one : with_front front (cells_from offset bitmap columns i bytes) ≡
      with_front (front ++ Some y ∷ []) (cells_from offset bitmap columns (i + 1) after) =
      rw (d, cell) (regroup front y
      (binary_cells_at offset bitmap (i + 1) (column_views (drop (i + 1) columns)) after)) in
      sym one ∙ so_far

  pub binary_ends : (is_null : Bool) (column : Column) (e : WireError) → drop i columns ≡ column ∷
      drop (i + 1) columns → is_null ≡ is_null_at offset bitmap i
      → Refuses e (binary_cell_at is_null (column_view column) bytes)
      → with_front front (cells_from offset bitmap columns i bytes) ≡ total → Refuses e total
  unfolding binary_cells_at
  binary_ends is_null column e d n h so_far ne =
      let cell : binary_cell_at (is_null_at offset bitmap i) (column_view column) bytes ≡ Err e = rw (← n) (h ne) in
      let one : with_front front (cells_from offset bitmap columns i bytes) ≡ Err e = rw (d, cell) refl in
      sym so_far ∙ one

  pub binary_is_done : length columns ≤ i →
      with_front front (cells_from offset bitmap columns i bytes) ≡ total → total ≡
      Ok (front, bytes)
  unfolding binary_cells_at
  binary_is_done le so_far =
      let none : drop i columns ≡ [] = drop_all i columns le in
      let one : with_front front (cells_from offset bitmap columns i bytes) ≡ Ok (front, bytes) =
      rw none (ap (λ (ys : List (Option Value)). Ok (ys, bytes)) (append-nil front)) in
      sym so_far ∙ one

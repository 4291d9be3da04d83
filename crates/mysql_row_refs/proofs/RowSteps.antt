-- Cells that are read one after the other, by their places.
use Rattle.std.proofs.Common.{◌≡◌, ℕ, suc, ◌-◌, ◌+◌, ◌≤◌, ◌<◌, Bool, true, List, [], ◌∷◌, ◌++◌, length, map, drop}
use Rattle.std.proofs.Common.{get_or, Ok, Err, refl, sym, ap, ◌∙◌, append_assoc, append-nil, add-one, drop-cons}
use Rattle.std.proofs.Common.{length-append, arith}
use Rattle.std.proofs.lemmas.List.{drop_all, map-append}
use Rattle.std.proofs.lemmas.List.Folds.{list_all-append}
use Rattle.std.specs.List.{list_all}
use Rattle.mysql_fields.specs.declared.error.WireError.{WireError}
use Rattle.mysql_fields.specs.Wire.{Reading, ◌>>=◌}
use Rattle.mysql_field_lists.specs.ElementLaws.{with_front, goes_on}
use Rattle.mysql_field_lists.specs.Lists.{elements_at}
use Rattle.mysql_cells.specs.declared.value.Value.{Value}
use Rattle.mysql_columns.specs.declared.column.Column.{Column}
use Rattle.mysql_columns.specs.Views.{column_view}
use Rattle.mysql_field_lists.specs.NullBitmap.{is_null_at}
use Rattle.mysql_rows.specs.Rows.{binary_cell_at, binary_cells_at}
use Rattle.mysql_rows.specs.Views.{column_views}
use Rattle.mysql_row_refs.specs.Places.{held, is_inside}
use Rattle.mysql_row_refs.specs.declared.place.CellPlace.{CellPlace}

-- one place more
pub held_more : (payload : List ℕ) (places : List CellPlace) (place : CellPlace) →
    map (held payload) (places ++ place ∷ []) ≡ map (held payload) places ++ held payload place ∷ []
held_more payload places place = map-append (held payload) places (place ∷ [])

pub inside_more : (payload : List ℕ) (places : List CellPlace) (place : CellPlace) →
    list_all (is_inside payload) places ≡ true → is_inside payload place ≡ true →
    list_all (is_inside payload) (places ++ place ∷ []) ≡ true
inside_more payload places place h g = rw (list_all-append (is_inside payload) places (place ∷ []), h, g) refl

pub one_longer : {X : Type 0} (xs : List X) (x : X) (i : ℕ) → length xs ≡ i → length (xs ++ x ∷ []) ≡ i + 1
one_longer xs x i h = omega (arith, h, length-append xs (x ∷ []))

module _ (read_at : List ℕ → Reading Value) (payload : List ℕ) (places : List CellPlace)
    (count i : ℕ) (bytes : List ℕ) (total : Reading (List Value)) where
  pub text_goes_on : (place : CellPlace) (after : List ℕ) → i < count → read_at bytes ≡ Ok (held payload place, after)
      → with_front (map (held payload) places) (elements_at read_at (count - i) bytes) ≡ total
      → with_front (map (held payload) (places ++ place ∷ [])) (elements_at read_at (count - (i + 1)) after) ≡ total
  text_goes_on place after lt h so_far =
      rw (held_more payload places place)
      (goes_on read_at (map (held payload) places) count i bytes (held payload place) after
      total lt h so_far)

  pub text_ends : (e : WireError) → i < count → read_at bytes ≡ Err e
      → with_front (map (held payload) places) (elements_at read_at (count - i) bytes) ≡ total → total ≡ Err e
  unfolding elements_at
  text_ends e lt h so_far =
      let k : count - i ≡ suc (count - (i + 1)) = omega arith in
      let one : with_front (map (held payload) places) (elements_at read_at (count - i) bytes) ≡
      Err e = rw (k, h) refl in
      sym so_far ∙ one

-- the next cell joins those before it
regroup : (front : List Value) (y : Value) (read : Reading (List Value)) →
    with_front front (read >>= λ x. Ok (y ∷ x.0, x.1)) ≡ with_front (front ++ y ∷ []) read
regroup front y (Ok x) = ap (λ (ys : List Value). Ok (ys, x.1)) (simp append_assoc)
regroup front y (Err e) = refl

-- the column at this place, and those after it
pub next_column : (columns : List Column) (i : ℕ) (column : Column) → i < length columns → column ≡
    get_or columns i column → drop i columns ≡ column ∷ drop (i + 1) columns
next_column columns i column lt at =
    let here : drop i columns ≡ get_or columns i column ∷ drop (i + 1) columns =
    rw add-one (drop-cons columns i column lt) in
    here ∙ ap (λ (x : Column). x ∷ drop (i + 1) columns) (sym at)

-- the cells from a place on
abbrev pub cells_from : List ℕ → List Column → ℕ → List ℕ → Reading (List Value)
cells_from bitmap columns i bytes = binary_cells_at 2 bitmap i (column_views (drop i columns)) bytes

module _ (payload bitmap : List ℕ) (columns : List Column) (places : List CellPlace) (i : ℕ)
    (bytes : List ℕ) (total : Reading (List Value)) where
  pub binary_goes_on : (is_null : Bool) (column : Column) (place : CellPlace) (after : List ℕ) →
      drop i columns ≡ column ∷ drop (i + 1) columns → is_null ≡ is_null_at 2 bitmap i
      → binary_cell_at is_null (column_view column) bytes ≡ Ok (held payload place, after)
      → with_front (map (held payload) places) (cells_from bitmap columns i bytes) ≡ total
      → with_front (map (held payload) (places ++ place ∷ [])) (cells_from bitmap columns (i + 1) after) ≡ total
  unfolding binary_cells_at
  binary_goes_on is_null column place after d n h so_far =
      let cell : binary_cell_at (is_null_at 2 bitmap i) (column_view column) bytes ≡
      Ok (held payload place, after) = rw (← n) h in
      let one : with_front (map (held payload) places) (cells_from bitmap columns i bytes) ≡
      with_front (map (held payload) places ++ held payload place ∷
      []) (cells_from bitmap columns (i + 1) after) =
      rw (d, cell) (regroup (map (held payload) places) (held payload place)
      (binary_cells_at 2 bitmap (i + 1) (column_views (drop (i + 1) columns)) after)) in
      rw (held_more payload places place) (sym one ∙ so_far)

  pub binary_ends : (is_null : Bool) (column : Column) (e : WireError) → drop i columns ≡ column ∷
      drop (i + 1) columns → is_null ≡ is_null_at 2 bitmap i
      → binary_cell_at is_null (column_view column) bytes ≡ Err e
      → with_front (map (held payload) places) (cells_from bitmap columns i bytes) ≡ total → total ≡ Err e
  unfolding binary_cells_at
  binary_ends is_null column e d n h so_far =
      let cell : binary_cell_at (is_null_at 2 bitmap i) (column_view column) bytes ≡ Err e = rw (← n) h in
      let one : with_front (map (held payload) places) (cells_from bitmap columns i bytes) ≡ Err e =
      rw (d, cell) refl in
      sym so_far ∙ one

  pub binary_is_done : length columns ≤ i →
      with_front (map (held payload) places) (cells_from bitmap columns i bytes) ≡ total → total ≡
      Ok (map (held payload) places, bytes)
  unfolding binary_cells_at
  binary_is_done le so_far =
      let none : drop i columns ≡ [] = drop_all i columns le in
      let one : with_front (map (held payload) places) (cells_from bitmap columns i bytes) ≡
      Ok (map (held payload) places, bytes) =
      rw none (ap (λ (ys : List Value). Ok (ys, bytes))
      (append-nil (map (held payload) places))) in
      sym so_far ∙ one

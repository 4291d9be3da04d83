-- Cells of a binary row that are appended one after another.
use Rattle.std.proofs.Common.{◌≡◌, ℕ, ◌+◌, ◌<◌, false, List, [], ◌∷◌, ◌++◌, length, map, drop, get_or, sym, ap, subst}
use Rattle.std.proofs.Common.{◌∙◌, cond, Option, Some, None, Result, Ok, Err, true}
use Rattle.std.specs.Prelude.{OnOk, is_none, is_ok, flat_map, unwrap_or, zip}
use Rattle.std.specs.List.{position_from}
use Rattle.std.specs.Option.{option_and_then}
use Rattle.std.proofs.lemmas.List.{drop_more}
use Rattle.mysql_cells.specs.declared.value.Value.{Value}
use Rattle.mysql_columns.specs.Columns.{ColumnDefinition}
use Rattle.mysql_columns.specs.Views.{column_view}
use Rattle.mysql_columns.specs.declared.column.Column.{Column}
use Rattle.mysql_rows.specs.CellsWritten.{AreOwn, IsOwn, cells_in}
use Rattle.mysql_rows.specs.Views.{column_views}
use Rattle.mysql_rows.specs.Written.{as_binary, cell_in, values_of}

-- what holds where a call was done
pub where_ok : {E P : Type 0} (result : Result (Unit {0}) E) → is_ok result ≡ true → OnOk result P → P
where_ok (Ok done) ok holds = holds
where_ok (Err e) ok holds = absurd (cc)

-- cells that are each its own, and one more
more_own : (cell : Option Value) (cells : List (Option Value)) → IsOwn cell → AreOwn cells → AreOwn (cell ∷ cells)
more_own None cells own others = others
more_own (Some value) cells own others =
    ap (λ (v : Value). v ∷ map as_binary (values_of cells)) own ∙ ap (λ (vs : List Value). value ∷ vs) others

-- the cell at this place, and those behind it
module _ {X : Type 0} (held : X → Option Value) (columns : List Column) (cells : List X) (place : ℕ)
    (column : Column) (cell : X)
    (in_columns : place < length columns) (in_cells : place < length cells) (this_column : column ≡
    get_or columns place column) (this_cell : cell ≡ get_or cells place cell) where
  abbrev pub placed_from : ℕ → List (ColumnDefinition × Option Value)
  placed_from k = zip (column_views (drop k columns)) (map held (drop k cells))

  first_cell : drop place cells ≡ cell ∷ drop (place + 1) cells
  first_cell = drop_more cells place cell in_cells ∙ ap (λ (x : X). x ∷ drop (place + 1) cells) (sym this_cell)

  next_placed : placed_from place ≡ (column_view column, held cell) ∷ placed_from (place + 1)
  next_placed =
      let first_column : drop place columns ≡ column ∷ drop (place + 1) columns =
      drop_more columns place column in_columns ∙
      ap (λ (x : Column). x ∷ drop (place + 1) columns) (sym this_column) in
      ap (λ (l : List Column). zip (column_views l) (map held (drop place cells))) first_column ∙
      ap (λ (l : List X). zip (column_views (column ∷ drop (place + 1) columns)) (map held l))
      first_cell

  pub next_bytes : cells_in (column_views (drop place columns)) (map held (drop place cells))
      ≡ unwrap_or (option_and_then (cell_in (column_view column)) (held cell)) [] ++
      cells_in (column_views (drop (place + 1) columns)) (map held (drop (place + 1) cells))
  next_bytes = ap (λ (l : List (ColumnDefinition × Option Value)). flat_map
      (λ placed. unwrap_or (option_and_then (cell_in placed.0) placed.1) []) l) next_placed

  pub next_cause : (total : Option ℕ) → is_none (option_and_then (cell_in (column_view column)) (held cell)) ≡ false
      → position_from (λ placed. is_none (option_and_then (cell_in placed.0) placed.1)) place
      (placed_from place) ≡ total
      → position_from (λ placed. is_none (option_and_then (cell_in placed.0) placed.1)) (place + 1)
      (placed_from (place + 1)) ≡ total
  next_cause total has so_far =
      let later : Option ℕ = position_from
      (λ (placed : ColumnDefinition × Option Value). is_none
      (option_and_then (cell_in placed.0) placed.1)) (place + 1) (placed_from (place + 1)) in
      sym (ap (position_from (λ (placed : ColumnDefinition × Option Value). is_none
      (option_and_then (cell_in placed.0) placed.1)) place) next_placed ∙
      ap (λ b. cond b (Some place) later) has) ∙ so_far

  pub next_own : IsOwn (held cell) → AreOwn (map held (drop (place + 1) cells)) → AreOwn (map held (drop place cells))
  next_own own later = subst (λ (l : List X). AreOwn (map held l)) (sym first_cell)
      (more_own (held cell) (map held (drop (place + 1) cells)) own later)

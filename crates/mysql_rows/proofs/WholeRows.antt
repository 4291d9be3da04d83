-- The cells of a row of which each one has a form are its values.
use Rattle.std.proofs.Common.{◌≡◌, ℕ, ◌+◌, Bool, true, false, cond, List, [], ◌∷◌, ◌++◌, length, map, Option, Some}
use Rattle.std.proofs.Common.{None, Result, Ok, Err, refl, ◌∙◌, ap, arith}
use Rattle.std.specs.Prelude.{is_err, is_none, unwrap_or, zip, OnOk}
use Rattle.std.specs.List.{position_from}
use Rattle.std.specs.Option.{option_and_then}
use Rattle.mysql_fields.specs.Wire.{Reading}
use Rattle.mysql_cells.specs.Values.{is_null}
use Rattle.mysql_cells.specs.declared.value.Value.{Value}
use Rattle.mysql_columns.specs.Columns.{ColumnDefinition}
use Rattle.mysql_rows.specs.CellsWritten.{cells_in, holds_null, null_marks, text_cells}
use Rattle.mysql_rows.specs.Written.{binary_cause, binary_cells, binary_row, bits_bytes, cell_in, text_cell, text_row}
use Rattle.mysql_rows.specs.Written.{values_of}

pub text_of_cells : (cells : List (Option Value)) → text_cells cells ≡ text_row (values_of cells)
text_of_cells [] = refl
text_of_cells (None ∷ cells) = text_of_cells cells
text_of_cells (Some value ∷ cells) =
    ap (λ (later : List ℕ). unwrap_or (text_cell value) [] ++ later) (text_of_cells cells)

-- what is looked for isn't the first one, nor is it later
pub not_first : (b : Bool) (place : ℕ) (later : Option ℕ) → cond b (Some place) later ≡ None → later ≡ None
not_first true place later h = absurd (cc)
not_first false place later h = h

-- the first isn't what is looked for
pub first_has : (b : Bool) (place : ℕ) (later : Option ℕ) → cond b (Some place) later ≡ None → b ≡ false
first_has true place later h = absurd (cc)
first_has false place later h = refl

-- neither the first nor a later one is what is looked for
pub speaks_not : (b : Bool) (place : ℕ) (later : Option ℕ) → b ≡ false → later ≡ None → cond b (Some place) later ≡ None
speaks_not true place later h none = absurd (cc)
speaks_not false place later h none = none

-- each cell has a form by its column
abbrev pub NoneSpeaks : List ColumnDefinition → List (Option Value) → ℕ → Type 0
NoneSpeaks columns cells place =
    position_from (λ placed. is_none (option_and_then (cell_in placed.0) placed.1)) place
    (zip columns cells) ≡ None

cells_of_values : (columns : List ColumnDefinition) (cells : List (Option Value)) (place : ℕ) →
    length columns ≡ length cells → NoneSpeaks columns cells place → cells_in columns cells ≡
    binary_cells columns (values_of cells)
cells_of_values [] [] place same none = refl
cells_of_values [] (cell ∷ cells) place same none = absurd (omega (arith, same))
cells_of_values (column ∷ columns) [] place same none = absurd (omega (arith, same))
cells_of_values (column ∷ columns) (None ∷ cells) place same none = absurd (cc)
cells_of_values (column ∷ columns) (Some value ∷ cells) place same none =
    ap (λ (later : List ℕ). unwrap_or (cell_in column value) [] ++
    later) (cells_of_values columns cells (place + 1) (omega (arith, same))
    (not_first (is_none (cell_in column value)) place _ none))

marks_of_values : (columns : List ColumnDefinition) (cells : List (Option Value)) (place : ℕ) →
    length columns ≡ length cells → NoneSpeaks columns cells place → map holds_null cells ≡
    map is_null (values_of cells)
marks_of_values [] [] place same none = refl
marks_of_values [] (cell ∷ cells) place same none = absurd (omega (arith, same))
marks_of_values (column ∷ columns) [] place same none = absurd (omega (arith, same))
marks_of_values (column ∷ columns) (None ∷ cells) place same none = absurd (cc)
marks_of_values (column ∷ columns) (Some value ∷ cells) place same none =
    ap (λ (later : List Bool). is_null value ∷
    later) (marks_of_values columns cells (place + 1) (omega (arith, same))
    (not_first (is_none (cell_in column value)) place _ none))

-- the row of cells is that of their values
pub row_of_values : (columns : List ColumnDefinition) (cells : List (Option Value)) →
    length columns ≡ length cells → binary_cause columns cells ≡ None
    → 0 ∷ (bits_bytes (null_marks cells) ++ cells_in columns cells) ≡ binary_row columns (values_of cells)
row_of_values columns cells same none =
    ap (λ (marks : List Bool). 0 ∷ (bits_bytes (false ∷ false ∷ marks) ++ cells_in columns cells))
    (marks_of_values columns cells 0 same none)
    ∙ ap (λ (l : List ℕ). 0 ∷ (bits_bytes (false ∷ false ∷ map is_null (values_of cells)) ++ l))
    (cells_of_values columns cells 0 same none)

-- cells of which nothing was taken
pub values_of_some : (values : List Value) → values_of (map Some values) ≡ values
values_of_some [] = refl
values_of_some (value ∷ values) = ap (λ (later : List Value). value ∷ later) (values_of_some values)

-- what holds where a call wasn't refused
pub where_done : {E P : Type 0} (result : Result (Unit {0}) E) → is_err result ≡ false → OnOk result P → P
where_done (Ok done) ok holds = holds
where_done (Err e) ok holds = absurd (cc)

-- READING

-- what was read, as a value
abbrev pub as_value : {X : Type 0} → (X → Value) → X × List ℕ → Reading Value
as_value made found = Ok (made found.0, found.1)

-- a value before those that were read
abbrev pub with_value : Value → List Value × List ℕ → Reading (List Value)
with_value value found = Ok (value ∷ found.0, found.1)

-- what was read is what was read, and what is left is what is left
abbrev read_as : {Y : Type 0} → Y × List ℕ → Reading Y
read_as found = Ok found

same_read : {Y : Type 0} (found wanted : Y × List ℕ) → read_as found ≡ read_as wanted → found ≡ wanted
same_read found wanted e = cc

pub read_is : {Y : Type 0} (x y : Y) (left rest : List ℕ) → read_as (x, left) ≡ read_as (y, rest) → x ≡ y
read_is {Y = Y} x y left rest e = ap (λ (found : Y × List ℕ). found.0) (same_read (x, left) (y, rest) e)

pub left_is : {Y : Type 0} (x y : Y) (left rest : List ℕ) → read_as (x, left) ≡ read_as (y, rest) → left ≡ rest
left_is {Y = Y} x y left rest e = ap (λ (found : Y × List ℕ). found.1) (same_read (x, left) (y, rest) e)

-- Values and types that were written are read again.
use Rattle.std.proofs.Common.{◌≡◌, ℕ, ◌==◌, Bool, true, false, List, [], ◌∷◌, ◌++◌, Option, Some, None, Ok, refl, sym}
use Rattle.std.proofs.Common.{◌∙◌, ap, lit<}
use Rattle.std.specs.Prelude.{◌&&◌, ◌||◌, if◌then◌else◌, is_none, is_some, not, unwrap_or}
use Rattle.std.specs.Option.{option_map}
use Rattle.std.specs.Result.{result_ok}
use Rattle.std.proofs.lemmas.Bool.{eqb-true}
use Rattle.mysql_buf.specs.NumberLaws.{bytes_at-append, little-reads_back}
use Rattle.mysql_buf.specs.Reading.{bytes_at, then_at, u8_str_at}
use Rattle.mysql_fields.specs.Wire.{◌>>=◌, or_end}
use Rattle.mysql_const.specs.ColumnTypes.{column_type_number}
use Rattle.mysql_const.specs.NamedLaws.{column_type-names_back}
use Rattle.mysql_const.specs.declared.column_type.ColumnType.{ColumnType}
use Rattle.mysql_cells.specs.Values.{FitsFields}
use Rattle.mysql_cells.specs.CellLaws.{read_back}
use Rattle.mysql_cells.specs.Cells.{cell_at, form, form_of, time_of, value_at}
use Rattle.mysql_cells.specs.TypedCells.{TypedCellsReadBack, some_cell}
use Rattle.mysql_cells.specs.Values.{is_null, is_zero_time}
use Rattle.mysql_cells.specs.declared.cell_form.CellForm.{CellForm}
use Rattle.mysql_cells.specs.declared.cell_form.CellForm.TheVariants.{Duration, Without}
use Rattle.mysql_cells.specs.declared.value.Value.{Value}
use Rattle.mysql_cells.specs.declared.value.Value.TheVariants.{NULL, Bytes, Int, UInt, Float, Double, Date, Time}
use Rattle.mysql_executions.specs.Executions.{typed_value_at}
use Rattle.mysql_executions.specs.declared.types.ParameterType.{ParameterType}
use Rattle.mysql_execution_writer.specs.Cells.{as_read, negative_zero_cell, parameter_cell}

-- ---- a negative time of all zeros

zero_held : List ℕ
zero_held = 1 ∷ 0 ∷ 0 ∷ 0 ∷ 0 ∷ 0 ∷ 0 ∷ 0 ∷ []

zero_str : (rest : List ℕ) → u8_str_at (negative_zero_cell ++ rest) ≡ Some (zero_held, rest)
unfolding zero_held
zero_str rest = ap (λ (count : Option (ℕ × List ℕ)). then_at count bytes_at)
    (little-reads_back 1 8 (zero_held ++ rest) (lit< tt)) ∙ bytes_at-append zero_held rest

zero_read : (shape : CellForm) (unsigned negative : Bool) (days hours minutes seconds micros : ℕ)
    (rest : List ℕ) → is_some
    (some_cell shape unsigned (Time negative days hours minutes seconds micros)) ≡ true
    → value_at shape unsigned (negative_zero_cell ++ rest) ≡ Ok (Time true 0 0 0 0 0, rest)
unfolding zero_held
zero_read Duration unsigned negative days hours minutes seconds micros rest some =
    ap (λ (held : Option (List ℕ × List ℕ)). or_end held >>= λ h. Ok (time_of h.0, h.1))
    (zero_str rest)
zero_read shape unsigned negative days hours minutes seconds micros rest some = absurd (cc)

-- ---- a value by its type

mapped : (o : Option (List ℕ)) → unwrap_or (option_map (λ (cell : List ℕ). cell) o) [] ≡ unwrap_or o []
mapped (Some x) = refl
mapped None = refl

mapped_some : (f : List ℕ → List ℕ) (o : Option (List ℕ)) → is_some (option_map f o) ≡ true → is_some o ≡ true
mapped_some f (Some x) e = refl
mapped_some f None e = absurd cc

mapped_to : (cell : List ℕ) (o : Option (List ℕ)) → is_some (option_map (λ (_ : List ℕ). cell) o) ≡
    true → unwrap_or (option_map (λ (_ : List ℕ). cell) o) [] ≡ cell
mapped_to cell (Some x) e = refl
mapped_to cell None e = absurd cc

not_none : (o : Option (List ℕ)) → is_some o ≡ true → is_none o ≡ false
not_none (Some x) e = refl
not_none None e = absurd cc

pub form_back : (t : ColumnType) → form_of (column_type_number t) ≡ form t
form_back t = ap (λ (found : Option ColumnType). unwrap_or (option_map form found) Without) (column_type-names_back t)

module _ (back : TypedCellsReadBack) (t : ParameterType) (rest : List ℕ) where
  plain : (value : Value) → FitsFields value → is_null value ≡ false →
      is_some (option_map (λ (cell : List ℕ). cell)
      (some_cell (form t.column_type) t.unsigned value)) ≡ true
      → typed_value_at t (unwrap_or
      (option_map (λ (cell : List ℕ). cell) (some_cell (form t.column_type) t.unsigned value))
      [] ++ rest) ≡ Some (read_back value, rest)
  plain value fits none some =
      let o = some_cell (form t.column_type) t.unsigned value in
      ap (λ (cell : List ℕ). typed_value_at t (cell ++ rest)) (mapped o)
      ∙ ap result_ok (back t.column_type t.unsigned value rest fits none
      (not_none o (mapped_some (λ cell. cell) o some)))

  both : (x y : Bool) → (x && y) ≡ true → (x ≡ true) × (y ≡ true)
  both true y e = (refl, e)
  both false y e = absurd cc

  negative : (z : Bool) (days hours minutes seconds micros : ℕ) →
      FitsFields (Time true days hours minutes seconds micros) → z ≡
      is_zero_time days hours minutes seconds micros
      → is_some (option_map (λ (cell : List ℕ). if z then negative_zero_cell else cell)
      (some_cell (form t.column_type) t.unsigned (Time true days hours minutes seconds micros)))
      ≡ true
      → typed_value_at t (unwrap_or
      (option_map (λ (cell : List ℕ). if z then negative_zero_cell else cell)
      (some_cell (form t.column_type) t.unsigned (Time true days hours minutes seconds micros)))
      [] ++ rest)
      ≡ Some (Time true days hours minutes seconds micros, rest)
  unfolding cell_at
  negative false days hours minutes seconds micros fits is some =
      plain (Time true days hours minutes seconds micros) fits refl some
      ∙ ap (λ (z : Bool). Some (Time (true && (false || not z)) days hours minutes seconds micros, rest)) (sym is)
  negative true days hours minutes seconds micros fits is some =
      let o = some_cell (form t.column_type) t.unsigned (Time true days hours minutes seconds micros) in
      let a = both (((days == 0) && (hours == 0) && (minutes == 0)) && (seconds == 0)) (micros == 0) (sym is) in
      let b = both ((days == 0) && (hours == 0) && (minutes == 0)) (seconds == 0) a.0 in
      let d = both ((days == 0) && (hours == 0)) (minutes == 0) b.0 in
      let e = both (days == 0) (hours == 0) d.0 in
      let days_is : 0 ≡ days = sym (eqb-true days 0 e.0) in
      let hours_is : 0 ≡ hours = sym (eqb-true hours 0 e.1) in
      let minutes_is : 0 ≡ minutes = sym (eqb-true minutes 0 d.1) in
      let seconds_is : 0 ≡ seconds = sym (eqb-true seconds 0 b.1) in
      let micros_is : 0 ≡ micros = sym (eqb-true micros 0 a.1) in
      ap (λ (cell : List ℕ). typed_value_at t (cell ++ rest)) (mapped_to negative_zero_cell o some)
      ∙ ap (λ (shape : CellForm). result_ok
      (value_at shape t.unsigned (negative_zero_cell ++ rest))) (form_back t.column_type)
      ∙ ap result_ok (zero_read (form t.column_type) t.unsigned true days hours minutes seconds
      micros rest (mapped_some (λ _. negative_zero_cell) o some))
      ∙ (λ i. Some (Time true (days_is i) (hours_is i) (minutes_is i) (seconds_is i) (micros_is i), rest))

  pub value_back : (value : Value) → FitsFields value → is_null value ≡ false → is_some (parameter_cell t value) ≡ true
      → typed_value_at t (unwrap_or (parameter_cell t value) [] ++ rest) ≡ Some (as_read value, rest)
  value_back NULL fits none some = absurd cc
  value_back (Bytes bytes) fits none some = plain (Bytes bytes) fits none some
  value_back (Int z) fits none some = plain (Int z) fits none some
  value_back (UInt n) fits none some = plain (UInt n) fits none some
  value_back (Float bits) fits none some = plain (Float bits) fits none some
  value_back (Double bits) fits none some = plain (Double bits) fits none some
  value_back (Date year month day hour minute second micros) fits none some =
      plain (Date year month day hour minute second micros) fits none some
  value_back (Time false days hours minutes seconds micros) fits none some =
      plain (Time false days hours minutes seconds micros) fits none some
  value_back (Time true days hours minutes seconds micros) fits none some =
      negative (is_zero_time days hours minutes seconds micros) days hours minutes seconds micros
      fits refl some

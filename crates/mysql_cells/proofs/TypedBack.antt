-- Cells that were written by a type are read by it.
use Rattle.std.proofs.Common.{◌≡◌, ℕ, ℤ, pos, negsuc, suc, ◌-◌, ◌*◌, ◌^◌, ◌<◌, ◌≤◌, Bool, true, false, List, [], ◌++◌}
use Rattle.std.proofs.Common.{Option, Some, None, Ok, refl, sym, subst, ◌∙◌, ap, arith, lit<, lit≤}
use Rattle.std.specs.Prelude.{FitsSigned, if◌then◌else◌, is_none, unwrap_or}
use Rattle.std.specs.Int.{Width, w8, w16, w32, w64, cast_unsigned}
use Rattle.std.specs.Option.{option_map}
use Rattle.std.proofs.Math.Facts.{Fits-of_z}
use Rattle.std.proofs.lemmas.Bool.{lt-ltb, ltb-true}
use Rattle.std.proofs.lemmas.Int.{to_z-of_z}
use Rattle.byteorder.specs.Endian.{little_bytes}
use mir.Val.{bits, hbits}
use Rattle.mysql_fields.specs.Laws.{fixed_number_at-back}
use Rattle.mysql_fields.specs.Wire.{Reading, ◌>>=◌}
use Rattle.mysql_const.specs.NamedLaws.{column_type-names_back}
use Rattle.mysql_const.specs.declared.column_type.ColumnType.{ColumnType}
use Rattle.mysql_const.specs.ColumnTypes.{column_type_number}
use Rattle.mysql_cells.specs.Values.{FitsFields}
use Rattle.mysql_cells.specs.CellLaws.{read_back}
use Rattle.mysql_cells.specs.Cells.{cell_at, form, form_of, number_value_at, unsigned_value, value_at, whole_value}
use Rattle.mysql_cells.specs.TypedCells.{TypedCellsReadBack, in_range, number_cell, some_cell, whole_cell}
use Rattle.mysql_cells.specs.Values.{is_null}
use Rattle.mysql_cells.specs.declared.cell_form.CellForm.{CellForm}
use Rattle.mysql_cells.specs.declared.cell_form.CellForm.TheVariants.{Whole1, Whole2, Whole4, Whole8, FloatBits}
use Rattle.mysql_cells.specs.declared.cell_form.CellForm.TheVariants.{DoubleBits, Counted, DateAndTime, Duration}
use Rattle.mysql_cells.specs.declared.cell_form.CellForm.TheVariants.{Without}
use Rattle.mysql_cells.specs.declared.value.Value.{Value}
use Rattle.mysql_cells.specs.declared.value.Value.TheVariants.{NULL, Bytes, Int, UInt, Float, Double, Date, Time}
use Rattle.mysql_cells.proofs.WrittenCells.{cells_read_back}

-- WHOLE NUMBERS

-- an unsigned number below 2 ^ 63 as Int
as_int : (n : ℕ) → n < 2 ^ 63 → unsigned_value n ≡ Int (pos n)
as_int n h = rw (lt-ltb n (2 ^ 63) h) refl

-- how many bytes a width has
pub record Has (n : ℕ) (w : Width) : Type 0 where
  pub whole : 2 ^ (8 * n) ≡ 256 ^ n
  pub same : 2 ^ bits w ≡ 256 ^ n
  pub half : 2 ^ (8 * n - 1) ≡ 2 ^ hbits w
  pub small : 2 ^ hbits w ≤ 2 ^ 63
  pub double : 2 ^ bits w ≡ 2 * 2 ^ hbits w
  pub some : 0 < 2 ^ bits w

pub one_byte : Has 1 w8
one_byte = record { whole = refl; same = refl; half = refl; small = lit≤ tt; double = refl; some = lit< tt }

pub two_bytes : Has 2 w16
two_bytes = record { whole = refl; same = refl; half = refl; small = lit≤ tt; double = refl; some = lit< tt }

pub four_bytes : Has 4 w32
four_bytes = record { whole = refl; same = refl; half = refl; small = lit≤ tt; double = refl; some = lit< tt }

pub eight_bytes : Has 8 w64
eight_bytes = record { whole = refl; same = refl; half = refl; small = lit≤ tt; double = refl; some = lit< tt }

-- what is read as a number of this width
abbrev number_at : ℕ → Width → Bool → List ℕ → Reading Value
number_at n w unsigned bytes = number_value_at n (whole_value w unsigned) bytes

number_read : (n : ℕ) (w : Width) (unsigned : Bool) (x : ℕ) (later : List ℕ) → x < 256 ^ n →
    number_at n w unsigned (little_bytes n x ++ later) ≡ Ok (whole_value w unsigned x, later)
number_read n w unsigned x later h =
    ap (λ (r : Reading ℕ). r >>= λ x. Ok (whole_value w unsigned x.0, x.1))
    (fixed_number_at-back n x later h)

below_bits : (n : ℕ) (w : Width) → Has n w → (z : ℕ) → 2 ^ bits w - suc z < 256 ^ n
below_bits n w has z = omega (arith, has.same, has.some)

-- in two's complement
signed_read : (n : ℕ) (w : Width) → Has n w → (z : ℤ) (later : List ℕ) → FitsSigned w z →
    cast_unsigned w z < 256 ^ n →
    number_at n w false (little_bytes n (cast_unsigned w z) ++ later) ≡ Ok (Int z, later)
signed_read n w has z later fits below = number_read n w false (cast_unsigned w z) later below ∙
    ap (λ (z : ℤ). Ok (Int z, later)) (to_z-of_z w z fits)

-- a number in range, as it is read
number_back : (n : ℕ) (w : Width) → Has n w → (unsigned : Bool) (z : ℤ) (later : List ℕ) →
    in_range (8 * n) unsigned z ≡ true
    → (value : Value) → ((m : ℕ) → z ≡ pos m → unsigned ≡ true → unsigned_value m ≡ value) →
    (unsigned ≡ false → Int z ≡ value)
    → number_at n w unsigned (little_bytes n (cast_unsigned w z) ++ later) ≡ Ok (value, later)
number_back n w has true (pos m) later inside value whole signed =
    number_read n w true m later (omega (arith, ltb-true m (2 ^ (8 * n)) inside, has.whole)) ∙
    ap (λ (value : Value). Ok (value, later)) (whole m refl refl)
number_back n w has true (negsuc m) later inside value whole signed = absurd (cc)
number_back n w has false (pos m) later inside value whole signed =
    let low : m < 2 ^ hbits w = omega (arith, ltb-true m (2 ^ (8 * n - 1)) inside, has.half) in
    let fits : FitsSigned w (pos m) = record { sfits = low } in
    signed_read n w has (pos m) later fits
    (omega (arith, Fits-of_z {w = w} {z = pos m} fits, has.same)) ∙
    ap (λ (value : Value). Ok (value, later)) (signed refl)
number_back n w has false (negsuc m) later inside value whole signed =
    let low : m < 2 ^ hbits w = omega (arith, ltb-true m (2 ^ (8 * n - 1)) inside, has.half) in
    signed_read n w has (negsuc m) later (record { sfits = low }) (below_bits n w has m) ∙
    ap (λ (value : Value). Ok (value, later)) (signed refl)

-- where there is a cell the number is in range
is_inside : (b : Bool) (bytes : List ℕ) → is_none (if b then Some bytes else None) ≡ false → b ≡ true
is_inside true bytes some = refl
is_inside false bytes some = absurd (cc)

cell_is : (b : Bool) (bytes : List ℕ) → b ≡ true → unwrap_or (if b then Some bytes else None) [] ≡ bytes
cell_is true bytes is = refl
cell_is false bytes is = absurd (cc)

number_cell_back : (n : ℕ) (w : Width) → Has n w → (unsigned : Bool) (z : ℤ) (later : List ℕ) →
    is_none (number_cell n w unsigned z) ≡ false
    → (value : Value) → ((m : ℕ) → z ≡ pos m → unsigned ≡ true → unsigned_value m ≡ value) →
    (unsigned ≡ false → in_range (8 * n) false z ≡ true → Int z ≡ value)
    → number_at n w unsigned (unwrap_or (number_cell n w unsigned z) [] ++ later) ≡ Ok (value, later)
number_cell_back n w has unsigned z later some value whole signed =
    let inside : in_range (8 * n) unsigned z ≡ true =
    is_inside (in_range (8 * n) unsigned z) (little_bytes n (cast_unsigned w z)) some in
    ap (λ (cell : List ℕ). number_at n w unsigned (cell ++ later))
    (cell_is (in_range (8 * n) unsigned z) (little_bytes n (cast_unsigned w z)) inside)
    ∙ number_back n w has unsigned z later inside value whole
    (λ off. signed off (sym (ap (λ b. in_range (8 * n) b z) off) ∙ inside))

pos_is : (m n : ℕ) → pos m ≡ pos n → m ≡ n
pos_is m n e = cc

whole_back : (n : ℕ) (w : Width) → Has n w → (unsigned : Bool) (value : Value) (later : List ℕ) →
    FitsFields value → is_none (whole_cell n w unsigned value) ≡ false
    → number_at n w unsigned (unwrap_or (whole_cell n w unsigned value) [] ++ later) ≡ Ok (read_back value, later)
whole_back n w has unsigned NULL later fits some = absurd (cc)
whole_back n w has unsigned (Bytes bytes) later fits some = absurd (cc)
whole_back n w has unsigned (Int z) later fits some =
    number_cell_back n w has unsigned z later some (Int z)
    (λ m is on. as_int m (let f : FitsSigned w64 (pos m) = subst (FitsSigned w64) is fits in
    omega (arith, f.sfits)) ∙ ap (λ (z : ℤ). Int z) (sym is))
    (λ off inside. refl)
whole_back n w has unsigned (UInt x) later fits some =
    number_cell_back n w has unsigned (pos x) later some (unsigned_value x)
    (λ m is on. ap unsigned_value (sym (pos_is x m is)))
    (λ off inside. sym (as_int x (omega (arith, ltb-true x (2 ^ (8 * n - 1)) inside, has.half, has.small))))
whole_back n w has unsigned (Float float) later fits some = absurd (cc)
whole_back n w has unsigned (Double double) later fits some = absurd (cc)
whole_back n w has unsigned (Date year month day hour minute second micros) later fits some = absurd (cc)
whole_back n w has unsigned (Time negative days hours minutes seconds micros) later fits some = absurd (cc)

-- ONE CELL

pub form_back : (t : ColumnType) → form_of (column_type_number t) ≡ form t
form_back t = ap (λ (found : Option ColumnType). unwrap_or (option_map form found) Without) (column_type-names_back t)

by_form : (shape : CellForm) (unsigned : Bool) (value : Value) (later : List ℕ) → FitsFields value →
    is_null value ≡ false → is_none (some_cell shape unsigned value) ≡ false
    → value_at shape unsigned (unwrap_or (some_cell shape unsigned value) [] ++ later) ≡ Ok (read_back value, later)
unfolding cell_at
by_form Whole1 unsigned value later fits none some = whole_back 1 w8 one_byte unsigned value later fits some
by_form Whole2 unsigned value later fits none some = whole_back 2 w16 two_bytes unsigned value later fits some
by_form Whole4 unsigned value later fits none some = whole_back 4 w32 four_bytes unsigned value later fits some
by_form Whole8 unsigned value later fits none some = whole_back 8 w64 eight_bytes unsigned value later fits some
by_form FloatBits unsigned (Float float) later fits none some = cells_read_back (Float float) later fits
by_form DoubleBits unsigned (Double double) later fits none some = cells_read_back (Double double) later fits
by_form Counted unsigned (Bytes bytes) later fits none some = cells_read_back (Bytes bytes) later fits
by_form DateAndTime unsigned (Date year month day hour minute second micros) later fits none some =
    cells_read_back (Date year month day hour minute second micros) later fits
by_form Duration unsigned (Time negative days hours minutes seconds micros) later fits none some =
    cells_read_back (Time negative days hours minutes seconds micros) later fits
by_form shape unsigned value later fits none some = absurd (cc)

pub typed_cells_read_back : TypedCellsReadBack
unfolding cell_at
typed_cells_read_back t unsigned value rest fits none some =
    ap (λ (shape : CellForm). value_at shape unsigned
    (unwrap_or (some_cell (form t) unsigned value) [] ++ rest)) (form_back t)
    ∙ by_form (form t) unsigned value rest fits none some

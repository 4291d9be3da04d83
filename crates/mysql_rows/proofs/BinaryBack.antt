-- Binary rows are read again.
use Rattle.std.proofs.Common.{◌≡◌, ℕ, zero, suc, ◌+◌, ◌*◌, ◌/◌, ◌%◌, ◌^◌, ◌<◌, ◌==◌, Bool, true, false, List, [], ◌∷◌}
use Rattle.std.proofs.Common.{◌++◌, length, map, drop, get_or, Some, None, Ok, refl, sym, ◌∙◌, ap, append_assoc, arith}
use Rattle.std.specs.Prelude.{if◌then◌else◌, is_none, slice_index, unwrap_or, zip}
use Rattle.std.specs.List.{AllByRecursion, position_from}
use Rattle.std.specs.Option.{option_and_then}
use Rattle.std.proofs.Math.Nat.{div-div-eq-div-mul, pow-succ'}
use Rattle.std.proofs.lemmas.List.{get_or-drop, length-drop, length-map}
use Rattle.std.proofs.lemmas.List.FromFn.{get_or-map-range_with_len, length-map-range_with_len}
use Rattle.byteorder.specs.Endian.{little_number}
use Rattle.mysql_buf.specs.FirstBytes.{first-enough}
use Rattle.mysql_fields.specs.Laws.{bytes_at-back}
use Rattle.mysql_fields.specs.Wire.{Reading, ◌>>=◌}
use Rattle.mysql_field_lists.specs.NullBitmap.{bitmap_len, has_bit, is_null_at}
use Rattle.mysql_cells.specs.Values.{FitsFields}
use Rattle.mysql_cells.specs.TypedCells.{TypedCellsReadBack}
use Rattle.mysql_cells.specs.Cells.{has_no_sign}
use Rattle.mysql_cells.specs.Values.{is_null}
use Rattle.mysql_cells.specs.declared.value.Value.{Value}
use Rattle.mysql_cells.specs.declared.value.Value.TheVariants.{NULL, Bytes, Int, UInt, Float, Double, Date, Time}
use Rattle.mysql_columns.specs.Columns.{ColumnDefinition}
use Rattle.mysql_rows.specs.Rows.{binary_cell_at, binary_cells_at, binary_resultset_row_at, binary_row_body_at}
use Rattle.mysql_rows.specs.Written.{as_binary, binary_cells, bits_bytes, bits_number, cell_in, row_bitmap}
use Rattle.mysql_rows.specs.WrittenLaws.{BinaryRowsBegin, BinaryRowsReadBack}
use Rattle.mysql_rows.proofs.WholeRows.{first_has, not_first}

-- ONE CELL

module _ (back : TypedCellsReadBack) where
  cell_back : (column : ColumnDefinition) (value : Value) (later : List ℕ) → FitsFields value →
      is_none (cell_in column value) ≡ false
      → binary_cell_at (is_null value) column (unwrap_or (cell_in column value) [] ++ later) ≡
      Ok (as_binary value, later)
  cell_back column NULL later fits some = refl
  cell_back column (Bytes bytes) later fits some =
      back column.column_type (has_no_sign column.flags) (Bytes bytes) later fits refl some
  cell_back column (Int z) later fits some =
      back column.column_type (has_no_sign column.flags) (Int z) later fits refl some
  cell_back column (UInt n) later fits some =
      back column.column_type (has_no_sign column.flags) (UInt n) later fits refl some
  cell_back column (Float float) later fits some =
      back column.column_type (has_no_sign column.flags) (Float float) later fits refl some
  cell_back column (Double double) later fits some =
      back column.column_type (has_no_sign column.flags) (Double double) later fits refl some
  cell_back column (Date year month day hour minute second micros) later fits some =
      back column.column_type (has_no_sign column.flags)
      (Date year month day hour minute second micros) later fits refl some
  cell_back column (Time negative days hours minutes seconds micros) later fits some =
      back column.column_type (has_no_sign column.flags)
      (Time negative days hours minutes seconds micros) later fits refl some

  -- CELLS

  cells_back : (bitmap : List ℕ) (place : ℕ) (columns : List ColumnDefinition) (values : List Value)
      (later : List ℕ) → length columns ≡ length values →
      AllByRecursion (λ value. FitsFields value) values
      → position_from (λ placed. is_none (option_and_then (cell_in placed.0) placed.1)) place
      (zip columns (map Some values)) ≡ None
      → ((k : ℕ) → k < length values → is_null_at 2 bitmap (place + k) ≡ is_null (get_or values k NULL))
      → binary_cells_at 2 bitmap place columns (binary_cells columns values ++ later) ≡ Ok (map as_binary values, later)
  unfolding binary_cells_at
  cells_back bitmap place [] [] later same fits none nulls = refl
  cells_back bitmap place [] (value ∷ values) later same fits none nulls = absurd (omega (arith, same))
  cells_back bitmap place (column ∷ columns) [] later same fits none nulls = absurd (omega (arith, same))
  cells_back bitmap place (column ∷ columns) (value ∷ values) later same fits none nulls =
      let cell = unwrap_or (cell_in column value) [] in
      let here : is_null_at 2 bitmap place ≡ is_null value =
      ap (λ n. is_null_at 2 bitmap n) (omega arith) ∙ nulls 0 (omega arith) in
      let one = ap (λ (null : Bool). binary_cell_at null column (cell ++ (binary_cells columns values ++ later))) here
      ∙ cell_back column value (binary_cells columns values ++
      later) fits.0 (first_has (is_none (cell_in column value)) place _ none) in
      let others = cells_back bitmap (place + 1) columns values later (omega (arith, same)) fits.1
      (not_first (is_none (cell_in column value)) place _ none)
      (λ k inside. ap (λ n. is_null_at 2 bitmap n) (omega arith) ∙ nulls (suc k) (omega (arith, inside))) in
      ap (λ (l : List ℕ). binary_cells_at 2 bitmap place (column ∷ columns) l)
      (append_assoc cell (binary_cells columns values) later)
      ∙ ap (λ (r : Reading Value). r >>= λ cell. binary_cells_at 2 bitmap (place + 1) columns cell.1
      >>= λ cells. Ok (cell.0 ∷ cells.0, cells.1)) one
      ∙ ap (λ (r : Reading (List Value)). r >>= λ cells. Ok (as_binary value ∷ cells.0, cells.1)) others

-- THE BITMAP

abbrev one_if : Bool → ℕ
one_if b = if b then 1 else 0

lowest : (b : Bool) (rest : ℕ) → (one_if b + 2 * rest) / 2 ^ 0 % 2 ≡ one_if b
lowest true rest = omega arith
lowest false rest = omega arith

halved : (b : Bool) (rest : ℕ) → (one_if b + 2 * rest) / 2 ≡ rest
halved true rest = omega arith
halved false rest = omega arith

higher : (b : Bool) (rest k : ℕ) → (one_if b + 2 * rest) / 2 ^ suc k % 2 ≡ rest / 2 ^ k % 2
higher b rest k =
    ap (λ n. (one_if b + 2 * rest) / n % 2) (pow-succ' 2 k) ∙
    ap (λ n. n % 2) (sym (div-div-eq-div-mul (one_if b + 2 * rest) 2 (2 ^ k))) ∙
    ap (λ n. n / 2 ^ k % 2) (halved b rest)

bit_of : (k count : ℕ) (marks : List Bool) → k < count → k < length marks →
    bits_number count marks / 2 ^ k % 2 ≡ one_if (get_or marks k false)
unfolding bits_number
bit_of k zero marks few inside = absurd (omega (arith, few))
bit_of k (suc count) [] few inside = absurd (omega (arith, inside))
bit_of zero (suc count) (mark ∷ marks) few inside = lowest mark (bits_number count marks)
bit_of (suc k) (suc count) (mark ∷ marks) few inside = higher mark (bits_number count marks) k ∙
    bit_of k count marks (omega (arith, few)) (omega (arith, inside))

is_one : (b : Bool) → (one_if b == 1) ≡ b
is_one true = refl
is_one false = refl

bit_at_place : (marks : List Bool) (number : ℕ) → number < length marks →
    has_bit (bits_bytes marks) number ≡ get_or marks number false
unfolding bits_bytes
bit_at_place marks number inside =
    let byte : slice_index (bits_bytes marks) (number / 8) ≡ bits_number 8 (drop (8 * (number / 8)) marks) =
    get_or-map-range_with_len (λ k. bits_number 8 (drop (8 * k) marks)) 0 ((length marks + 7) / 8)
    (number / 8) (number / 8) 0 (omega arith) (omega arith) in
    let bit = bit_of (number % 8) 8 (drop (8 * (number / 8)) marks) (omega arith)
    (omega (arith, length-drop (8 * (number / 8)) marks)) in
    let here : get_or (drop (8 * (number / 8)) marks) (number % 8) false ≡ get_or marks number false =
    get_or-drop (8 * (number / 8)) marks (number % 8) false ∙ ap (λ n. get_or marks n false) (omega arith) in
    ap (λ b. (b / 2 ^ (number % 8) % 2) == 1) byte ∙
    ap (λ n. n == 1) (bit ∙ ap (λ v. one_if v) here) ∙ is_one (get_or marks number false)

inside_mark : (values : List Value) (k : ℕ) → k < length values →
    get_or (map is_null values) k false ≡ is_null (get_or values k NULL)
inside_mark [] k inside = absurd (omega (arith, inside))
inside_mark (value ∷ values) zero inside = refl
inside_mark (value ∷ values) (suc k) inside = inside_mark values k (omega (arith, inside))

nulls_told : (values : List Value) (k : ℕ) → k < length values →
    is_null_at 2 (row_bitmap values) (0 + k) ≡ is_null (get_or values k NULL)
nulls_told values k inside =
    let number : 2 + (0 + k) ≡ suc (suc k) = omega arith in
    ap (λ n. has_bit (row_bitmap values) n) number
    ∙ bit_at_place (false ∷ false ∷ map is_null values) (suc (suc k))
    (omega (arith, inside, length-map values is_null)) ∙ inside_mark values k inside

bitmap_length : (columns : List ColumnDefinition) (values : List Value) → length columns ≡
    length values → length (row_bitmap values) ≡ bitmap_len 2 (length columns)
unfolding bits_bytes
bitmap_length columns values same =
    let marks : List Bool = false ∷ false ∷ map is_null values in
    omega (
      arith,
      length-map-range_with_len (λ k. bits_number 8 (drop (8 * k) marks)) 0
          ((length marks + 7) / 8),
      length-map values is_null,
      same,
    )

-- ROWS

pub after_zero : (columns : List ColumnDefinition) (rest : List ℕ) →
    binary_resultset_row_at columns (0 ∷ rest) ≡ binary_row_body_at 2 columns rest
unfolding binary_resultset_row_at
after_zero columns rest = rw (first-enough 1 (little_number 1) (0 ∷ rest) (omega arith)) refl

after_bitmap : (columns : List ColumnDefinition) (bitmap cells : List ℕ) → length bitmap ≡
    bitmap_len 2 (length columns) → binary_row_body_at 2 columns (bitmap ++ cells) ≡
    binary_cells_at 2 bitmap 0 columns cells
unfolding binary_row_body_at
after_bitmap columns bitmap cells len =
    ap (λ (r : Reading (List ℕ)). r >>= λ bitmap. binary_cells_at 2 bitmap.0 0 columns bitmap.1)
    (bytes_at-back (bitmap_len 2 (length columns)) bitmap cells len)

pub binary_rows_read_back : TypedCellsReadBack → BinaryRowsReadBack
binary_rows_read_back back columns values rest same fits none =
    after_zero columns ((row_bitmap values ++ binary_cells columns values) ++ rest)
    ∙ ap (binary_row_body_at 2 columns) (append_assoc (row_bitmap values) (binary_cells columns values) rest)
    ∙ after_bitmap columns (row_bitmap values) (binary_cells columns values ++ rest) (bitmap_length columns values same)
    ∙ cells_back back (row_bitmap values) 0 columns values rest same fits none (nulls_told values)

pub binary_rows_begin : BinaryRowsBegin
binary_rows_begin columns values first others e = cc

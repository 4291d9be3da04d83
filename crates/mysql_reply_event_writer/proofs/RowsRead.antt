-- Values of rows that were read fit their fields.
use Rattle.std.proofs.Common.{◌≡◌, ◌<◌, ◌≤◌, ◌+◌, ◌^◌, ◌==◌, if◌then◌else◌, nat_lt, pos, ℕ, zero, suc, Bool, true}
use Rattle.std.proofs.Common.{false, List, [], ◌∷◌, length, drop}
use Rattle.std.proofs.Common.{Ok, Err, refl, subst, arith, FitsSigned}
use Rattle.std.proofs.Math.Facts.{sfits_to_z}
use Rattle.std.proofs.lemmas.Bool.{ltb-true}
use mir.Val.{bits, hbits}
use Rattle.std.specs.Int.{Width, w8, w16, w32, w64, cast_signed}
use Rattle.std.specs.List.{AllByRecursion}
use Rattle.byteorder.specs.Endian.{little_number}
use Rattle.byteorder.specs.Numbers.{little_from-lt}
use Rattle.mysql_buf.specs.Bytes.{AreBytes}
use Rattle.mysql_cells.specs.Values.{FitsFields}
use Rattle.mysql_cells.specs.Cells.{cell_at, column_cell_at, date_of, number_value_at, part, text_cell_at, time_of}
use Rattle.mysql_cells.specs.Cells.{unsigned_value, value_at, whole_value}
use Rattle.mysql_cells.specs.declared.cell_form.CellForm.{CellForm}
use Rattle.mysql_cells.specs.declared.cell_form.CellForm.TheVariants.{Nothing, Whole1, Whole2, Whole4, Whole8}
use Rattle.mysql_cells.specs.declared.cell_form.CellForm.TheVariants.{FloatBits, DoubleBits, Counted, DateAndTime}
use Rattle.mysql_cells.specs.declared.cell_form.CellForm.TheVariants.{Duration, Without}
use Rattle.mysql_cells.specs.declared.value.Value.{Value}
use Rattle.mysql_cells.specs.declared.value.Value.TheVariants.{NULL, Bytes, Int, UInt, Float, Double}
use Rattle.mysql_columns.specs.Columns.{ColumnDefinition}
use Rattle.mysql_field_constants.specs.Constants.{constant_at}
use Rattle.mysql_field_lists.specs.Lists.{elements_at}
use Rattle.mysql_field_lists.specs.NullBitmap.{bitmap_len, is_null_at}
use Rattle.mysql_fields.specs.Forms.{bytes_at, fixed_number_at}
use Rattle.mysql_fields.specs.Laws.{bind_ok, done, ok_same}
use Rattle.mysql_fields.specs.Texts.{lenenc_text_at, u8_text_at}
use Rattle.mysql_fields.specs.Wire.{◌>>=◌}
use Rattle.mysql_fields.specs.declared.error.WireError.TheVariants.{BadLength}
use Rattle.mysql_rows.specs.Rows.{binary_cell_at, binary_cells_at, binary_resultset_row_at, binary_row_body_at}
use Rattle.mysql_rows.specs.Rows.{text_row_at}
use Rattle.mysql_reply_event_writer.proofs.FieldsRead.{block_read, constant_read, left_bytes, number_read}
use Rattle.mysql_reply_event_writer.proofs.FieldsRead.{short_text_read, text_read}

-- a value that fits its fields, and bytes are left
abbrev pub ValueRead : Value × List ℕ → Type 0
ValueRead x = FitsFields x.0 × AreBytes x.1

-- NUMBERS

number_fits : (n : ℕ) (made : ℕ → Value) (bytes : List ℕ) (x : Value × List ℕ) → AreBytes bytes →
    ((y : ℕ) → y < 256 ^ n → FitsFields (made y)) → number_value_at n made bytes ≡ Ok x → ValueRead x
number_fits n made bytes x small fits h =
    let number = bind_ok (fixed_number_at n bytes) _ x h in
    let read = number_read n bytes number.0 small number.1 in
    let value : Value × List ℕ = (made number.0.0, number.0.1) in
    subst ValueRead (ok_same value x number.2) (fits number.0.0 read.0, read.1.1)

unsigned_fits : (n : ℕ) → n < 2 ^ 64 → FitsFields (unsigned_value n)
unsigned_fits n small = go (nat_lt n (2 ^ 63)) refl where
  go : (low : Bool) → nat_lt n (2 ^ 63) ≡ low → FitsFields (if low then Int (pos n) else UInt n)
  go true is = let less = ltb-true n (2 ^ 63) is in omega (arith, less)
  go false is = small

-- a signed number of a width fits a wider one
wider : (w : Width) (n : ℕ) → 2 ^ hbits w ≤ 2 ^ 63 → n < 2 ^ bits w → FitsSigned w64 (cast_signed w n)
wider w n narrow small =
    let fits = (sfits_to_z {w = w} {n = n} (record { fits = small })).sfits in
    record { sfits = omega (arith, fits, narrow) }

whole_fits : (w : Width) (unsigned : Bool) (n : ℕ) → 2 ^ hbits w ≤ 2 ^ 63 → n < 2 ^ bits w → n < 2 ^ 64 →
    FitsFields (whole_value w unsigned n)
whole_fits w true n narrow fits small = unsigned_fits n small
whole_fits w false n narrow fits small = wider w n narrow fits

-- TIMES

part_fits : (held : List ℕ) (least i n : ℕ) → AreBytes held → 1 ≤ 256 ^ n → part held least i n < 256 ^ n
part_fits held least i n small some = go (nat_lt (length held) least) where
  go : (few : Bool) → (if few then 0 else little_number n (drop i held)) < 256 ^ n
  go true = omega (arith, some)
  go false = little_from-lt 0 n (drop i held) (left_bytes i held small)

date_fits : (held : List ℕ) → AreBytes held → FitsFields (date_of held)
date_fits held small = (
  omega (arith, part_fits held 4 0 2 small (omega arith)),
  omega (arith, part_fits held 4 2 1 small (omega arith)),
  omega (arith, part_fits held 4 3 1 small (omega arith)),
  omega (arith, part_fits held 7 4 1 small (omega arith)),
  omega (arith, part_fits held 7 5 1 small (omega arith)),
  omega (arith, part_fits held 7 6 1 small (omega arith)),
  omega (arith, part_fits held 11 7 4 small (omega arith)),
)

time_fits : (held : List ℕ) → AreBytes held → FitsFields (time_of held)
time_fits held small = (
  omega (arith, part_fits held 8 1 4 small (omega arith)),
  omega (arith, part_fits held 8 5 1 small (omega arith)),
  omega (arith, part_fits held 8 6 1 small (omega arith)),
  omega (arith, part_fits held 8 7 1 small (omega arith)),
  omega (arith, part_fits held 12 8 4 small (omega arith)),
)

-- a value made of a text behind its length in one byte
counted_fits : (made : List ℕ → Value) (bytes : List ℕ) (x : Value × List ℕ) → AreBytes bytes →
    ((held : List ℕ) → AreBytes held → FitsFields (made held)) →
    (u8_text_at bytes >>= λ held. done (made held.0, held.1)) ≡ Ok x → ValueRead x
counted_fits made bytes x small fits h =
    let held = bind_ok (u8_text_at bytes) (λ held. done (made held.0, held.1)) x h in
    let read = short_text_read bytes held.0 small held.1 in
    let value : Value × List ℕ = (made held.0.0, held.0.1) in
    subst ValueRead (ok_same value x held.2) (fits held.0.0 read.0, read.1)

-- CELLS

text_fits : (bytes : List ℕ) (x : Value × List ℕ) → AreBytes bytes →
    (lenenc_text_at bytes >>= λ held. done (Bytes held.0, held.1)) ≡ Ok x → ValueRead x
text_fits bytes x small h =
    let held = bind_ok (lenenc_text_at bytes) (λ held. done (Bytes held.0, held.1)) x h in
    let read = text_read bytes held.0 small held.1 in
    let value : Value × List ℕ = (Bytes held.0.0, held.0.1) in
    subst ValueRead (ok_same value x held.2) ((read.1, read.0), read.2.1)

form_fits : (form : CellForm) (unsigned : Bool) (bytes : List ℕ) (x : Value × List ℕ) → AreBytes bytes →
    value_at form unsigned bytes ≡ Ok x → ValueRead x
form_fits Nothing unsigned bytes x small h =
    let value : Value × List ℕ = (NULL, bytes) in subst ValueRead (ok_same value x h) (tt, small)
form_fits Whole1 unsigned bytes x small h = number_fits 1 (whole_value w8 unsigned) bytes x small
    (λ n fits. whole_fits w8 unsigned n (omega arith) (omega (arith, fits)) (omega (arith, fits))) h
form_fits Whole2 unsigned bytes x small h = number_fits 2 (whole_value w16 unsigned) bytes x small
    (λ n fits. whole_fits w16 unsigned n (omega arith) (omega (arith, fits)) (omega (arith, fits))) h
form_fits Whole4 unsigned bytes x small h = number_fits 4 (whole_value w32 unsigned) bytes x small
    (λ n fits. whole_fits w32 unsigned n (omega arith) (omega (arith, fits)) (omega (arith, fits))) h
form_fits Whole8 unsigned bytes x small h = number_fits 8 (whole_value w64 unsigned) bytes x small
    (λ n fits. whole_fits w64 unsigned n (omega arith) (omega (arith, fits)) (omega (arith, fits))) h
form_fits FloatBits unsigned bytes x small h =
    number_fits 4 (λ n. Float n) bytes x small (λ n fits. omega (arith, fits)) h
form_fits DoubleBits unsigned bytes x small h =
    number_fits 8 (λ n. Double n) bytes x small (λ n fits. omega (arith, fits)) h
form_fits Counted unsigned bytes x small h = text_fits bytes x small h
form_fits DateAndTime unsigned bytes x small h = counted_fits date_of bytes x small date_fits h
form_fits Duration unsigned bytes x small h = counted_fits time_of bytes x small time_fits h
form_fits Without unsigned bytes x small h = absurd cc

column_cell_fits : (column : ColumnDefinition) (bytes : List ℕ) (x : Value × List ℕ) → AreBytes bytes →
    column_cell_at (column.column_type, column.flags) bytes ≡ Ok x → ValueRead x
unfolding cell_at
column_cell_fits column bytes x small h = form_fits _ _ bytes x small h

-- TEXT ROWS

text_cell_fits : (bytes : List ℕ) (x : Value × List ℕ) → AreBytes bytes → text_cell_at bytes ≡ Ok x → ValueRead x
unfolding text_cell_at
text_cell_fits [] x small h = absurd cc
text_cell_fits (b ∷ bytes) x small h = go (b == 251) (b == 255) h where
  go : (null bad : Bool) → (if null then Ok (NULL, bytes) else if bad then Err BadLength
      else lenenc_text_at (b ∷ bytes) >>= λ held. done (Bytes held.0, held.1)) ≡ Ok x → ValueRead x
  go true bad e =
      let value : Value × List ℕ = (NULL, bytes) in
      subst ValueRead (ok_same value x e) (tt, λ i. small (suc i))
  go false true e = absurd cc
  go false false e = text_fits (b ∷ bytes) x small e

-- values that fit, as many as columns
abbrev pub ValuesRead : ℕ → List Value × List ℕ → Type 0
ValuesRead n x = (length x.0 ≡ n) × AllByRecursion (λ value. FitsFields value) x.0

text_cells_fit : (n : ℕ) (bytes : List ℕ) (x : List Value × List ℕ) → AreBytes bytes →
    elements_at text_cell_at n bytes ≡ Ok x →
    ValuesRead n x
unfolding elements_at
text_cells_fit zero bytes x small h =
    let values : List Value × List ℕ = ([], bytes) in subst (ValuesRead 0) (ok_same values x h) (refl, tt)
text_cells_fit (suc n) bytes x small h =
    let first = bind_ok (text_cell_at bytes) _ x h in
    let read = text_cell_fits bytes first.0 small first.1 in
    let others = bind_ok (elements_at text_cell_at n first.0.1) _ x first.2 in
    let more = text_cells_fit n first.0.1 others.0 read.1 others.1 in
    let values : List Value × List ℕ = (first.0.0 ∷ others.0.0, others.0.1) in
    subst (ValuesRead (suc n)) (ok_same values x others.2) (omega (arith, more.0), (read.0, more.1))

pub text_row_fits : (columns : List ColumnDefinition) (bytes : List ℕ) (x : List Value × List ℕ) → AreBytes bytes →
    text_row_at columns bytes ≡ Ok x → ValuesRead (length columns) x
text_row_fits columns bytes x small h = text_cells_fit (length columns) bytes x small h

-- BINARY ROWS

binary_cell_fits : (null : Bool) (column : ColumnDefinition) (bytes : List ℕ) (x : Value × List ℕ) → AreBytes bytes →
    binary_cell_at null column bytes ≡ Ok x → ValueRead x
binary_cell_fits true column bytes x small h =
    let value : Value × List ℕ = (NULL, bytes) in subst ValueRead (ok_same value x h) (tt, small)
binary_cell_fits false column bytes x small h = column_cell_fits column bytes x small h

binary_cells_fit : (bitmap : List ℕ) (place : ℕ) (columns : List ColumnDefinition) (bytes : List ℕ)
    (x : List Value × List ℕ) →
    AreBytes bytes → binary_cells_at 2 bitmap place columns bytes ≡ Ok x → ValuesRead (length columns) x
unfolding binary_cells_at
binary_cells_fit bitmap place [] bytes x small h =
    let values : List Value × List ℕ = ([], bytes) in subst (ValuesRead 0) (ok_same values x h) (refl, tt)
binary_cells_fit bitmap place (column ∷ columns) bytes x small h =
    let null = is_null_at 2 bitmap place in
    let first = bind_ok (binary_cell_at (is_null_at 2 bitmap place) column bytes) _ x h in
    let read = binary_cell_fits (is_null_at 2 bitmap place) column bytes first.0 small first.1 in
    let others = bind_ok (binary_cells_at 2 bitmap (place + 1) columns first.0.1) _ x first.2 in
    let more = binary_cells_fit bitmap (place + 1) columns first.0.1 others.0 read.1 others.1 in
    let values : List Value × List ℕ = (first.0.0 ∷ others.0.0, others.0.1) in
    subst (ValuesRead (suc (length columns))) (ok_same values x others.2) (omega (arith, more.0), (read.0, more.1))

pub binary_row_fits : (columns : List ColumnDefinition) (bytes : List ℕ) (x : List Value × List ℕ) → AreBytes bytes →
    binary_resultset_row_at columns bytes ≡ Ok x → ValuesRead (length columns) x
unfolding binary_resultset_row_at binary_row_body_at
binary_row_fits columns bytes x small h =
    let header = bind_ok (constant_at 1 0 bytes) _ x h in
    let one = constant_read 1 0 bytes header.0 small header.1 in
    let bitmap = bind_ok (bytes_at (bitmap_len 2 (length columns)) header.0.1) _ x header.2 in
    let two = block_read (bitmap_len 2 (length columns)) header.0.1 bitmap.0 one.1 bitmap.1 in
    binary_cells_fit bitmap.0.0 0 columns bitmap.0.1 x two.3.1 bitmap.2

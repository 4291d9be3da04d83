-- What is left after a cell was read are the last bytes.
use Rattle.std.proofs.Common.{◌≡◌, ◌==◌, ℕ, Bool, true, false, List, [], ◌∷◌, Option, Some, None, Ok, Err, refl, ap}
use Rattle.std.proofs.Common.{arith, if◌then◌else◌}
use Rattle.byteorder.specs.Endian.{little_number}
use Rattle.mysql_buf.specs.Reading.{lenenc_str_at, u8_str_at, little_at}
use Rattle.mysql_fields.specs.Wire.{Reading, or_end, ◌>>=◌}
use Rattle.mysql_fields.specs.declared.error.WireError.TheVariants.{BadLength}
use Rattle.mysql_cells.specs.Cells.{cell_at, column_cell_at, form_of, has_no_sign, number_value_at, text_cell_at}
use Rattle.mysql_cells.specs.Cells.{value_at, date_of, time_of}
use Rattle.mysql_cells.specs.declared.cell_form.CellForm.{CellForm}
use Rattle.mysql_cells.specs.declared.cell_form.CellForm.TheVariants.{Nothing, Whole1, Whole2, Whole4, Whole8}
use Rattle.mysql_cells.specs.declared.cell_form.CellForm.TheVariants.{FloatBits, DoubleBits, Counted, DateAndTime}
use Rattle.mysql_cells.specs.declared.cell_form.CellForm.TheVariants.{Duration, Without}
use Rattle.mysql_cells.specs.declared.value.Value.{Value}
use Rattle.mysql_cells.specs.declared.value.Value.TheVariants.{NULL, Bytes}
use Rattle.mysql_const.specs.ColumnTypes.{column_type_number}
use Rattle.mysql_columns.specs.Columns.{ColumnDefinition}
use Rattle.mysql_rows.specs.Rows.{binary_cell_at}
use Rattle.mysql_row_refs.specs.Places.{IsTail}
use Rattle.mysql_row_refs.proofs.Tails.{all_tail, dropped_tail, first_tail, lenenc_str_tail, u8_str_tail}

same_rest : (p q : Value × List ℕ) → ◌≡◌ {A = Reading Value} (Ok p) (Ok q) → p.1 ≡ q.1
same_rest p q h = let e : p ≡ q = cc in ap (λ (z : Value × List ℕ). z.1) e

-- a value made of what stood first, and one that is there
abbrev made_of : {X : Type 0} → (X → Value) → X × List ℕ → Reading Value
made_of made x = Ok (made x.0, x.1)

abbrev null_read : List ℕ → Reading Value
null_read bytes = Ok (NULL, bytes)

-- what a value is made of stood first
made_tail : {X : Type 0} (found : Option (X × List ℕ)) (made : X → Value) (bytes rest : List ℕ)
    (value : Value) → ((x : X) (after : List ℕ) → found ≡ Some (x, after) → IsTail bytes after)
    → (or_end found >>= made_of made) ≡ Ok (value, rest) → IsTail bytes rest
made_tail None made bytes rest value t h = absurd (cc)
made_tail (Some p) made bytes rest value t h = rw (← (same_rest (made p.0, p.1) (value, rest) h)) (t p.0 p.1 refl)

null_tail : (bytes after rest : List ℕ) (value : Value) → IsTail bytes after → null_read after ≡
    Ok (value, rest) → IsTail bytes rest
null_tail bytes after rest value t h = rw (← (same_rest (NULL, after) (value, rest) h)) t

number_tail : (n : ℕ) (made : ℕ → Value) (bytes rest : List ℕ) (value : Value) →
    number_value_at n made bytes ≡ Ok (value, rest) → IsTail bytes rest
number_tail n made bytes rest value h =
    made_tail (little_at n bytes) made bytes rest value
    (λ x after e. first_tail n (little_number n) bytes after x e) h

form_tail : (form : CellForm) (unsigned : Bool) (bytes rest : List ℕ) (value : Value) →
    value_at form unsigned bytes ≡ Ok (value, rest) → IsTail bytes rest
form_tail Nothing unsigned bytes rest value h = null_tail bytes bytes rest value (all_tail bytes) h
form_tail Whole1 unsigned bytes rest value h = number_tail 1 _ bytes rest value h
form_tail Whole2 unsigned bytes rest value h = number_tail 2 _ bytes rest value h
form_tail Whole4 unsigned bytes rest value h = number_tail 4 _ bytes rest value h
form_tail Whole8 unsigned bytes rest value h = number_tail 8 _ bytes rest value h
form_tail FloatBits unsigned bytes rest value h = number_tail 4 _ bytes rest value h
form_tail DoubleBits unsigned bytes rest value h = number_tail 8 _ bytes rest value h
form_tail Counted unsigned bytes rest value h =
    made_tail (lenenc_str_at bytes) (λ x. Bytes x) bytes rest value (lenenc_str_tail bytes) h
form_tail DateAndTime unsigned bytes rest value h =
    made_tail (u8_str_at bytes) date_of bytes rest value (u8_str_tail bytes) h
form_tail Duration unsigned bytes rest value h =
    made_tail (u8_str_at bytes) time_of bytes rest value (u8_str_tail bytes) h
form_tail Without unsigned bytes rest value h = absurd (cc)

column_tail : (column : ColumnDefinition) (bytes rest : List ℕ) (value : Value) →
    column_cell_at (column.column_type, column.flags) bytes ≡ Ok (value, rest) → IsTail bytes rest
unfolding cell_at
column_tail column bytes rest value h =
    form_tail (form_of (column_type_number column.column_type)) (has_no_sign column.flags) bytes
    rest value h

pub binary_tail : (is_null : Bool) (column : ColumnDefinition) (bytes rest : List ℕ)
    (value : Value) → binary_cell_at is_null column bytes ≡ Ok (value, rest) → IsTail bytes rest
binary_tail true column bytes rest value h = null_tail bytes bytes rest value (all_tail bytes) h
binary_tail false column bytes rest value h = column_tail column bytes rest value h

by_byte : (null bad : Bool) (bytes behind rest : List ℕ) (value : Value) → IsTail bytes behind
    → (if null then null_read behind else if bad then Err BadLength else
    (or_end (lenenc_str_at bytes) >>= made_of (λ x. Bytes x))) ≡ Ok (value, rest) →
    IsTail bytes rest
by_byte true bad bytes behind rest value t h = null_tail bytes behind rest value t h
by_byte false true bytes behind rest value t h = absurd (cc)
by_byte false false bytes behind rest value t h =
    made_tail (lenenc_str_at bytes) (λ x. Bytes x) bytes rest value (lenenc_str_tail bytes) h

pub text_tail : (bytes rest : List ℕ) (value : Value) → text_cell_at bytes ≡ Ok (value, rest) → IsTail bytes rest
unfolding text_cell_at
text_tail [] rest value h = absurd (cc)
text_tail (b ∷ bytes) rest value h =
    by_byte (b == 251) (b == 255) (b ∷ bytes) bytes rest value
    (dropped_tail 1 (b ∷ bytes) (omega arith)) h

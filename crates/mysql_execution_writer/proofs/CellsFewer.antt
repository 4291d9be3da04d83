-- What stands behind a cell that was read is no longer than what it stands in.
use Rattle.std.proofs.Common.{◌≡◌, ℕ, ◌≤◌, ◌==◌, Bool, true, false, List, [], ◌∷◌, length, Option, Some, None, Ok, refl}
use Rattle.std.proofs.Common.{ap, arith, length-drop}
use Rattle.std.specs.Prelude.{if◌then◌else◌, nat_lt}
use Rattle.std.specs.Int.{w8, w16, w32, w64}
use Rattle.mysql_buf.specs.FirstBytes.{first-some}
use Rattle.mysql_buf.specs.Reading.{bytes_at, first, lenenc_int_at, little_at, then_at}
use Rattle.mysql_cells.specs.Cells.{cell_at, date_of, form_of, time_of, value_at, whole_value}
use Rattle.mysql_cells.specs.declared.cell_form.CellForm.{CellForm}
use Rattle.mysql_cells.specs.declared.cell_form.CellForm.TheVariants.{Nothing, Whole1, Whole2, Whole4, Whole8}
use Rattle.mysql_cells.specs.declared.cell_form.CellForm.TheVariants.{FloatBits, DoubleBits, Counted, DateAndTime}
use Rattle.mysql_cells.specs.declared.cell_form.CellForm.TheVariants.{Duration, Without}
use Rattle.mysql_cells.specs.declared.value.Value.{Value}
use Rattle.mysql_cells.specs.declared.value.Value.TheVariants.{NULL, Bytes, Float, Double}
use Rattle.mysql_const.specs.ColumnTypes.{column_type_number}
use Rattle.mysql_fields.specs.Wire.{Reading, ◌>>=◌, or_end}
use Rattle.mysql_executions.specs.declared.types.ParameterType.{ParameterType}
use Rattle.mysql_executions.specs.Executions.{typed_value_at}
use Rattle.mysql_execution_writer.proofs.ReadValues.{ok_is}

first_fewer : {X : Type 0} (n : ℕ) (value : List ℕ → X) (bytes : List ℕ) (found : X × List ℕ) →
    first n value bytes ≡ Some found → length found.1 ≤ length bytes
first_fewer n value bytes found e =
    omega (arith, ap (λ p. length p.1) (first-some n value bytes found e).1, length-drop n bytes)

number_fewer : (bytes : List ℕ) (p : ℕ × List ℕ) → lenenc_int_at bytes ≡ Some p → length p.1 ≤ length bytes
number_fewer [] p e = absurd cc
number_fewer (b ∷ bytes) p e = by (nat_lt b 251) (b == 252) (b == 253) (b == 254) e
  where
    by : (one two three eight : Bool) →
        (if one then Some (b, bytes) else if two then little_at 2 bytes else if three then little_at
        3 bytes else if eight then little_at 8 bytes else Some (0, bytes)) ≡ Some p →
        length p.1 ≤ length (b ∷ bytes)
    by true two three eight e = let is : bytes ≡ p.1 = cc in omega (arith, ap length is)
    by false true three eight e = omega (arith, first_fewer 2 _ bytes p e)
    by false false true eight e = omega (arith, first_fewer 3 _ bytes p e)
    by false false false true e = omega (arith, first_fewer 8 _ bytes p e)
    by false false false false e = let is : bytes ≡ p.1 = cc in omega (arith, ap length is)

counted_fewer : (most : ℕ) (count : Option (ℕ × List ℕ)) (found : List ℕ × List ℕ) →
    ((p : ℕ × List ℕ) → count ≡ Some p → length p.1 ≤ most) → then_at count bytes_at ≡ Some found →
    length found.1 ≤ most
counted_fewer most None found fewer e = absurd cc
counted_fewer most (Some p) found fewer e = omega (arith, fewer p refl, first_fewer p.0 _ p.1 found e)

abbrev as_value : {X : Type 0} → (X → Value) → X × List ℕ → Reading Value
as_value made found = Ok (made found.0, found.1)

abbrev read_as : Value × List ℕ → Reading Value
read_as found = Ok found

same_rest : (found wanted : Value × List ℕ) → read_as found ≡ read_as wanted → found.1 ≡ wanted.1
same_rest found wanted e = let same : found ≡ wanted = cc in ap (λ (p : Value × List ℕ). p.1) same

-- what stands behind a value is what stands behind what it is made of
made_fewer : {X : Type 0} (most : ℕ) (made : X → Value) (read : Option (X × List ℕ)) (value : Value)
    (rest : List ℕ) → ((found : X × List ℕ) → read ≡ Some found → length found.1 ≤ most) →
    (or_end read >>= as_value made) ≡ Ok (value, rest) → length rest ≤ most
made_fewer most made None value rest fewer e = absurd cc
made_fewer most made (Some found) value rest fewer e =
    omega (arith, ap length (same_rest (made found.0, found.1) (value, rest) e), fewer found refl)

value_fewer : (form : CellForm) (unsigned : Bool) (bytes rest : List ℕ) (value : Value) →
    value_at form unsigned bytes ≡ Ok (value, rest) → length rest ≤ length bytes
value_fewer Nothing unsigned bytes rest value e = omega (arith, ap length (same_rest (NULL, bytes) (value, rest) e))
value_fewer Whole1 unsigned bytes rest value e =
    made_fewer (length bytes) (whole_value w8 unsigned) (little_at 1 bytes) value rest
    (λ found is. first_fewer 1 _ bytes found is) e
value_fewer Whole2 unsigned bytes rest value e =
    made_fewer (length bytes) (whole_value w16 unsigned) (little_at 2 bytes) value rest
    (λ found is. first_fewer 2 _ bytes found is) e
value_fewer Whole4 unsigned bytes rest value e =
    made_fewer (length bytes) (whole_value w32 unsigned) (little_at 4 bytes) value rest
    (λ found is. first_fewer 4 _ bytes found is) e
value_fewer Whole8 unsigned bytes rest value e =
    made_fewer (length bytes) (whole_value w64 unsigned) (little_at 8 bytes) value rest
    (λ found is. first_fewer 8 _ bytes found is) e
value_fewer FloatBits unsigned bytes rest value e =
    made_fewer (length bytes) (λ n. Float n) (little_at 4 bytes) value rest
    (λ found is. first_fewer 4 _ bytes found is) e
value_fewer DoubleBits unsigned bytes rest value e =
    made_fewer (length bytes) (λ n. Double n) (little_at 8 bytes) value rest
    (λ found is. first_fewer 8 _ bytes found is) e
value_fewer Counted unsigned bytes rest value e =
    made_fewer (length bytes) (λ held. Bytes held) (then_at (lenenc_int_at bytes) bytes_at) value
    rest (λ found is. counted_fewer (length bytes) (lenenc_int_at bytes) found
    (λ p here. number_fewer bytes p here) is) e
value_fewer DateAndTime unsigned bytes rest value e =
    made_fewer (length bytes) date_of (then_at (little_at 1 bytes) bytes_at) value rest
    (λ found is. counted_fewer (length bytes) (little_at 1 bytes) found
    (λ p here. first_fewer 1 _ bytes p here) is) e
value_fewer Duration unsigned bytes rest value e =
    made_fewer (length bytes) time_of (then_at (little_at 1 bytes) bytes_at) value rest
    (λ found is. counted_fewer (length bytes) (little_at 1 bytes) found
    (λ p here. first_fewer 1 _ bytes p here) is) e
value_fewer Without unsigned bytes rest value e = absurd cc

pub typed_fewer : (t : ParameterType) (bytes rest : List ℕ) (value : Value) →
    typed_value_at t bytes ≡ Some (value, rest) → length rest ≤ length bytes
unfolding cell_at
typed_fewer t bytes rest value e =
    value_fewer (form_of (column_type_number t.column_type)) t.unsigned bytes rest value
    (ok_is (cell_at (column_type_number t.column_type) t.unsigned bytes) (value, rest) e)

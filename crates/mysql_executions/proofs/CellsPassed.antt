-- What stands behind a number's cell stands behind its bytes.
use Rattle.std.proofs.Common.{◌≡◌, ℕ, Bool, true, false, List, length, take, drop, Option, Some, None, Ok, refl, sym}
use Rattle.std.proofs.Common.{ap, ◌∙◌}
use Rattle.std.specs.Prelude.{if◌then◌else◌, nat_lt}
use Rattle.std.specs.Option.{option_map}
use Rattle.std.specs.Result.{result_ok}
use Rattle.byteorder.specs.Endian.{little_number}
use Rattle.mysql_buf.specs.Reading.{bytes_at, first}
use Rattle.mysql_cells.specs.Cells.{cell_at, form_of, number_value_at, value_at}
use Rattle.mysql_cells.specs.declared.cell_form.CellForm.{CellForm}
use Rattle.mysql_cells.specs.declared.value.Value.{Value}
use Rattle.mysql_const.specs.ColumnTypes.{column_type_number}
use Rattle.mysql_fields.specs.Wire.{Reading, ◌>>=◌, or_end}
use Rattle.mysql_executions.specs.declared.types.ParameterType.{ParameterType}
use Rattle.mysql_executions.specs.Executions.{typed_value_at}

abbrev as_value : (ℕ → Value) → ℕ × List ℕ → Reading Value
as_value made x = Ok (made x.0, x.1)

number_skipped : (n : ℕ) (made : ℕ → Value) (bytes : List ℕ) →
    option_map (λ (x : List ℕ × List ℕ). x.1) (bytes_at n bytes) ≡
    option_map (λ (x : Value × List ℕ). x.1) (result_ok (number_value_at n made bytes))
unfolding first
number_skipped n made bytes = by (nat_lt (length bytes) n)
  where
    by : (short : Bool) → option_map (λ (x : List ℕ × List ℕ). x.1)
        (if short then None else Some (take n bytes, drop n bytes))
        ≡ option_map (λ (x : Value × List ℕ). x.1)
        (result_ok (or_end (if short then None else Some (little_number n bytes, drop n bytes))
        >>= as_value made))
    by true = refl
    by false = refl

pub skipped : (t : ParameterType) (form : CellForm) (n : ℕ) (made : ℕ → Value) (bytes : List ℕ)
    (after : Option (List ℕ)) → form ≡ form_of (column_type_number t.column_type)
    → value_at form t.unsigned bytes ≡ number_value_at n made bytes → after ≡
    option_map (λ (x : List ℕ × List ℕ). x.1) (bytes_at n bytes) → after ≡
    option_map (λ (x : Value × List ℕ). x.1) (typed_value_at t bytes)
unfolding cell_at
skipped t form n made bytes after is reads e =
    e ∙ number_skipped n made bytes ∙
    ap (λ (r : Reading Value). option_map (λ (x : Value × List ℕ). x.1) (result_ok r))
    (sym reads ∙ ap (λ (f : CellForm). value_at f t.unsigned bytes) is)

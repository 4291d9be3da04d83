-- Parameters and attributes that were written are read again.
use Rattle.std.proofs.Common.{◌≡◌, ℕ, suc, ◌+◌, ◌<◌, Bool, true, List, [], ◌∷◌, ◌++◌, length, map, get_or, Option, Some}
use Rattle.std.proofs.Common.{None, refl, sym, ◌∙◌, ap, append_assoc, arith}
use Rattle.std.specs.Prelude.{◌&&◌, is_some, unwrap_or}
use Rattle.std.specs.List.{AllByRecursion, list_all}
use Rattle.std.proofs.lemmas.Slice.Eq.{bytes_eq-Decides}
use Rattle.mysql_field_lists.specs.NullBitmap.{is_null_at}
use Rattle.mysql_cells.specs.Values.{FitsFields}
use Rattle.mysql_cells.specs.TypedCells.{TypedCellsReadBack}
use Rattle.mysql_cells.specs.Values.{is_null}
use Rattle.mysql_cells.specs.declared.value.Value.{Value}
use Rattle.mysql_cells.specs.declared.value.Value.TheVariants.{NULL, Bytes, Int, UInt, Float, Double, Date, Time}
use Rattle.mysql_executions.specs.declared.types.Attribute.{Attribute}
use Rattle.mysql_executions.specs.declared.types.ParameterType.{ParameterType}
use Rattle.mysql_executions.specs.Executions.{attribute_at, attributes_at, parameter_at, value_at}
use Rattle.mysql_executions.specs.Fields.{◌>>=◌, each_at}
use Rattle.mysql_executions.specs.InForce.{data_for}
use Rattle.mysql_execution_writer.specs.Cells.{are_attributes, are_parameters, as_read, attribute_cell}
use Rattle.mysql_execution_writer.specs.Cells.{attributes_bytes, fits_name, is_parameter, is_text, parameter_bytes}
use Rattle.mysql_execution_writer.specs.Cells.{parameter_cell, parameters_bytes}
use Rattle.mysql_execution_writer.specs.Written.{attributes_as_read, types_of_attributes, values_of}
use Rattle.mysql_execution_writer.proofs.CellsBack.{value_back}
use Rattle.mysql_execution_writer.proofs.Loops.{and_left, and_right}

-- the bits of a bitmap say of each value from this place on whether it is NULL
abbrev pub SayNulls : (nulls : List ℕ) → (place : ℕ) → List Value → Type 0
SayNulls nulls place values = (k : ℕ) → k < length values → is_null_at 0 nulls (place + k) ≡
    is_null (get_or values k NULL)

pub says_first : (nulls : List ℕ) (place : ℕ) (value : Value) (values : List Value) →
    SayNulls nulls place (value ∷ values) → is_null_at 0 nulls place ≡ is_null value
says_first nulls place value values says = ap (λ n. is_null_at 0 nulls n) (omega arith) ∙ says 0 (omega arith)

pub says_others : (nulls : List ℕ) (place : ℕ) (value : Value) (values : List Value) →
    SayNulls nulls place (value ∷ values) → SayNulls nulls (place + 1) values
says_others nulls place value values says k lt = ap (λ n. is_null_at 0 nulls n) (omega arith) ∙
    says (suc k) (omega (arith, lt))

-- the long data that waits is the value
text_is : (sent : List ℕ) (value : Value) → is_text sent value ≡ true → Bytes sent ≡ as_read value
text_is sent (Bytes bytes) e = let same : bytes ≡ sent = (bytes_eq-Decides bytes sent).0 e in
    ap (λ (b : List ℕ). Bytes b) (sym same)
text_is sent NULL e = absurd cc
text_is sent (Int z) e = absurd cc
text_is sent (UInt n) e = absurd cc
text_is sent (Float bits) e = absurd cc
text_is sent (Double bits) e = absurd cc
text_is sent (Date year month day hour minute second micros) e = absurd cc
text_is sent (Time negative days hours minutes seconds micros) e = absurd cc

module _ (back : TypedCellsReadBack) where
  -- a value by its bit and its cell
  pub null_or_value_back : (t : ParameterType) (value : Value) (rest : List ℕ) → FitsFields value →
      is_some (parameter_cell t value) ≡ true
      → value_at (is_null value) t (unwrap_or (parameter_cell t value) [] ++ rest) ≡ Some (as_read value, rest)
  null_or_value_back t NULL rest fits some = refl
  null_or_value_back t (Bytes bytes) rest fits some = value_back back t rest (Bytes bytes) fits refl some
  null_or_value_back t (Int z) rest fits some = value_back back t rest (Int z) fits refl some
  null_or_value_back t (UInt n) rest fits some = value_back back t rest (UInt n) fits refl some
  null_or_value_back t (Float bits) rest fits some = value_back back t rest (Float bits) fits refl some
  null_or_value_back t (Double bits) rest fits some = value_back back t rest (Double bits) fits refl some
  null_or_value_back t (Date year month day hour minute second micros) rest fits some =
      value_back back t rest (Date year month day hour minute second micros) fits refl some
  null_or_value_back t (Time negative days hours minutes seconds micros) rest fits some =
      value_back back t rest (Time negative days hours minutes seconds micros) fits refl some

  parameter_back : (waits : Option (List ℕ)) (null : Bool) (t : ParameterType) (value : Value)
      (rest : List ℕ) → FitsFields value → null ≡ is_null value → is_parameter waits t value ≡ true
      → parameter_at waits null t (parameter_bytes waits t value ++ rest) ≡ Some (as_read value, rest)
  parameter_back (Some sent) null t value rest fits bit can =
      ap (λ (v : Value). Some (v, rest)) (text_is sent value can)
  parameter_back None null t value rest fits bit can =
      ap (λ (b : Bool). value_at b t (unwrap_or (parameter_cell t value) [] ++ rest)) bit ∙
      null_or_value_back t value rest fits can

  pub parameters_back : (waiting : List (ℕ × List ℕ)) (nulls : List ℕ) (place : ℕ)
      (types : List ParameterType) (values : List Value) (rest : List ℕ)
      → AllByRecursion (λ value. FitsFields value) values → SayNulls nulls place values →
      are_parameters waiting place types values ≡ true
      → each_at (λ place t b. parameter_at (data_for waiting place) (is_null_at 0 nulls place) t b)
      place types (parameters_bytes waiting place types values ++ rest) ≡
      Some (map as_read values, rest)
  unfolding each_at are_parameters parameters_bytes
  parameters_back waiting nulls place [] [] rest fits says can = refl
  parameters_back waiting nulls place [] (value ∷ values) rest fits says can = absurd cc
  parameters_back waiting nulls place (t ∷ types) [] rest fits says can = absurd cc
  parameters_back waiting nulls place (t ∷ types) (value ∷ values) rest fits says can =
      let own = parameter_bytes (data_for waiting place) t value in
      let others = parameters_bytes waiting (place + 1) types values in
      let this = and_left (is_parameter (data_for waiting place) t value)
      (are_parameters waiting (place + 1) types values) can in
      let later = and_right (is_parameter (data_for waiting place) t value)
      (are_parameters waiting (place + 1) types values) can in
      ap (λ (l : List ℕ). each_at
      (λ place t b. parameter_at (data_for waiting place) (is_null_at 0 nulls place) t b) place
      (t ∷ types) l) (append_assoc own others rest)
      ∙ ap (λ (r : Option (Value × List ℕ)). r >>= λ first. each_at
      (λ place t b. parameter_at (data_for waiting place) (is_null_at 0 nulls place) t b)
      (place + 1) types first.1 >>= λ others. Some (first.0 ∷ others.0, others.1))
      (parameter_back (data_for waiting place) (is_null_at 0 nulls place) t value (others ++
      rest) fits.0 (says_first nulls place value values says) this)
      ∙ ap (λ (r : Option (List Value × List ℕ)). r >>= λ others. Some (as_read value ∷ others.0, others.1))
      (parameters_back waiting nulls (place + 1) types values rest fits.1
      (says_others nulls place value values says) later)

  attribute_back : (a : Attribute) (null : Bool) (rest : List ℕ) → FitsFields a.value → null ≡
      is_null a.value → is_some (attribute_cell a) ≡ true
      → attribute_at null a.bound_type (unwrap_or (attribute_cell a) [] ++ rest) ≡
      Some (record { bound_type = a.bound_type; value = as_read a.value }, rest)
  attribute_back a null rest fits bit some =
      ap (λ (r : Option (Value × List ℕ)). r >>= λ value. Some
      (record { bound_type = a.bound_type; value = value.0 }, value.1))
      (ap (λ (b : Bool). value_at b a.bound_type.parameter_type (unwrap_or (attribute_cell a) [] ++
      rest)) bit ∙ null_or_value_back a.bound_type.parameter_type a.value rest fits some)

  pub attributes_back : (named : Bool) (nulls : List ℕ) (place : ℕ) (attributes : List Attribute) (rest : List ℕ)
      → AllByRecursion (λ value. FitsFields value) (values_of attributes) →
      SayNulls nulls place (values_of attributes) → are_attributes named attributes ≡ true
      → attributes_at nulls place (types_of_attributes attributes) (attributes_bytes attributes ++
      rest) ≡ Some (attributes_as_read attributes, rest)
  unfolding each_at
  attributes_back named nulls place [] rest fits says can = refl
  attributes_back named nulls place (a ∷ attributes) rest fits says can =
      let own = unwrap_or (attribute_cell a) [] in
      let others = attributes_bytes attributes in
      let this = and_left (fits_name named a.bound_type && is_some (attribute_cell a))
      (are_attributes named attributes) can in
      let later = and_right (fits_name named a.bound_type && is_some (attribute_cell a))
      (are_attributes named attributes) can in
      let cell = and_right (fits_name named a.bound_type) (is_some (attribute_cell a)) this in
      ap (λ (l : List ℕ). attributes_at nulls place (types_of_attributes (a ∷ attributes)) l)
      (append_assoc own others rest)
      ∙ ap (λ (r : Option (Attribute × List ℕ)). r >>= λ first. each_at
      (λ at t b. attribute_at (is_null_at 0 nulls at) t b) (place + 1)
      (types_of_attributes attributes) first.1 >>= λ others. Some (
        first.0 ∷ others.0,
        others.1,
      ))
      (attribute_back a (is_null_at 0 nulls place) (others ++
      rest) fits.0 (says_first nulls place a.value (values_of attributes) says) cell)
      ∙ ap (λ (r : Option (List Attribute × List ℕ)). r >>= λ others. Some
      (record { bound_type = a.bound_type; value = as_read a.value } ∷ others.0, others.1))
      (attributes_back named nulls (place + 1) attributes rest fits.1
      (says_others nulls place a.value (values_of attributes) says) later)

-- names of attributes fit where the attributes do
pub names_fit : (named : Bool) (attributes : List Attribute) → are_attributes named attributes ≡
    true → list_all (fits_name named) (types_of_attributes attributes) ≡ true
names_fit named [] can = refl
names_fit named (a ∷ attributes) can =
    let this = and_left (fits_name named a.bound_type && is_some (attribute_cell a))
    (are_attributes named attributes) can in
    let name = and_left (fits_name named a.bound_type) (is_some (attribute_cell a)) this in
    ap (λ (b : Bool). b && list_all (fits_name named) (types_of_attributes attributes)) name ∙
    names_fit named attributes
    (and_right (fits_name named a.bound_type && is_some (attribute_cell a))
    (are_attributes named attributes) can)

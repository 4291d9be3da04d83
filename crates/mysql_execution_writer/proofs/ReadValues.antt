-- Values that were read can be written, and are read again as they are.
use Rattle.std.proofs.Common.{◌≡◌, ℕ, suc, ◌+◌, Bool, true, false, List, [], ◌∷◌, length, map, Option, Some, None, Ok}
use Rattle.std.proofs.Common.{Err, refl, subst, ◌∙◌, ap}
use Rattle.std.specs.Prelude.{◌&&◌, is_none, is_some}
use Rattle.std.specs.List.{list_all}
use Rattle.std.specs.Option.{option_map}
use Rattle.std.specs.Result.{result_ok}
use Rattle.std.proofs.lemmas.Slice.Eq.{bytes_eq-Decides}
use Rattle.mysql_buf.specs.Bytes.{AreBytes}
use Rattle.mysql_fields.specs.Wire.{Reading}
use Rattle.mysql_const.specs.ColumnTypes.{column_type_number}
use Rattle.mysql_field_lists.specs.NullBitmap.{is_null_at}
use Rattle.mysql_cells.specs.CellLaws.{read_back}
use Rattle.mysql_cells.specs.Cells.{cell_at}
use Rattle.mysql_cells.specs.TypedCells.{ReadCellsAreWritten, typed_cell}
use Rattle.mysql_cells.specs.Values.{without_zero_sign}
use Rattle.mysql_cells.specs.declared.value.Value.{Value}
use Rattle.mysql_cells.specs.declared.value.Value.TheVariants.{NULL, Bytes, Int, UInt, Float, Double, Date, Time}
use Rattle.mysql_executions.specs.declared.types.Attribute.{Attribute}
use Rattle.mysql_executions.specs.declared.types.BoundType.{BoundType}
use Rattle.mysql_executions.specs.declared.types.ParameterType.{ParameterType}
use Rattle.mysql_executions.specs.Executions.{attribute_at, attributes_at, parameter_at, typed_value_at, value_at}
use Rattle.mysql_executions.specs.Fields.{◌>>=◌, each_at}
use Rattle.mysql_executions.specs.InForce.{data_for}
use Rattle.mysql_execution_writer.specs.Cells.{are_attributes, are_parameters, as_read, fits_name, is_parameter}
use Rattle.mysql_execution_writer.specs.Cells.{is_text, parameter_cell}
use Rattle.mysql_execution_writer.specs.Written.{attributes_as_read, types_of_attributes}
use Rattle.mysql_execution_writer.proofs.Loops.{and_left, and_right}
use Rattle.mysql_execution_writer.proofs.ReadTypes.{and_both, bind_some, same_first, same_left}

-- a value that was read by a type
pub record IsValue (t : ParameterType) (value : Value) (rest : List ℕ) : Type 0 where
  pub cell : is_some (parameter_cell t value) ≡ true
  pub same : as_read value ≡ value
  pub left : AreBytes rest

mapped_is : (f : List ℕ → List ℕ) (o : Option (List ℕ)) → is_none o ≡ false → is_some (option_map f o) ≡ true
mapped_is f (Some x) e = refl
mapped_is f None e = absurd cc

-- reading again keeps all but the sign of an all-zero time
same_value : (value : Value) → read_back value ≡ without_zero_sign value → as_read value ≡ value
same_value NULL e = refl
same_value (Bytes bytes) e = refl
same_value (Int z) e = refl
same_value (UInt n) e = e
same_value (Float bits) e = refl
same_value (Double bits) e = refl
same_value (Date year month day hour minute second micros) e = refl
same_value (Time negative days hours minutes seconds micros) e = refl

pub ok_is : (r : Reading Value) (p : Value × List ℕ) → result_ok r ≡ Some p → r ≡ Ok p
ok_is (Ok q) p e = let same : q ≡ p = cc in ap (λ (r : Value × List ℕ). Ok r) same
ok_is (Err f) p e = absurd cc

module _ (written : ReadCellsAreWritten) where
  pub typed_left : (t : ParameterType) (bytes rest : List ℕ) (value : Value) → AreBytes bytes →
      typed_value_at t bytes ≡ Some (value, rest) → IsValue t value rest
  typed_left t bytes rest value are e =
      let h = written t.column_type t.unsigned bytes rest value are
      (ok_is (cell_at (column_type_number t.column_type) t.unsigned bytes) (value, rest) e) in
      record {
        cell = mapped_is _ (typed_cell t.column_type t.unsigned value) h.0;
        same =
            same_value value h.1;
        left = h.2;
      }

  pub value_left : (null : Bool) (t : ParameterType) (bytes rest : List ℕ) (value : Value) →
      AreBytes bytes → value_at null t bytes ≡ Some (value, rest) → IsValue t value rest
  value_left true t bytes rest value are e =
      let is : NULL ≡ value = same_first (NULL, bytes) (value, rest) e in
      let left : bytes ≡ rest = same_left (NULL, bytes) (value, rest) e in
      record {
        cell = subst (λ (v : Value). is_some (parameter_cell t v) ≡ true) is refl;
        same = subst (λ (v : Value). as_read v ≡ v) is refl;
        left = subst AreBytes left are;
      }
  value_left false t bytes rest value are e = typed_left t bytes rest value are e

  -- a parameter that was read
  pub record IsParameter (waits : Option (List ℕ)) (t : ParameterType) (value : Value) (rest : List ℕ) : Type 0 where
    pub can : is_parameter waits t value ≡ true
    pub same : as_read value ≡ value
    pub left : AreBytes rest

  parameter_left : (waits : Option (List ℕ)) (null : Bool) (t : ParameterType) (bytes rest : List ℕ)
      (value : Value) → AreBytes bytes → parameter_at waits null t bytes ≡ Some (value, rest) →
      IsParameter waits t value rest
  parameter_left (Some sent) null t bytes rest value are e =
      let is : Bytes sent ≡ value = same_first (Bytes sent, bytes) (value, rest) e in
      let left : bytes ≡ rest = same_left (Bytes sent, bytes) (value, rest) e in
      record {
        can = subst (λ (v : Value). is_text sent v ≡ true) is ((bytes_eq-Decides sent sent).1 refl);
        same = subst (λ (v : Value). as_read v ≡ v) is refl;
        left = subst AreBytes left are;
      }
  parameter_left None null t bytes rest value are e =
      let h = value_left null t bytes rest value are e in
      record { can = h.cell; same = h.same; left = h.left }

  -- parameters that were read
  pub record AreParameters (waiting : List (ℕ × List ℕ)) (place : ℕ) (types : List ParameterType)
      (values : List Value) (rest : List ℕ) : Type 0 where
    pub can : are_parameters waiting place types values ≡ true
    pub same : map as_read values ≡ values
    pub count : length values ≡ length types
    pub left : AreBytes rest

  pub parameters_left : (waiting : List (ℕ × List ℕ)) (nulls : List ℕ) (place : ℕ)
      (types : List ParameterType) (bytes rest : List ℕ) (values : List Value) → AreBytes bytes
      → each_at (λ place t b. parameter_at (data_for waiting place) (is_null_at 0 nulls place) t b)
      place types bytes ≡ Some (values, rest)
      → AreParameters waiting place types values rest
  unfolding each_at are_parameters
  parameters_left waiting nulls place [] bytes rest values are e =
      let is : [] ≡ values = same_first ([], bytes) (values, rest) e in
      let left : bytes ≡ rest = same_left ([], bytes) (values, rest) e in
      subst (λ (vs : List Value). AreParameters waiting place [] vs rest) is
      (record { can = refl; same = refl; count = refl; left = subst AreBytes left are })
  parameters_left waiting nulls place (t ∷ types) bytes rest values are e =
      let read = λ (b : List ℕ). each_at
      (λ place t b. parameter_at (data_for waiting place) (is_null_at 0 nulls place) t b)
      (place + 1) types b in
      let a = bind_some (parameter_at (data_for waiting place) (is_null_at 0 nulls place) t bytes)
      (λ first. read first.1 >>= λ others. Some (first.0 ∷ others.0, others.1)) (
        values,
        rest,
      ) e in
      let b = bind_some (read a.0.1) (λ others. Some (a.0.0 ∷ others.0, others.1)) (values, rest) a.2 in
      let own = parameter_left (data_for waiting place) (is_null_at 0 nulls place) t bytes a.0.1 a.0.0 are a.1 in
      let later = parameters_left waiting nulls (place + 1) types a.0.1 b.0.1 b.0.0 own.left b.1 in
      let is : a.0.0 ∷ b.0.0 ≡ values = same_first (a.0.0 ∷ b.0.0, b.0.1) (values, rest) b.2 in
      let left : b.0.1 ≡ rest = same_left (a.0.0 ∷ b.0.0, b.0.1) (values, rest) b.2 in
      subst (λ (vs : List Value). AreParameters waiting place (t ∷ types) vs rest) is (record {
        can = and_both (is_parameter (data_for waiting place) t a.0.0)
            (are_parameters waiting (place + 1) types b.0.0) own.can later.can;
        same = λ i. own.same i ∷ later.same i;
        count = ap suc later.count;
        left = subst AreBytes left later.left;
      })

  -- attributes that were read
  pub record AreAttributes (named : Bool) (types : List BoundType) (attributes : List Attribute)
      (rest : List ℕ) : Type 0 where
    pub can : are_attributes named attributes ≡ true
    pub same : attributes_as_read attributes ≡ attributes
    pub types_are : types_of_attributes attributes ≡ types
    pub left : AreBytes rest

  pub attributes_left : (named : Bool) (nulls : List ℕ) (place : ℕ) (types : List BoundType)
      (bytes rest : List ℕ) (attributes : List Attribute) → AreBytes bytes →
      list_all (fits_name named) types ≡ true
      → attributes_at nulls place types bytes ≡ Some (attributes, rest) → AreAttributes named types attributes rest
  unfolding each_at
  attributes_left named nulls place [] bytes rest attributes are names e =
      let is : [] ≡ attributes = same_first ([], bytes) (attributes, rest) e in
      let left : bytes ≡ rest = same_left ([], bytes) (attributes, rest) e in
      subst (λ (found : List Attribute). AreAttributes named [] found rest) is
      (record { can = refl; same = refl; types_are = refl; left = subst AreBytes left are })
  attributes_left named nulls place (t ∷ types) bytes rest attributes are names e =
      let read = λ (b : List ℕ). each_at (λ at t b. attribute_at (is_null_at 0 nulls at) t b) (place + 1) types b in
      let a = bind_some (attribute_at (is_null_at 0 nulls place) t bytes)
      (λ first. read first.1 >>= λ others. Some (first.0 ∷ others.0, others.1)) (
        attributes,
        rest,
      ) e in
      let b = bind_some (read a.0.1) (λ others. Some (a.0.0 ∷ others.0, others.1)) (attributes, rest) a.2 in
      let v = bind_some (value_at (is_null_at 0 nulls place) t.parameter_type bytes)
      (λ value. Some (record { bound_type = t; value = value.0 }, value.1)) a.0 a.1 in
      let value = value_left (is_null_at 0 nulls place) t.parameter_type bytes v.0.1 v.0.0 are v.1 in
      let one : record { bound_type = t; value = v.0.0 } ≡ a.0.0 =
      same_first (record { bound_type = t; value = v.0.0 }, v.0.1) a.0 v.2 in
      let behind : v.0.1 ≡ a.0.1 = same_left (record { bound_type = t; value = v.0.0 }, v.0.1) a.0 v.2 in
      let this_name = and_left (fits_name named t) (list_all (fits_name named) types) names in
      let later_names = and_right (fits_name named t) (list_all (fits_name named) types) names in
      let later = attributes_left named nulls (place + 1) types a.0.1 b.0.1 b.0.0
      (subst AreBytes behind value.left) later_names b.1 in
      let whole : record { bound_type = t; value = v.0.0 } ∷ b.0.0 ≡ attributes =
      ap (λ (a : Attribute). a ∷ b.0.0) one ∙
      same_first (a.0.0 ∷ b.0.0, b.0.1) (attributes, rest) b.2 in
      let left : b.0.1 ≡ rest = same_left (a.0.0 ∷ b.0.0, b.0.1) (attributes, rest) b.2 in
      subst (λ (found : List Attribute). AreAttributes named (t ∷ types) found rest) whole (record {
        can = and_both (fits_name named t && is_some (parameter_cell t.parameter_type v.0.0))
            (are_attributes named b.0.0)
            (and_both (fits_name named t) (is_some (parameter_cell t.parameter_type v.0.0))
            this_name value.cell) later.can;
        same = λ i. record { bound_type = t; value = value.same i } ∷ later.same i;
        types_are = ap (λ (ts : List BoundType). t ∷ ts) later.types_are;
        left = subst AreBytes left later.left;
      })

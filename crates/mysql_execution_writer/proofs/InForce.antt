-- Executions that carry no types, as they are written.
use Rattle.std.proofs.Common.{◌≡◌, ℕ, true, false, List, [], ◌∷◌, ◌++◌, length, map, refl, sym, ap, ◌∙◌, append_assoc}
use Rattle.std.proofs.Common.{append-nil, arith}
use Rattle.std.specs.Prelude.{◌==◌, not}
use Rattle.byteorder.specs.Endian.{little_bytes}
use Rattle.mysql_cells.specs.declared.value.Value.{Value}
use Rattle.mysql_const.specs.declared.capabilities.Capabilities.{Capabilities}
use Rattle.mysql_executions.specs.InForce.{InForce}
use Rattle.mysql_executions.specs.Types.{has_query_attributes}
use Rattle.mysql_execution_writer.specs.Cells.{are_parameters, as_read, parameters_bytes}
use Rattle.mysql_execution_writer.specs.InForce.{FitsTypes, head_bytes, without_types}
use Rattle.mysql_execution_writer.specs.Written.{binding_bytes, can_be_put, execution_as_read, execution_bytes}

-- each value so far is read as itself, where the others are
pub own_goes_on : (P : Type 0) (value : Value) (later all : List Value) → all ≡ value ∷ later → as_read value ≡ value →
    (map as_read all ≡ all → P) → map as_read later ≡ later → P
own_goes_on P value later all is own so_far rest = so_far (rw is (λ i. own i ∷ rest i))

same : (n m : ℕ) → n ≡ m → (n == m) ≡ true
same n m e = search arith

module _ (c : Capabilities) (s : InForce) (id : ℕ) (values : List Value)
    (none : has_query_attributes c ≡ false) (fits : FitsTypes s values) where
  -- it can be written, where each value has a cell
  pub can : are_parameters [] 0 s.types values ≡ true → can_be_put c s (without_types id values) ≡ true
  unfolding can_be_put
  can cells =
      let whole : not s.broken ≡ true = ap not fits.0 in
      let values_same : (length values == s.count) ≡ true = same (length values) s.count fits.3 in
      let types_same : (length s.types == s.count) ≡ true = same (length s.types) s.count fits.2 in
      let all : are_parameters s.long_data 0 s.types values ≡ true =
      ap (λ waiting. are_parameters waiting 0 s.types values) fits.1 ∙ cells in
      rw (whole, none, values_same, types_same, all) refl

  pub bytes : 0x17 ∷ execution_bytes c s (without_types id values)
      ≡ head_bytes id ++ (binding_bytes values false ++ parameters_bytes [] 0 s.types values)
  unfolding execution_bytes
  bytes =
      let a = little_bytes 4 id in
      let b = little_bytes 1 0 in
      let d = little_bytes 4 1 in
      let rest = binding_bytes values false ++ parameters_bytes [] 0 s.types values in
      let joined : a ++ (b ++ (d ++ rest)) ≡ (a ++ (b ++ d)) ++ rest =
      ap (λ l. a ++ l) (sym (append_assoc b d rest)) ∙ sym (append_assoc a (b ++ d) rest) in
      rw (none, fits.1, append-nil values, append-nil (parameters_bytes [] 0 s.types values))
      (ap (λ l. 0x17 ∷ l) joined)

-- and it is read as itself
pub own : (id : ℕ) (values : List Value) → map as_read values ≡ values →
    execution_as_read (without_types id values) ≡ without_types id values
own id values each = λ i. record (without_types id values) { parameters = each i }

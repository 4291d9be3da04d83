-- Of another number of values than the statement has parameters nothing can be put.
use Rattle.std.proofs.Common.{◌≡◌, ◌==◌, ◌⊎◌, inl, inr, ℕ, Bool, true, false, List, [], ◌∷◌, length, Option, Some, None}
use Rattle.std.proofs.Common.{refl, sym, ◌∙◌, arith}
use Rattle.std.specs.Prelude.{◌&&◌, not, nat_lt, unwrap_or, is_some}
use Rattle.std.specs.List.{list_all}
use Rattle.std.proofs.lemmas.Bool.{and_cases, and_left, and_right, eqb-true, false≢true}
use Rattle.std.proofs.lemmas.List.{length-map}
use Rattle.std.proofs.Math.Bool.{and-false}
use Rattle.mysql_const.specs.declared.capabilities.Capabilities.{Capabilities}
use Rattle.mysql_execution_writer.specs.Bulks.{bulk_value_bytes, can_have_bulk_types, can_put_bulk, is_row}
use Rattle.mysql_execution_writer.specs.Cells.{fits_name}
use Rattle.mysql_execution_writer.specs.Written.{can_be_put, can_have_flags}
use Rattle.mysql_executions.specs.Bulks.{BulkExecution}
use Rattle.mysql_executions.specs.Executions.{Execution}
use Rattle.mysql_executions.specs.InForce.{InForce, is_waiting}
use Rattle.mysql_executions.specs.Types.{has_bulk_operations}
use Rattle.mysql_executions.specs.Views.{types_by}
use Rattle.mysql_executions.specs.declared.bulk.BulkValue.{BulkValue}
use Rattle.mysql_executions.specs.declared.types.BoundType.{BoundType}
use Rattle.mysql_executions.specs.declared.types.ParameterType.{ParameterType}
use Rattle.mysql_commands.specs.Commands.{BulkExecute, Execute}
use Rattle.mysql_command_writer.specs.Laws.{PutValuesAreCounted}
use Rattle.mysql_command_writer.specs.Refusals.{have_count}

pub other_count : (capabilities : Capabilities) (s : InForce) (e : Execution) →
    (length e.parameters == s.count) ≡ false → can_be_put capabilities s e ≡ false
unfolding can_be_put
other_count capabilities s e other =
    rw (other, and-false (not s.broken && can_have_flags capabilities e)) refl

not_a_row : (types : List ParameterType) (row : List BulkValue) → (length row ≡ length types → ⊥) →
    is_row types row ≡ false
unfolding is_row
not_a_row [] [] h = absurd (h refl)
not_a_row [] (value ∷ row) h = refl
not_a_row (t ∷ types) [] h = refl
not_a_row (t ∷ types) (value ∷ row) h =
    and_right (is_some (bulk_value_bytes t value)) (is_row types row)
    (not_a_row types row (λ e. h (omega (arith, e))))

module _ (types : List ParameterType) (count : ℕ) (as_many : length types ≡ count) where
  first_row : (row : List BulkValue) → (length row == count) ≡ false → is_row types row ≡ false
  first_row row other = not_a_row types row (λ e. false≢true (sym other ∙ same (length row) count (e ∙ as_many)))
    where
      same : (n m : ℕ) → n ≡ m → (n == m) ≡ true
      same n m e = search arith

  some_row : (rows : List (List BulkValue)) → have_count count rows ≡ false → list_all (is_row types) rows ≡ false
  some_row [] h = absurd cc
  some_row (row ∷ rows) h =
      by (and_cases (length row == count) (have_count count rows) h) (λ later. some_row rows later)
    where
      by : ((length row == count) ≡ false) ⊎ (have_count count rows ≡ false) →
          (have_count count rows ≡ false → list_all (is_row types) rows ≡ false) →
          list_all (is_row types) (row ∷ rows) ≡ false
      by (inl first) rest = and_left (is_row types row) (list_all (is_row types) rows) (first_row row first)
      by (inr later) rest = and_right (is_row types row) (list_all (is_row types) rows) (rest later)

as_many : (s : InForce) (own : Option (List BoundType)) → can_have_bulk_types s own ≡ true →
    length (types_by own s.types) ≡ s.count
as_many s None h = eqb-true (length s.types) s.count h
as_many s (Some own) h = length-map own (λ (t : BoundType). t.parameter_type) ∙ eqb-true (length own) s.count h

module _ (capabilities : Capabilities) (s : InForce) (e : BulkExecution)
    (other : have_count s.count e.rows ≡ false) where
  by_types : (can : Bool) → can_have_bulk_types s e.types ≡ can → can_put_bulk capabilities s e ≡ false
  unfolding can_put_bulk
  by_types false is = rw (
    is,
    and-false (has_bulk_operations capabilities && not s.broken && not (is_waiting s)
        && nat_lt 0 s.count),
  ) refl
  by_types true is =
      let none = some_row (types_by e.types s.types) s.count (as_many s e.types is) e.rows other in
      rw (
        none,
        and-false (has_bulk_operations capabilities && not s.broken && not (is_waiting s)
            && nat_lt 0 s.count && can_have_bulk_types s e.types
            && list_all (fits_name false) (unwrap_or e.types []) && nat_lt 0 (length e.rows)),
      ) refl

  pub other_row_count : can_put_bulk capabilities s e ≡ false
  other_row_count = by_types (can_have_bulk_types s e.types) refl

true_unless : (b : Bool) → (b ≡ false → ⊥) → b ≡ true
true_unless true h = refl
true_unless false h = absurd (h refl)

pub values_are_counted : PutValuesAreCounted
values_are_counted capabilities s (Execute e) can =
    true_unless (length e.parameters == s.count) (λ other. false≢true (sym (other_count capabilities s e other) ∙ can))
values_are_counted capabilities s (BulkExecute e) can =
    true_unless (have_count s.count e.rows) (λ other. false≢true (sym (other_row_count capabilities s e other) ∙ can))
values_are_counted capabilities s command can = tt

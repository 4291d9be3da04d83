-- How many bytes an execution has that holds all cells.
use Rattle.std.proofs.Common.{◌≡◌, ℕ, ◌+◌, ◌*◌, ◌/◌, false, List, [], ◌∷◌, ◌++◌, length, refl, sym, ◌∙◌, ap, arith}
use Rattle.std.specs.List.{flat_map, sum_by}
use Rattle.std.proofs.lemmas.List.{length-append}
use Rattle.std.proofs.lemmas.List.Sums.{sum_by-cons}
use Rattle.mysql_cells.specs.CellLaws.{CellLength}
use Rattle.mysql_cells.specs.Cells.{bin_len}
use Rattle.mysql_cells.specs.declared.value.Value.{Value}
use Rattle.mysql_stmt.specs.Executions.{execute_command, execution, null_bitmap, parameters, sent_cell, type_bytes}
use Rattle.mysql_stmt.specs.NullBits.{bitmap_length}
use Rattle.mysql_stmt.specs.Statements.{ExecutionsHaveSizes}

-- two bytes for each type
length-types : (values : List Value) → length (flat_map type_bytes values) ≡ 2 * length values
length-types [] = refl
length-types (value ∷ values) = omega (arith, length-types values)

-- as many bytes for the cells as are counted
length-cells : CellLength → (values : List Value) → length (flat_map (sent_cell false) values) ≡ sum_by bin_len values
length-cells lengths [] = refl
length-cells lengths (value ∷ values) =
    length-append (sent_cell false value) (flat_map (sent_cell false) values)
    ∙ ap (λ n. n + length (flat_map (sent_cell false) values)) (lengths value) ∙
    ap (λ n. bin_len value + n) (length-cells lengths values) ∙
    sym (sum_by-cons bin_len value values)

-- ten bytes stand before what is carried of the values
length-execution : (id : ℕ) (values : List Value) → length (execute_command id values false) ≡
    10 + length (parameters (null_bitmap values) values false)
unfolding execution
length-execution id values = omega arith

-- bitmap, mark, types and cells
length-parts : (bitmap types cells : List ℕ) → length (bitmap ++ 1 ∷ (types ++ cells)) ≡
    length bitmap + 1 + length types + length cells
length-parts bitmap types cells = omega (arith, length-append bitmap (1 ∷ (types ++ cells)), length-append types cells)

-- the sum of all parts
total : (bitmap count types cells all sum : ℕ) → all ≡ 10 + (bitmap + 1 + types + cells) → bitmap ≡
    count → types ≡ 2 * sum → (size : ℕ) → cells ≡ size → all ≡ 10 + count + 1 + 2 * sum + size
total bitmap count types cells all sum is b t size c = omega (arith, is, b, t, c)

-- the law of the sizes
pub executions_have_sizes : CellLength → ExecutionsHaveSizes
executions_have_sizes lengths = (
  λ id. length-execution id [],
  λ id value values.
      let all : List Value = value ∷ values in
      total (length (null_bitmap all)) ((length all + 7) / 8) (length (flat_map type_bytes all))
      (length (flat_map (sent_cell false) all)) (length (execute_command id all false))
      (length all)
      (length-execution id all ∙
      ap (λ n. 10 + n) (length-parts (null_bitmap all) (flat_map type_bytes all)
      (flat_map (sent_cell false) all)))
      (bitmap_length all) (length-types all) (sum_by bin_len all) (length-cells lengths all),
)

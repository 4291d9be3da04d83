-- Rows of values that stand in the query's order.
use Rattle.std.proofs.Common.{◌≡◌, ℕ, ◌+◌, ◌<◌, ◌≤◌, Bool, true, false, not, cond, List, [], ◌∷◌, ◌++◌, length, take}
use Rattle.std.proofs.Common.{drop, get_or, Some, None, refl, sym, ◌∙◌, ap, arith, append_assoc, Bor, below_more, set}
use Rattle.std.specs.Prelude.{◌||◌, is_none}
use Rattle.std.specs.List.{position_from}
use Rattle.std.proofs.lemmas.Bool.{cond-false, cond-true}
use Rattle.std.proofs.lemmas.Grind.{flat_map-append}
use Rattle.std.proofs.lemmas.List.{append-nil, drop_all, get_or-set_other, get_or-set_same, get_or_default, length-map}
use Rattle.std.proofs.lemmas.List.{map-set, take_all, take_more}
use Rattle.mysql_cells.specs.declared.value.Value.TheVariants.{NULL}
use Rattle.mysql_values.specs.Values.{FitsFields}
use Rattle.mysql_values.specs.Values.{content_of, first_float}
use Rattle.mysql_values.specs.Value.{Value}
use Rattle.mysql_bulk_builder.specs.Bulk.{param_value_bytes, param_value_of}
use Rattle.mysql_bulk_builder.specs.Causes.{is_of_other_kind, place_where}
use Rattle.mysql_bulk_builder.specs.Cut.{Row}
use Rattle.mysql_bulk_builder.specs.RowLists.{row_in}
use Rattle.mysql_bulk_builder.specs.ValueTypes.{first_in_column, first_values, is_null, same_kind}
use Rattle.mysql_bulk_builder.proofs.FirstAt.{first_at_none}
use Rattle.mysql_bulk_builder.proofs.Rows.{value_at}
use Rattle.mysql_bulk_builder.proofs.FirstValues.{Filled, filled, first_here, first_values_more, is_other}
use Rattle.mysql_command_rules.specs.declared.refusal.Refusal.TheVariants as refusals
use Rattle.mysql_send.proofs.Lists.{next_set}
use Rattle.mysql_send.specs.BulkSets.{JoinsColumn, PutsRow, row_bytes}
use Rattle.mysql_send.proofs.SetRows.{Fit, all_push}

-- the bytes of a value
abbrev pub value_bytes : Value → List ℕ
value_bytes value = param_value_bytes (param_value_of value)

-- what holds of one of three holds
or_second : (a b c : Bool) → b ≡ true → (a || b || c) ≡ true
or_second true b c e = refl
or_second false true c e = refl
or_second false false c e = absurd cc

-- a value is the first of its column
pub first_joins : (firsts : List (Bor Value)) (column : ℕ) (first value : Bor Value) →
    column < length firsts → first ≡ get_or firsts column first → is_null first.now ≡ true →
    is_none (content_of value.now) ≡ false →
    JoinsColumn (row_in firsts) (row_in (set firsts column value)) column value.now
first_joins firsts column first value lt first_is null no_float =
    let was : Value = get_or (row_in firsts) column NULL in
    let inside : column < length (row_in firsts) = omega (arith, lt, length-map firsts (λ (v : Bor Value). v.now)) in
    let seen : row_in (set firsts column value) ≡ set (row_in firsts) column value.now =
    map-set (λ (v : Bor Value). v.now) firsts column value in
    let test : is_null was ≡ true = ap is_null (value_at firsts column first NULL lt first_is) ∙ null in
    record {
      no_float = no_float;
      one_kind = or_second (is_null value.now) (is_null was) (same_kind was value.now) test;
      first = ap (λ (r : Row). get_or r column NULL) seen ∙
          get_or-set_same (row_in firsts) column value.now NULL inside ∙
          sym (cond-true (is_null was) value.now was test);
      others = λ other ne. ap (λ (r : Row). get_or r other NULL) seen ∙
          get_or-set_other (row_in firsts) column other value.now NULL ne;
    }

-- the values of a row before a place joined their columns, and were appended
pub record ListSoFar (was now : List (Bor Value)) (row : Row) (i : ℕ) (old out : List ℕ) : Type 0 where
  pub filled : Filled was now row i
  pub alike : (k : ℕ) → k < i → is_other (get_or (row_in was) k NULL) (get_or row k NULL) ≡ false
  pub float : position_from (λ value. is_none (content_of value)) i (drop i row) ≡ first_float row
  pub fit : Fit (take i row)
  pub bytes : out ≡ old ++ row_bytes (take i row)

module _ (was now new : List (Bor Value)) (row : Row) (i : ℕ) (value : Value)
    (old out new_out : List ℕ) (s : ListSoFar was now row i old out) (lt : i < length row)
    (is : value ≡ get_or row i value)
    (j : JoinsColumn (row_in now) (row_in new) i value) where
  -- the value stands in the row
  at : get_or row i NULL ≡ value
  at = sym (is ∙ get_or_default row i value NULL lt)

  -- one value more of the row
  more : take (i + 1) row ≡ take i row ++ value ∷ []
  more = take_more row i NULL lt ∙ ap (λ v. take i row ++ v ∷ []) at

  -- the column's first value is filled
  filled_more : Filled was new row (i + 1)
  filled_more = record {
    put = below_more (λ column. get_or (row_in new) column NULL ≡
        filled (get_or (row_in was) column NULL) (get_or row column NULL)) i
        (λ column less. j.others column (λ e. absurd (omega (arith, less, e))) ∙ s.filled.put column less)
        (j.first ∙ ap (λ v. filled (get_or (row_in now) i NULL) v) (sym at) ∙
        ap (λ v. filled v (get_or row i NULL)) (s.filled.rest i (omega arith)));
    rest = λ column le. j.others column (λ e. absurd (omega (arith, le, e))) ∙ s.filled.rest column (omega (arith, le));
  }

  -- the value is of the column's kind
  alike_here : is_other (get_or (row_in was) i NULL) (get_or row i NULL) ≡ false
  alike_here = ap (λ v. is_other v (get_or row i NULL)) (sym (s.filled.rest i (omega arith))) ∙
      ap (λ v. is_other (get_or (row_in now) i NULL) v) at ∙ ap not j.one_kind

  -- the value is no float
  float_more : position_from (λ value. is_none (content_of value)) (i + 1) (drop (i + 1) row) ≡ first_float row
  float_more =
      sym (cond-false (is_none (content_of value)) (Some i)
      (position_from (λ value. is_none (content_of value)) (i + 1) (drop (i + 1) row))
      j.no_float)
      ∙ ap (λ l. position_from (λ value. is_none (content_of value)) i l) (sym (next_set row i value lt is)) ∙ s.float

  -- its bytes are behind those of the values before
  bytes_more : new_out ≡ out ++ value_bytes value → new_out ≡ old ++ row_bytes (take (i + 1) row)
  bytes_more put =
      put ∙ ap (λ l. l ++ value_bytes value) s.bytes ∙ append_assoc old (row_bytes (take i row)) (value_bytes value)
      ∙ ap (λ l. old ++ (row_bytes (take i row) ++ l)) (sym (append-nil (value_bytes value)))
      ∙ ap (λ l. old ++ l) (sym (flat_map-append value_bytes (take i row) (value ∷ [])) ∙
      ap (λ l. row_bytes l) (sym more))

  -- one more value
  pub one_value : FitsFields value → new_out ≡ out ++ value_bytes value → ListSoFar was new row (i + 1) old new_out
  one_value fits put = record {
    filled = filled_more;
    alike = below_more (λ k. is_other (get_or (row_in was) k NULL) (get_or row k NULL) ≡ false) i s.alike alike_here;
    float = float_more;
    fit = ap_fit (all_push (λ v. FitsFields v) (take i row) value s.fit fits);
    bytes = bytes_more put;
  }
    where
      ap_fit : Fit (take i row ++ value ∷ []) → Fit (take (i + 1) row)
      ap_fit all = rw more all

-- no value is of another kind than the first one of its column in the rows before
none_is_other : (firsts : List (Bor Value)) (row : Row) (before : List Row) → length row ≡
    length firsts → row_in firsts ≡ first_values (length firsts) before →
    ((k : ℕ) → k < length row → is_other (get_or (row_in firsts) k NULL) (get_or row k NULL) ≡
    false) → place_where (is_of_other_kind before) row ≡ None
none_is_other firsts row before wide is none =
    first_at_none (λ place value. cond (is_of_other_kind before place value) (Some place) None) row NULL (λ k lt.
    let first : first_in_column k before ≡ get_or (row_in firsts) k NULL =
    sym (ap (λ (r : Row). get_or r k NULL) is ∙
    first_here (length firsts) before k NULL (omega (arith, lt, wide))) in
    cond-false (is_of_other_kind before k (get_or row k NULL)) (Some k) None
    (ap (λ v. is_other v (get_or row k NULL)) first ∙ none k lt))

-- all values
pub all_values_put : (firsts now : List (Bor Value)) (row : Row) (i : ℕ) (old out : List ℕ) →
    ListSoFar firsts now row i old out → length row ≡ length firsts → length now ≡ length firsts →
    length row ≤ i →
    PutsRow (row_in firsts) (row_in now) row old out
all_values_put firsts now row i old out s wide len end =
    let columns : length (row_in firsts) ≡ length firsts = length-map firsts (λ (v : Bor Value). v.now) in
    let whole : take i row ≡ row = take_all i row end in
    record {
      wide = wide ∙ sym columns;
      no_float = sym (ap (λ l. position_from (λ value. is_none (content_of value)) i l)
          (sym (drop_all i row end)) ∙ s.float);
      fit = fits whole s.fit;
      one_kind = λ before is. none_is_other firsts row before wide (is ∙
          ap (λ n. first_values n before) columns) (λ k lt. s.alike k (omega (arith, lt, end)));
      firsts_are = λ before is.
          first_values_more (length firsts) firsts now row refl len
          (λ column lt. s.filled.put column (omega (arith, lt, wide, end))) before (is ∙
          ap (λ n. first_values n before) columns)
          ∙ ap (λ n. first_values n (before ++ row ∷ [])) (sym columns);
      appended = s.bytes ∙ ap (λ l. old ++ row_bytes l) whole;
    }
  where
    fits : take i row ≡ row → Fit (take i row) → Fit row
    fits whole all = rw (sym whole) all

-- Rows of the same length, one after another.
use Rattle.std.proofs.Common.{◌≡◌, ℕ, zero, suc, ◌+◌, ◌*◌, ◌<◌, ◌≤◌, ◌==◌, ◌&&◌, Bool, true, false, List, [], ◌∷◌}
use Rattle.std.proofs.Common.{length, get_or, drop, map, Some, None, refl, sym, ap, ◌∙◌, arith}
use Rattle.std.specs.Prelude.{if◌then◌else◌}
use Rattle.std.proofs.lemmas.Bool.{eq-eqb, eqb-true, ne_eqb}
use Rattle.std.proofs.lemmas.List.{drop_more, length-append, length-map}
use Rattle.std.specs.declared.alloc.Global.{Global}
use Rattle.std.specs.Prelude.{Vec}
use Rattle.mysql_cells.specs.declared.value.Value.{Value}
use Rattle.mysql_bulk_builder.specs.Bulk.{BulkExecution, all_values, bulk_cause, column_types_of, first_length}
use Rattle.mysql_bulk_builder.specs.Bulk.{have_length, param_value_of, sends_types}
use Rattle.mysql_bulk_builder.specs.declared.request_error.BulkExecuteRequestError.TheVariants.{MixedArity}
use Rattle.mysql_bulk_builder.specs.declared.param_value.StmtBulkExecuteParamValue.{StmtBulkExecuteParamValue}

pub both : (a b : Bool) → a && b ≡ true → (a ≡ true) × (b ≡ true)
both true b h = (refl, h)
both false b h = absurd cc

-- rows of one length have so many values in all
pub count_of : (n : ℕ) (rows : List (List Value)) → have_length n rows ≡ true →
    length (all_values rows) ≡ length rows * n
unfolding have_length
count_of n [] h = omega arith
count_of n (row ∷ rows) h =
    let p = both (length row == n) (have_length n rows) h in
    length-append row (all_values rows) ∙
    ap (λ (k : ℕ). k + length (all_values rows)) (eqb-true (length row) n p.0) ∙
    ap (λ (k : ℕ). n + k) (count_of n rows p.1) ∙ omega arith

passed : (rows : List (List Value)) → bulk_cause rows ≡ None → have_length (first_length rows) rows ≡ true
passed [] none = absurd cc
passed (row ∷ rows) none = at (have_length (length row) (row ∷ rows)) none
  where
    at : (b : Bool) → (if b then None else Some MixedArity) ≡ None → b ≡ true
    at true h = refl
    at false h = absurd cc

pub rows_count : (rows : List (List Value)) (values : List StmtBulkExecuteParamValue) →
    bulk_cause rows ≡ None → values ≡ map param_value_of (all_values rows) → length values ≡
    length rows * first_length rows
rows_count rows values none is =
    ap length is ∙ length-map (all_values rows) param_value_of ∙ count_of (first_length rows) rows (passed rows none)

-- what a list of rows holds
abbrev pub rows_of : List (Vec Value Global) → List (List Value)
rows_of rows = map (λ (row : Vec Value Global). row.items) rows

pub first_is : (rows : List (Vec Value Global)) (row : Vec Value Global) (arity : ℕ) →
    0 < length rows → row ≡ get_or rows 0 row → arity ≡ length row.items → arity ≡
    first_length (rows_of rows)
first_is [] row arity some here is = absurd (omega arith)
first_is (first ∷ rows) row arity some here is = is ∙ ap (λ (r : Vec Value Global). length r.items) here

whole_cause : (rows : List (Vec Value Global)) (arity : ℕ) (b : Bool) → 0 < length rows → arity ≡
    first_length (rows_of rows) → have_length arity (rows_of rows) ≡ b → bulk_cause (rows_of rows) ≡
    (if b then None else Some MixedArity)
whole_cause [] arity b some is all = absurd (omega arith)
whole_cause (row ∷ rows) arity b some is all =
    ap (λ (c : Bool). if c then None else Some MixedArity)
    (ap (λ (n : ℕ). have_length n (rows_of (row ∷ rows))) (sym is) ∙ all)

less : (arity i : ℕ) (rows : List (Vec Value Global)) (row : Vec Value Global) → i < length rows →
    row ≡ get_or rows i row
    → have_length arity (rows_of (drop i rows)) ≡
    ((length row.items == arity) && have_length arity (rows_of (drop (i + 1) rows)))
unfolding have_length
less arity i rows row inside here =
    ap (λ (l : List (Vec Value Global)). have_length arity (rows_of l)) (drop_more rows i row inside)
    ∙ ap (λ (r : Vec Value Global). (length r.items == arity) &&
    have_length arity (rows_of (drop (i + 1) rows))) (sym here)

pub goes_on : (arity i : ℕ) (rows : List (Vec Value Global)) (row : Vec Value Global) →
    i < length rows → row ≡ get_or rows i row → length row.items ≡ arity
    → have_length arity (rows_of (drop i rows)) ≡ have_length arity (rows_of rows) →
    have_length arity (rows_of (drop (i + 1) rows)) ≡ have_length arity (rows_of rows)
goes_on arity i rows row inside here same so_far =
    sym (ap (λ (b : Bool). b && have_length arity (rows_of (drop (i + 1) rows)))
    (eq-eqb (length row.items) arity same)) ∙ sym (less arity i rows row inside here) ∙ so_far

pub mixed : (arity i : ℕ) (rows : List (Vec Value Global)) (row : Vec Value Global) → arity ≡
    first_length (rows_of rows) → i < length rows → row ≡ get_or rows i row →
    (length row.items ≡ arity → ⊥)
    → have_length arity (rows_of (drop i rows)) ≡ have_length arity (rows_of rows) →
    bulk_cause (rows_of rows) ≡ Some MixedArity
mixed arity i rows row is inside here other so_far =
    whole_cause rows arity false (omega (arith, inside)) is
    (sym so_far ∙ less arity i rows row inside here ∙
    ap (λ (b : Bool). b && have_length arity (rows_of (drop (i + 1) rows)))
    (ne_eqb (length row.items) arity other))

none_left : (arity i : ℕ) (rows : List (Vec Value Global)) → length rows ≤ i →
    have_length arity (rows_of (drop i rows)) ≡ true
unfolding have_length
none_left arity zero [] h = refl
none_left arity (suc i) [] h = refl
none_left arity zero (row ∷ rows) h = absurd (omega arith)
none_left arity (suc i) (row ∷ rows) h = none_left arity i rows (omega arith)

pub all_same : (arity i : ℕ) (rows : List (Vec Value Global)) → 0 < length rows → arity ≡
    first_length (rows_of rows) → length rows ≤ i
    → have_length arity (rows_of (drop i rows)) ≡ have_length arity (rows_of rows) → bulk_cause (rows_of rows) ≡ None
all_same arity i rows some is over so_far =
    whole_cause rows arity true some is (sym so_far ∙ none_left arity i rows over)

pub some_of : (n : ℕ) → false ≡ (n == 0) → 0 < n
some_of zero e = absurd cc
some_of (suc n) e = omega arith

pub other_length : (len n arity : ℕ) → len ≡ n → (len ≡ arity → ⊥) → n ≡ arity → ⊥
other_length len n arity is other same = other (is ∙ same)

pub same_length : (len n arity : ℕ) → len ≡ n → len ≡ arity → n ≡ arity
same_length len n arity is same = sym is ∙ same

pub flat_count : (rows : List (Vec Value Global)) (values : List StmtBulkExecuteParamValue)
    (count arity : ℕ) → bulk_cause (rows_of rows) ≡ None → values ≡
    map param_value_of (all_values (rows_of rows)) → count ≡ length rows
    → arity ≡ first_length (rows_of rows) → length values ≡ count * arity
flat_count rows values count arity none is count_is arity_is =
    rows_count (rows_of rows) values none is
    ∙ ap (λ (n : ℕ). n * first_length (rows_of rows))
    (length-map rows (λ (row : Vec Value Global). row.items) ∙ sym count_is)
    ∙ ap (λ (n : ℕ). count * n) (sym arity_is)

values_back : (values : List Value) →
    map (λ (p : StmtBulkExecuteParamValue). p.value) (map param_value_of values) ≡ values
values_back [] = refl
values_back (value ∷ values) = ap (λ (l : List Value). value ∷ l) (values_back values)

-- the execution with these values, by the types of those
abbrev pub typed : ℕ → ℕ → ℕ → ℕ → List Value → List StmtBulkExecuteParamValue → BulkExecution
typed id flags arity count values params =
    record {
      stmt_id = id;
      flags = flags;
      types =
          if sends_types flags then column_types_of arity count values else [];
      values = params;
    }

pub new_view : (view : BulkExecution) (id flags count arity : ℕ) (rows : List (Vec Value Global))
    (params : List StmtBulkExecuteParamValue) → params ≡
    map param_value_of (all_values (rows_of rows)) → count ≡ length rows
    → arity ≡ first_length (rows_of rows) → view ≡
    typed id flags arity count (map (λ (p : StmtBulkExecuteParamValue). p.value) params) params
    → view ≡ typed id flags (first_length (rows_of rows)) (length (rows_of rows))
    (all_values (rows_of rows)) (map param_value_of (all_values (rows_of rows)))
new_view view id flags count arity rows params is count_is arity_is made =
    let all : List StmtBulkExecuteParamValue = map param_value_of (all_values (rows_of rows)) in
    made
    ∙ ap (λ (l : List StmtBulkExecuteParamValue). typed id flags arity count
    (map (λ (p : StmtBulkExecuteParamValue). p.value) l) l) is
    ∙ ap (λ (l : List Value). typed id flags arity count l all) (values_back (all_values (rows_of rows)))
    ∙ ap (λ (n : ℕ). typed id flags n count (all_values (rows_of rows)) all) arity_is
    ∙ ap (λ (n : ℕ). typed id flags (first_length (rows_of rows)) n (all_values (rows_of rows)) all)
    (count_is ∙ sym (length-map rows (λ (row : Vec Value Global). row.items)))

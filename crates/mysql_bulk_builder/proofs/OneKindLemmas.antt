-- Why the types that a request carries serve the rows that are sent by them.
use Rattle.std.proofs.Common.{◌≡◌, ℕ, zero, suc, ◌+◌, ◌*◌, ◌<◌, ◌≤◌, inl, inr, Bool, true, false, not, cond, List, []}
use Rattle.std.proofs.Common.{◌∷◌, ◌++◌, length, take, drop, map, get_or, Option, Some, None, refl, sym, ◌∙◌, ap, subst}
use Rattle.std.proofs.Common.{arith}
use Rattle.std.specs.Prelude.{◌||◌, ◌==◌, sum_by, count_by, nat_lt}
use Rattle.std.specs.List.{enumerate_from}
use Rattle.std.specs.Option.{option_map, option_or}
use Rattle.std.proofs.lemmas.Bool.{cases_lt, cases_Bool, true≢false, and_parts, not-false, eqb-true, cond-false}
use Rattle.std.proofs.lemmas.Bool.{ltb-false}
use Rattle.std.proofs.lemmas.List.{take-append-drop, take-take, take_more, drop-take}
use Rattle.std.proofs.lemmas.List.Sums.{sum_by-cons, sum_by-take-drop}
use Rattle.mysql_cells.specs.declared.value.Value.{Value}
use Rattle.mysql_cells.specs.declared.value.Value.TheVariants.{NULL}
use Rattle.mysql_bulk_builder.specs.Cut.{Row, row_size, rows_of}
use Rattle.mysql_bulk_builder.specs.TypedCut.{PartFits, HasValue, has_value_at}
use Rattle.mysql_bulk_builder.specs.ValueTypes.{is_null, sent_type, first_in_column, same_kind}
use Rattle.mysql_bulk_builder.specs.Causes.{first_some, first_at, place_where, is_of_other_kind, mixed_kinds}
use Rattle.mysql_bulk_builder.specs.KindLaws.{value_in, HasValueAt, OneKind, UntypedRunAddsNoColumn, FirstValueIsThere}
use Rattle.mysql_bulk_builder.specs.KindLaws.{NoneTooLarge}
use Rattle.mysql_bulk_builder.proofs.LongestPart.{one_row}

-- where there is no first answer, there is none at any place
none_at_from : {X Y : Type 0} (answer : ℕ → X → Option Y) (xs : List X) (n : ℕ) (d : X) →
    first_some (map (λ p. answer p.0 p.1) (enumerate_from n xs)) ≡ None → (k : ℕ) → k < length xs →
    answer (n + k) (get_or xs k d) ≡ None
none_at_from answer [] n d none k lt = absurd (omega arith)
none_at_from {Y} answer (x ∷ xs) n d none zero lt =
    let e : n + 0 ≡ n = omega arith in
    ap (λ (i : ℕ). answer i x) e ∙
    (or_none (answer n x) (first_some (map (λ p. answer p.0 p.1) (enumerate_from (n + 1) xs)))
    none).0
  where
    or_none : (o p : Option Y) → option_or o p ≡ None → (o ≡ None) × (p ≡ None)
    or_none None p e = (refl, e)
    or_none (Some x) p e = absurd (cc)
none_at_from {Y} answer (x ∷ xs) n d none (suc k) lt =
    let e : n + suc k ≡ (n + 1) + k = omega arith in
    ap (λ (i : ℕ). answer i (get_or xs k d)) e ∙
    none_at_from answer xs (n + 1) d
    (or_none (answer n x) (first_some (map (λ p. answer p.0 p.1) (enumerate_from (n + 1) xs)))
    none).1 k (omega arith)
  where
    or_none : (o p : Option Y) → option_or o p ≡ None → (o ≡ None) × (p ≡ None)
    or_none None p e = (refl, e)
    or_none (Some x) p e = absurd (cc)

none_at : {X Y : Type 0} (answer : ℕ → X → Option Y) (xs : List X) (d : X) → first_at answer xs ≡
    None → (k : ℕ) → k < length xs → answer k (get_or xs k d) ≡ None
none_at answer xs d none k lt = let e : 0 + k ≡ k = omega arith in
    ap (λ (i : ℕ). answer i (get_or xs k d)) (sym e) ∙ none_at_from answer xs 0 d none k lt

map_none : {X Y : Type 0} (f : X → Y) (o : Option X) → option_map f o ≡ None → o ≡ None
map_none f None e = refl
map_none f (Some x) e = absurd (cc)

-- rows that mix no kinds: no row has a value of another kind than the first ones before
pub none_before : (rows : List Row) → mixed_kinds rows ≡ None → (k : ℕ) → k < length rows →
    place_where (is_of_other_kind (take k rows)) (get_or rows k []) ≡ None
none_before rows none k lt =
    map_none (λ place. (k, place)) _
    (none_at (λ set row. option_map (λ place. (set, place))
    (place_where (is_of_other_kind (take set rows)) row)) rows [] none k lt)

-- no place of the row passes the test
no_place : (test : ℕ → Value → Bool) (row : Row) → place_where test row ≡ None → (column : ℕ) →
    column < length row → test column (get_or row column NULL) ≡ false
no_place test row none column lt =
    fails (test column (get_or row column NULL)) column
    (none_at (λ place value. cond (test place value) (Some place) None) row NULL none column lt)
  where
    fails : (b : Bool) (place : ℕ) → cond b (Some place) None ≡ None → b ≡ false
    fails true place e = absurd (cc)
    fails false place e = refl

-- the first value of rows that go on
pub first_of_append : (column : ℕ) (a b : List Row) → is_null (first_in_column column a) ≡ false →
    first_in_column column (a ++ b) ≡ first_in_column column a
first_of_append column [] b e = absurd (true≢false e)
first_of_append column (row ∷ a) b e =
    by (is_null (get_or row column NULL)) (get_or row column NULL) (first_of_append column a b) e
  where
    by : (n : Bool) (v : Value) →
        (is_null (first_in_column column a) ≡ false → first_in_column column (a ++ b) ≡
        first_in_column column a) → is_null (cond n (first_in_column column a) v) ≡ false →
        cond n (first_in_column column (a ++ b)) v ≡ cond n (first_in_column column a) v
    by true v rest e = rest e
    by false v rest e = refl

pub first_of_rest : (column : ℕ) (a b : List Row) → is_null (first_in_column column a) ≡ true →
    first_in_column column (a ++ b) ≡ first_in_column column b
first_of_rest column [] b e = refl
first_of_rest column (row ∷ a) b e =
    by (get_or row column NULL) (is_null (get_or row column NULL)) (first_of_rest column a b) refl e
  where
    by : (v : Value) (n : Bool) →
        (is_null (first_in_column column a) ≡ true → first_in_column column (a ++ b) ≡
        first_in_column column b) → is_null v ≡ n → is_null (cond n (first_in_column column a) v) ≡
        true → cond n (first_in_column column (a ++ b)) v ≡ first_in_column column b
    by v true rest same e = rest e
    by v false rest same e = absurd (true≢false (sym e ∙ same))

-- the first value of more rows
first_of_more : (column m k : ℕ) (rows : List Row) → m ≤ k →
    is_null (first_in_column column (take m rows)) ≡ false → first_in_column column (take k rows) ≡
    first_in_column column (take m rows)
first_of_more column m k rows le e =
    let front : take m (take k rows) ≡ take m rows = take-take m k rows le in
    let split : take k rows ≡ take m rows ++ drop m (take k rows) =
    sym (take-append-drop m (take k rows)) ∙
    ap (λ (r : List Row). r ++ drop m (take k rows)) front in
    ap (first_in_column column) split ∙ first_of_append column (take m rows) (drop m (take k rows)) e

-- values of one kind have one type
same_type : (v w : Value) → same_kind v w ≡ true → sent_type v ≡ sent_type w
same_type v w e =
    let p = and_parts ((sent_type v).0 == (sent_type w).0) ((sent_type v).1 == (sent_type w).1) e in
    let a : (sent_type v).0 ≡ (sent_type w).0 = eqb-true _ _ p.0 in
    let b : (sent_type v).1 ≡ (sent_type w).1 = eqb-true _ _ p.1 in
    ap (λ (n : ℕ). let t : ℕ × ℕ = (n, (sent_type v).1) in t) a ∙
    ap (λ (n : ℕ). let t : ℕ × ℕ = ((sent_type w).0, n) in t) b

module _ (rows : List Row) (one : mixed_kinds rows ≡ None) (k column : ℕ) (h : HasValueAt rows k column) where
  -- the column's first value before this row has its kind
  kind_before : is_null (first_in_column column (take k rows)) ≡ false →
      sent_type (first_in_column column (take k rows)) ≡ sent_type (value_in rows k column)
  kind_before e =
      let row = get_or rows k [] in
      let first = first_in_column column (take k rows) in
      let none = none_before rows one k h.0 in
      let test : not (is_null (value_in rows k column) || is_null first ||
      same_kind first (value_in rows k column)) ≡ false =
      no_place (is_of_other_kind (take k rows)) row none column h.1 in
      same_type first (value_in rows k column)
      (third (is_null (value_in rows k column)) (is_null first)
      (same_kind first (value_in rows k column)) h.2 e (not-false _ test))
    where
      third : (a b c : Bool) → a ≡ false → b ≡ false → (a || b || c) ≡ true → c ≡ true
      third true b c ea eb e = absurd (true≢false ea)
      third false true c ea eb e = absurd (true≢false eb)
      third false false c ea eb e = e

  -- the rows up to this one have a value in the column
  here : is_null (first_in_column column (take k rows)) ≡ true →
      first_in_column column (take (k + 1) rows) ≡ value_in rows k column
  here e =
      let more : take (k + 1) rows ≡ take k rows ++ get_or rows k [] ∷ [] = take_more rows k [] h.0 in
      ap (first_in_column column) more ∙
      first_of_rest column (take k rows) (get_or rows k [] ∷ []) e ∙
      cond-false (is_null (value_in rows k column)) NULL (value_in rows k column) h.2

  one_kind_at : (m : ℕ) → is_null (first_in_column column (take m rows)) ≡ false →
      sent_type (first_in_column column (take m rows)) ≡ sent_type (value_in rows k column)
  one_kind_at m e = elim (cases_lt k m) [
    | inr before ↦
        let same : first_in_column column (take k rows) ≡ first_in_column column (take m rows) =
        first_of_more column m k rows before e in
        ap sent_type (sym same) ∙ kind_before (ap is_null same ∙ e)
    | inl after ↦ elim (cases_Bool (is_null (first_in_column column (take k rows)))) [
      | inr value ↦ ap sent_type (first_of_more column k m rows (omega arith) value) ∙ kind_before value
      | inl none ↦
          let at = here none in
          ap sent_type (first_of_more column (k + 1) m rows (omega arith) (ap is_null at ∙ h.2) ∙ at)
    ]
  ]

pub one_kind : OneKind
one_kind rows one m k column h e = one_kind_at rows one k column h m e

pub untyped_run_adds_no_column : UntypedRunAddsNoColumn
untyped_run_adds_no_column room columns start rows [] untyped fits column lt has =
    subst (λ n. HasValue column (take n rows)) (plus_zero start) has
  where
    plus_zero : (n : ℕ) → n + 0 ≡ n
    plus_zero n = omega arith
untyped_run_adds_no_column room columns start rows (part ∷ run) untyped fits column lt has =
    let total : start + sum_by (λ p. p.count) (part ∷ run) ≡
    (start + part.count) + sum_by (λ p. p.count) run =
    omega (arith, sum_by-cons (λ p. p.count) part run) in
    let later : HasValue column (take (start + part.count) rows) =
    untyped_run_adds_no_column room columns (start + part.count) rows run untyped.1 fits.1
    column lt (subst (λ n. HasValue column (take n rows)) total has) in
    let known = subst (λ t. PartFits room columns rows start t part.count) untyped.0 fits.0 in
    elim (cases_lt 0 (count_by (has_value_at column) (take start rows))) [
      | inl before ↦ before
      | inr none ↦
          let f : Row → ℕ = λ row. cond (has_value_at column row) 1 0 in
          let split = sum_by-take-drop f (take (start + part.count) rows) start in
          let front : take start (take (start + part.count) rows) ≡ take start rows =
          take-take start (start + part.count) rows (omega arith) in
          let back : drop start (take (start + part.count) rows) ≡ rows_of rows start part.count =
          drop-take start part.count rows in
          let inside : HasValue column (rows_of rows start part.count) =
          omega (arith, split, ap (sum_by f) front, ap (sum_by f) back, none, later) in
          known.2 column lt inside
    ]

pub first_value_is_there : FirstValueIsThere
first_value_is_there [] column has = absurd (omega arith)
first_value_is_there (row ∷ rows) column has =
    by (get_or row column NULL) (is_null (get_or row column NULL))
    (first_value_is_there rows column) refl
    (sum_by-cons (λ r. cond (has_value_at column r) 1 0) row rows)
  where
    by : (v : Value) (n : Bool) →
        (HasValue column rows → is_null (first_in_column column rows) ≡ false) → is_null v ≡ n →
        count_by (has_value_at column) (row ∷ rows) ≡
        cond (not n) 1 0 + count_by (has_value_at column) rows →
        is_null (cond n (first_in_column column rows) v) ≡ false
    by v true rest same e = rest (omega (arith, e, has))
    by v false rest same e = same

none_if : {X : Type 0} (test : Bool) (x : X) → cond test (Some x) None ≡ None → test ≡ false
none_if true x e = absurd (cc)
none_if false x e = refl

pub none_too_large : NoneTooLarge
none_too_large room columns rows none k lt =
    let at = none_at (λ set row. cond (nat_lt room (7 + 2 * columns + row_size row)) (Some set)
    None) rows [] none k lt in
    let le = ltb-false room (7 + 2 * columns + row_size (get_or rows k []))
    (none_if (nat_lt room (7 + 2 * columns + row_size (get_or rows k []))) k at) in
    omega (arith, le, one_row rows k lt)

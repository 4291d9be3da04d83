-- The first value of each column, row by row.
use Rattle.std.proofs.Common.{◌≡◌, ◌≢◌, ℕ, ◌+◌, ◌<◌, ◌≤◌, inl, inr, Bool, true, false, not, cond, List, [], ◌∷◌, ◌++◌}
use Rattle.std.proofs.Common.{length, drop, get_or, Option, Some, None, refl, sym, ◌∙◌, ap, arith, Bor, below_more, set}
use Rattle.std.specs.Prelude.{◌||◌, MatchOption}
use Rattle.std.proofs.lemmas.Bool.{cases_Bool, cond-true, cond-false}
use Rattle.std.proofs.lemmas.List.{drop_more, length-map, map-append, map-set, get_or-set_same, get_or-set_other}
use Rattle.std.proofs.lemmas.List.{same_lists, get_or_default}
use Rattle.std.proofs.lemmas.List.FromFn.{get_or-map-range_with_len, length-map-range_with_len, map-range_with_len_more}
use Rattle.mysql_cells.specs.declared.value.Value.{Value}
use Rattle.mysql_cells.specs.declared.value.Value.TheVariants.{NULL, Bytes, Int, UInt, Float, Double, Date, Time}
use Rattle.mysql_bulk_builder.specs.Cut.{Row}
use Rattle.mysql_bulk_builder.specs.Causes.{is_of_other_kind, place_where}
use Rattle.mysql_bulk_builder.specs.RowLists.{row_in}
use Rattle.mysql_bulk_builder.specs.ValueTypes.{is_null, first_in_column, first_values, same_kind}
use Rattle.mysql_bulk_builder.proofs.FirstAt.{first_at_none, first_at_some}
use Rattle.mysql_bulk_builder.proofs.Rows.{value_at}
use Rattle.mysql_bulk_builder.proofs.OneKindLemmas.{first_of_append, first_of_rest}

-- a first value, or where it is NULL the next one
abbrev pub filled : Value → Value → Value
filled first value = cond (is_null first) value first

-- a value of another kind than the first one
abbrev pub is_other : Value → Value → Bool
is_other first value = not (is_null value || is_null first || same_kind first value)

-- a value alone, or NULL
alone : (value : Value) → cond (is_null value) NULL value ≡ value
alone NULL = refl
alone (Bytes bytes) = refl
alone (Int z) = refl
alone (UInt n) = refl
alone (Float bits) = refl
alone (Double bits) = refl
alone (Date year month day hour minute second micros) = refl
alone (Time negative days hours minutes seconds micros) = refl

-- the first value of rows and one more
first_with : (column : ℕ) (before : List Row) (row : Row) →
    first_in_column column (before ++ row ∷ []) ≡
    filled (first_in_column column before) (get_or row column NULL)
first_with column before row = elim (cases_Bool (is_null (first_in_column column before))) [
  | inl null ↦ first_of_rest column before (row ∷ []) null ∙ alone (get_or row column NULL) ∙
      sym (cond-true (is_null (first_in_column column before)) (get_or row column NULL)
      (first_in_column column before) null)
  | inr some ↦ first_of_append column before (row ∷ []) some ∙
      sym (cond-false (is_null (first_in_column column before)) (get_or row column NULL)
      (first_in_column column before) some)
]

-- there is one for each column
pub length_first : (columns : ℕ) (rows : List Row) → length (first_values columns rows) ≡ columns
length_first columns rows = length-map-range_with_len (λ column. first_in_column column rows) 0 columns

-- the first value of one column
pub first_here : (columns : ℕ) (rows : List Row) (column : ℕ) (d : Value) → column < columns →
    get_or (first_values columns rows) column d ≡ first_in_column column rows
first_here columns rows column d lt =
    get_or-map-range_with_len (λ column. first_in_column column rows) 0 columns column column d lt
    (omega arith)

-- NULL for one more column
pub one_more_null : (firsts new : List (Bor Value)) (null : Bor Value) (column : ℕ) → null.now ≡
    NULL → row_in firsts ≡ first_values column [] → new ≡ firsts ++ null ∷ [] → row_in new ≡
    first_values (column + 1) []
one_more_null firsts new null column is before put =
    let none : List Row = [] in
    ap (λ l. row_in l) put ∙ map-append (λ (v : Bor Value). v.now) firsts (null ∷ []) ∙
    ap (λ (r : Row). r ++ null.now ∷ []) before ∙
    ap (λ (v : Value). first_values column [] ++ v ∷ []) is
    ∙ sym (map-range_with_len_more (λ column. first_in_column column none) 0 column column (omega arith))

-- the first values of one more row, column by column
pub first_values_more : (columns : ℕ) (old new : List (Bor Value)) (row : Row) → length old ≡
    columns → length new ≡ columns →
    ((column : ℕ) → column < columns → get_or (row_in new) column NULL ≡
    filled (get_or (row_in old) column NULL) (get_or row column NULL)) →
    (before : List Row) → row_in old ≡ first_values columns before → row_in new ≡
    first_values columns (before ++ row ∷ [])
first_values_more columns old new row len_old len_new each before is =
    let len : length (row_in new) ≡ columns = length-map new (λ (v : Bor Value). v.now) ∙ len_new in
    same_lists (row_in new) (first_values columns (before ++ row ∷ [])) (len ∙
    sym (length_first columns (before ++ row ∷ []))) (λ k d inside.
    let lt : k < columns = omega (arith, inside, len) in
    let was : get_or (row_in old) k NULL ≡ first_in_column k before =
    ap (λ (r : Row). get_or r k NULL) is ∙ first_here columns before k NULL lt in
    get_or_default (row_in new) k d NULL inside ∙ each k lt ∙
    ap (λ v. filled v (get_or row k NULL)) was ∙ sym (first_with k before row) ∙
    sym (first_here columns (before ++ row ∷ []) k d lt))

-- the first so many columns are filled from a row, and the others as they were
pub record Filled (was now : List (Bor Value)) (row : Row) (i : ℕ) : Type 0 where
  pub put : (column : ℕ) → column < i → get_or (row_in now) column NULL ≡
      filled (get_or (row_in was) column NULL) (get_or row column NULL)
  pub rest : (column : ℕ) → i ≤ column → get_or (row_in now) column NULL ≡ get_or (row_in was) column NULL

-- one more column is filled
filled_one_more : (was now new : List (Bor Value)) (row : Row) (i : ℕ) → Filled was now row i →
    get_or (row_in new) i NULL ≡ filled (get_or (row_in now) i NULL) (get_or row i NULL) →
    ((column : ℕ) → column ≢ i → get_or (row_in new) column NULL ≡
    get_or (row_in now) column NULL) → Filled was new row (i + 1)
filled_one_more was now new row i f at others = record {
  put = below_more (λ column. get_or (row_in new) column NULL ≡
      filled (get_or (row_in was) column NULL) (get_or row column NULL)) i
      (λ column lt. others column (λ e. absurd (omega (arith, lt, e))) ∙ f.put column lt)
      (at ∙ ap (λ v. filled v (get_or row i NULL)) (f.rest i (omega arith)));
  rest = λ column le. others column (λ e. absurd (omega (arith, le, e))) ∙ f.rest column (omega (arith, le));
}

-- a NULL gives way
pub filled_here : (was now new : List (Bor Value)) (row : Row) (i : ℕ) (first value : Bor Value) →
    Filled was now row i → i < length now → first ≡ get_or now i first → get_or row i NULL ≡
    value.now →
    is_null first.now ≡ true → new ≡ set now i value → Filled was new row (i + 1)
filled_here was now new row i first value f lt first_is value_is null is =
    let inside : i < length (row_in now) = omega (arith, lt, length-map now (λ (v : Bor Value). v.now)) in
    let seen : row_in new ≡ set (row_in now) i value.now = ap (λ l. row_in l) is ∙
    map-set (λ (v : Bor Value). v.now) now i value in
    let at : get_or (row_in new) i NULL ≡ value.now = ap (λ (r : Row). get_or r i NULL) seen ∙
    get_or-set_same (row_in now) i value.now NULL inside in
    let test : is_null (get_or (row_in now) i NULL) ≡ true =
    ap is_null (value_at now i first NULL lt first_is) ∙ null in
    let put : get_or (row_in new) i NULL ≡ filled (get_or (row_in now) i NULL) (get_or row i NULL) =
    at ∙ sym value_is ∙ sym (cond-true (is_null (get_or (row_in now) i NULL)) (get_or row i NULL)
    (get_or (row_in now) i NULL) test) in
    filled_one_more was now new row i f put
    (λ column ne. ap (λ (r : Row). get_or r column NULL) seen ∙
    get_or-set_other (row_in now) i column value.now NULL ne)

-- a value stays
pub filled_before : (was now : List (Bor Value)) (row : Row) (i : ℕ) (first : Bor Value) →
    Filled was now row i → i < length now → first ≡ get_or now i first →
    is_null first.now ≡ false → Filled was now row (i + 1)
filled_before was now row i first f lt first_is some =
    let test : is_null (get_or (row_in now) i NULL) ≡ false =
    ap is_null (value_at now i first NULL lt first_is) ∙ some in
    filled_one_more was now now row i f
    (sym (cond-false (is_null (get_or (row_in now) i NULL)) (get_or row i NULL)
    (get_or (row_in now) i NULL) test)) (λ column ne. refl)

-- the first value of rows and more rows
first_with_rows : (column : ℕ) (before rows : List Row) → first_in_column column (before ++ rows) ≡
    filled (first_in_column column before) (first_in_column column rows)
first_with_rows column before rows = elim (cases_Bool (is_null (first_in_column column before))) [
  | inl null ↦ first_of_rest column before rows null ∙
      sym (cond-true (is_null (first_in_column column before)) (first_in_column column rows)
      (first_in_column column before) null)
  | inr some ↦ first_of_append column before rows some ∙
      sym (cond-false (is_null (first_in_column column before)) (first_in_column column rows)
      (first_in_column column before) some)
]

-- the first values of rows stand for the rows
pub first_values_of_rows : (columns : ℕ) (before rows : List Row) →
    first_values columns (before ++ first_values columns rows ∷ []) ≡
    first_values columns (before ++ rows)
first_values_of_rows columns before rows =
    let one = before ++ first_values columns rows ∷ [] in
    same_lists (first_values columns one) (first_values columns (before ++ rows))
    (length_first columns one ∙ sym (length_first columns (before ++ rows))) (λ k d inside.
    let lt : k < columns = omega (arith, inside, length_first columns one) in
    first_here columns one k d lt ∙ first_with k before (first_values columns rows) ∙
    ap (λ v. filled (first_in_column k before) v) (first_here columns rows k NULL lt)
    ∙ sym (first_with_rows k before rows) ∙ sym (first_here columns (before ++ rows) k d lt))

-- a row without a value in the column is passed
pub first_passes : (column : ℕ) (rows : List Row) (i : ℕ) (row : Row) → i < length rows →
    get_or rows i [] ≡ row → is_null (get_or row column NULL) ≡ true →
    first_in_column column (drop i rows) ≡ first_in_column column (drop (i + 1) rows)
first_passes column rows i row lt at null =
    ap (first_in_column column) (drop_more rows i [] lt)
    ∙ cond-true (is_null (get_or (get_or rows i []) column NULL))
    (first_in_column column (drop (i + 1) rows)) (get_or (get_or rows i []) column NULL)
    (ap (λ (r : Row). is_null (get_or r column NULL)) at ∙ null)

-- one with a value has the first
pub first_found : (column : ℕ) (rows : List Row) (i : ℕ) (row : Row) → i < length rows →
    get_or rows i [] ≡ row → is_null (get_or row column NULL) ≡ false →
    first_in_column column (drop i rows) ≡ get_or row column NULL
first_found column rows i row lt at some =
    ap (first_in_column column) (drop_more rows i [] lt)
    ∙ cond-false (is_null (get_or (get_or rows i []) column NULL))
    (first_in_column column (drop (i + 1) rows)) (get_or (get_or rows i []) column NULL)
    (ap (λ (r : Row). is_null (get_or r column NULL)) at ∙ some)
    ∙ ap (λ (r : Row). get_or r column NULL) at

-- no value is of another kind than NULL
pub null_has_no_other : (first value : Value) → is_null first ≡ true → is_other first value ≡ false
null_has_no_other first value null = by (is_null value) (is_null first) (same_kind first value) null
  where
    by : (a b c : Bool) → b ≡ true → not (a || b || c) ≡ false
    by true b c e = refl
    by false true c e = refl
    by false false c e = absurd cc

-- the first place where a test holds
place_is : (test : ℕ → Value → Bool) (row : Row) (o : Option ℕ) →
    MatchOption o ((k : ℕ) → k < length row → test k (get_or row k NULL) ≡
    false) (λ k. (k < length row) × (test k (get_or row k NULL) ≡ true) ×
    ((j : ℕ) → j < k → test j (get_or row j NULL) ≡ false)) →
    o ≡ place_where test row
place_is test row None none =
    sym (first_at_none (λ place value. cond (test place value) (Some place) None) row NULL
    (λ k lt. cond-false (test k (get_or row k NULL)) (Some k) None (none k lt)))
place_is test row (Some k) found =
    sym (first_at_some (λ place value. cond (test place value) (Some place) None) row NULL k k
    found.0 (cond-true (test k (get_or row k NULL)) (Some k) None found.1)
    (λ j less. cond-false (test j (get_or row j NULL)) (Some j) None (found.2 j less)))

-- the test at one place, by the first values that stand there
pub other_here : (was now row : List (Bor Value)) (i : ℕ) (first value : Bor Value) →
    Filled was now (row_in row) i → i < length row → i < length now → first ≡ get_or now i first →
    value ≡ get_or row i value →
    is_other (get_or (row_in was) i NULL) (get_or (row_in row) i NULL) ≡ is_other first.now value.now
other_here was now row i first value f lt inside first_is value_is =
    ap (λ v. is_other v (get_or (row_in row) i NULL)) (sym (f.rest i (omega arith)) ∙
    value_at now i first NULL inside first_is) ∙
    ap (λ v. is_other first.now v) (value_at row i value NULL lt value_is)

module _ (firsts values : List (Bor Value)) (length_is : length values ≡
    length firsts) (before : List Row) (is : row_in firsts ≡ first_values (length firsts) before)
  where
    -- the row of the values
    abbrev row : Row
    row = row_in values

    -- it is as long
    len : length row ≡ length firsts
    len = length-map values (λ (v : Bor Value). v.now) ∙ length_is

    -- the test by the first values is that by the rows before
    same_test : (k : ℕ) → k < length row → is_of_other_kind before k (get_or row k NULL) ≡
        is_other (get_or (row_in firsts) k NULL) (get_or row k NULL)
    same_test k lt =
        let first : first_in_column k before ≡ get_or (row_in firsts) k NULL =
        sym (ap (λ (r : Row). get_or r k NULL) is ∙
        first_here (length firsts) before k NULL (omega (arith, lt, len))) in
        ap (λ v. is_other v (get_or row k NULL)) first

    -- no value is of another kind
    pub none_is_other : ((k : ℕ) → k < length values →
        is_other (get_or (row_in firsts) k NULL) (get_or (row_in values) k NULL) ≡ false) → None ≡
        place_where (is_of_other_kind before) (row_in values)
    none_is_other none = place_is (is_of_other_kind before) row None (λ k lt. same_test k lt ∙
        none k (omega (arith, lt, len, length_is)))

    -- the first value of another kind
    pub first_other : (k : ℕ) → k < length values →
        is_other (get_or (row_in firsts) k NULL) (get_or (row_in values) k NULL) ≡ true →
        ((j : ℕ) → j < k → is_other (get_or (row_in firsts) j NULL) (get_or (row_in values) j NULL) ≡
        false) → Some k ≡ place_where (is_of_other_kind before) (row_in values)
    first_other k less_values at none = let lt : k < length row =
        omega (arith, less_values, len, length_is) in
        place_is (is_of_other_kind before) row (Some k) (
          lt,
          same_test k lt ∙ at,
          λ j less. same_test j (omega (arith, less, lt)) ∙ none j less,
        )

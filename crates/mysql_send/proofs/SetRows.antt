-- Sets as rows, one after another.
use Rattle.std.proofs.Common.{◌≡◌, ℕ, ◌+◌, ◌-◌, ◌<◌, ◌≤◌, take, subst, Bor, ◌==◌, inl, inr, Bool, true, false, List, []}
use Rattle.std.proofs.Common.{◌∷◌, ◌++◌, length, map, drop, Option, Some, None, Ok, Err, refl, sym, ◌∙◌, ap, arith}
use Rattle.std.proofs.Common.{append_assoc}
use Rattle.std.specs.Prelude.{if◌then◌else◌, nat_lt}
use Rattle.std.specs.List.{AllByRecursion}
use Rattle.std.specs.Option.{option_or, option_map}
use Rattle.std.proofs.lemmas.Bool.{eqb-true, le-ltb}
use Rattle.std.proofs.lemmas.List.{append-nil, drop-drop, drop-map, drop_all, drop_at, length-append, length-drop}
use Rattle.std.proofs.lemmas.List.{length-map, map-append, take-map, take_at}
use Rattle.std.proofs.lemmas.List.FromFn.{length-map-range_with_len}
use Rattle.std.proofs.lemmas.Grind.{flat_map-append}
use Rattle.mysql_bulk_builder.specs.Bulk.{all_values}
use Rattle.mysql_bulk_builder.specs.RowLists.{row_in, rows_in}
use Rattle.mysql_values.specs.Values.{FitsFields}
use Rattle.mysql_values.specs.Binding.{values_cause}
use Rattle.mysql_cells.specs.Values.{first_float}
use Rattle.mysql_values.specs.declared.params.Params.{Params}
use Rattle.mysql_values.specs.declared.params.SetError.{SetError}
use Rattle.mysql_values.specs.Params.{values_over}
use Rattle.mysql_values.specs.Value.{Value}
use Rattle.mysql_bulk_builder.specs.Cut.{Row}
use Rattle.mysql_bulk_builder.specs.ValueTypes.{first_in_column, first_values}
use Rattle.mysql_command_rules.specs.declared.refusal.Refusal.{Refusal}
use Rattle.mysql_command_rules.specs.declared.refusal.Refusal.TheVariants as refusals
use Rattle.mysql_command_rules.specs.Sets.{Given, given_by, given_up_to}
use Rattle.mysql_command_rules.specs.Cause.{cause_if, first_of_sets, set_cause}
use Rattle.mysql_send.specs.Executions.{Limits}
use Rattle.mysql_send.specs.BulkSets.{RefusesSet, RefusesSets}
use Rattle.mysql_send.specs.BulkSets.{AreRows, GivesRow, GivesRows, no_command}
use Rattle.mysql_send.proofs.Lists.{first_is, gives_values}

-- the numbers of the values fit their fields
abbrev pub Fit : Row → Type 0
Fit row = AllByRecursion (λ value. FitsFields value) row

-- one element more
pub all_push : {X : Type 0} (P : X → Type 0) (xs : List X) (x : X) → AllByRecursion P xs → P x →
    AllByRecursion P (xs ++ x ∷ [])
all_push P [] x all p = (p, tt)
all_push P (y ∷ xs) x all p = (all.0, all_push P xs x all.1 p)

-- ---- one set

-- values without a cause are as many as the placeholders
count_if : (same : Bool) (first : Option ℕ) (wrong : Refusal) (float : ℕ → Refusal) →
    (if same then option_map (λ place. float place) first else Some wrong) ≡ None → same ≡ true
count_if true first wrong float none = refl
count_if false first wrong float none = absurd cc

-- the same over values
pub count_of : (wrong : Refusal) (float : ℕ → Refusal) (count : ℕ) (values : List Value) →
    values_cause wrong float count values ≡ None → length values ≡ count
count_of wrong float count values none =
    eqb-true (length values) count
    (count_if (length values == count) (first_float values) wrong float none)

-- a cause by size alone is none where there is none
by_size : (first : Option Refusal) (long : Bool) (refusal : Refusal) → first ≡ None → long ≡ false →
    option_or first (cause_if long refusal) ≡ None
by_size first long refusal none short = rw (none, short) refl

module _ (names : List (List ℕ)) (params : Params) (limits : Limits) (set : ℕ) where
  -- the values of a set are its row
  pub gives_row : (values : List Value) → values_over names params ≡ Ok values →
      values_cause (refusals.WrongCount set) (λ place. refusals.Float set place) limits.places
      values ≡ None → Fit values →
      GivesRow limits set (given_by names params) values
  gives_row values over good fit = record {
    gives = gives_values names params values over;
    none = by_size (values_cause (refusals.WrongCount set) (λ place. refusals.Float set place)
        limits.places values) (nat_lt limits.bytes 0) (refusals.PacketTooLarge set) good
        (le-ltb limits.bytes 0 (omega arith));
    fit = fit;
  }

  -- the values are refused
  pub refuses_values : (values : List Value) (refusal : Refusal) → values_over names params ≡
      Ok values → values_cause (refusals.WrongCount set) (λ place. refusals.Float set place)
      limits.places values ≡ Some refusal →
      RefusesSet limits set (given_by names params) refusal
  refuses_values values refusal over cause =
      inr (ap (λ g. set_cause no_command limits.places limits.bytes set g)
      (gives_values names params values over) ∙
      first_is (values_cause (refusals.WrongCount set) (λ place. refusals.Float set place)
      limits.places values) _ refusal cause)

-- ---- sets one after another

-- what stands behind the parameter sets: one that gives nothing for this reason, where there is one
abbrev pub behind : Option SetError → List Given
behind None = []
behind (Some error) = Err error ∷ []

-- what parameter sets give, and the set behind them
pub given_is : (sets : List Params) (stop : Option SetError) (names : List (List ℕ)) →
    given_up_to sets stop names ≡ map (given_by names) sets ++ behind stop
given_is sets None names = sym (append-nil (map (given_by names) sets))
given_is sets (Some error) names = refl

-- so many sets gave rows, each with no cause
pub record RowsSoFar (names : List (List ℕ)) (limits : Limits) (sets : List Params)
    (rows : List Row) (i : ℕ) : Type 0 where
  pub gives : map (given_by names) sets ≡ map Ok rows ++ map (given_by names) (drop i sets)
  pub causes : (others : List Given) →
      first_of_sets (set_cause no_command limits.places limits.bytes) 0
      (map (given_by names) sets ++ others) ≡
      first_of_sets (set_cause no_command limits.places limits.bytes) i
      (map (given_by names) (drop i sets) ++ others)
  pub fit : AllByRecursion Fit rows

module _ (names : List (List ℕ)) (limits : Limits) (sets : List Params) (rows : List Row) (i : ℕ)
    (s : RowsSoFar names limits sets rows i) where
  module _ (params : Params) (here : drop i sets ≡ params ∷ drop (i + 1) sets) where
    -- the first cause from this set on
    from_here : (others : List Given) →
        first_of_sets (set_cause no_command limits.places limits.bytes) 0
        (map (given_by names) sets ++ others)
        ≡ option_or (set_cause no_command limits.places limits.bytes i (given_by names params))
        (first_of_sets (set_cause no_command limits.places limits.bytes) (i + 1)
        (map (given_by names) (drop (i + 1) sets) ++ others))
    from_here others = s.causes others ∙
        ap (λ l. first_of_sets (set_cause no_command limits.places limits.bytes) i
        (map (given_by names) l ++ others)) here

    -- one more row
    pub row_more : (row : Row) → GivesRow limits i (given_by names params) row →
        RowsSoFar names limits sets (rows ++ row ∷ []) (i + 1)
    row_more row g =
        let none : set_cause no_command limits.places limits.bytes i (given_by names params) ≡
        None = ap (λ given. set_cause no_command limits.places limits.bytes i given) g.gives ∙
        g.none in
        let later = map (given_by names) (drop (i + 1) sets) in
        record {
          gives = s.gives ∙ ap (λ l. map Ok rows ++ map (given_by names) l) here ∙
              ap (λ given. map Ok rows ++ given ∷ later) g.gives
              ∙ sym (append_assoc (map Ok rows) (Ok row ∷ []) later) ∙
              ap (λ l. l ++ later) (sym (map-append Ok rows (row ∷ [])));
          causes = λ others. from_here others ∙
              ap (λ c. option_or c (first_of_sets (set_cause no_command limits.places limits.bytes)
              (i + 1) (later ++ others))) none;
          fit = all_push Fit rows row s.fit g.fit;
        }

    -- a set is refused
    pub refused_at : (stop : Option SetError) (refusal : Refusal) →
        RefusesSet limits i (given_by names params) refusal →
        RefusesSets limits (given_up_to sets stop names) refusal
    refused_at stop refusal (inl memory) = inl memory
    refused_at stop refusal (inr this) =
        inr (ap (λ l. first_of_sets (set_cause no_command limits.places limits.bytes) 0 l)
        (given_is sets stop names) ∙ from_here (behind stop)
        ∙ ap (λ c. option_or c (first_of_sets (set_cause no_command limits.places limits.bytes)
        (i + 1) (map (given_by names) (drop (i + 1) sets) ++ behind stop))) this)

  module _ (end : length sets ≤ i) where
    -- no set is left
    none_left : drop i sets ≡ []
    none_left = drop_all i sets end

    -- the first cause is that of those behind them
    cause_behind : (others : List Given) →
        first_of_sets (set_cause no_command limits.places limits.bytes) 0
        (map (given_by names) sets ++ others) ≡
        first_of_sets (set_cause no_command limits.places limits.bytes) i others
    cause_behind others = s.causes others ∙
        ap (λ l. first_of_sets (set_cause no_command limits.places limits.bytes) i
        (map (given_by names) l ++ others)) none_left

    -- all sets gave rows
    pub all_rows : (stop : Option SetError) → stop ≡ None → GivesRows limits (given_up_to sets stop names) rows
    all_rows stop goes_on =
        let given : given_up_to sets stop names ≡ map (given_by names) sets =
        ap (λ o. given_up_to sets o names) goes_on in
        let nothing : map (given_by names) sets ≡ map (given_by names) sets ++ [] =
        sym (append-nil (map (given_by names) sets)) in
        record {
          gives = given ∙ s.gives ∙ ap (λ l. map Ok rows ++ map (given_by names) l) none_left ∙
              append-nil (map Ok rows);
          none = ap (λ l. first_of_sets (set_cause no_command limits.places limits.bytes) 0 l)
              (given ∙ nothing) ∙ cause_behind [];
          fit = s.fit;
        }

    -- the set behind them is refused
    pub stopped_behind : (stop : Option SetError) (e : SetError) (refusal : Refusal) (n : ℕ) →
        stop ≡ Some e → n ≡ i → refusal ≡ refusals.Params n e →
        RefusesSets limits (given_up_to sets stop names) refusal
    stopped_behind stop e refusal n stops same is =
        inr (ap (λ o. first_of_sets (set_cause no_command limits.places limits.bytes) 0
        (given_up_to sets o names)) stops ∙ cause_behind (Err e ∷ []) ∙
        ap (λ k. Some (refusals.Params k e)) (sym same) ∙ ap (λ r. Some r) (sym is))

-- ---- values as rows

-- the values of a row behind those of others
pub row_behind : (columns : ℕ) (values new : List Value) (rows : List Row) (row : Row) →
    AreRows columns values rows → length row ≡ columns → new ≡ values ++ row →
    AreRows columns new (rows ++ row ∷ [])
row_behind columns values new rows row are wide put = record {
  values_are = put ∙ ap (λ l. l ++ row) are.values_are ∙
      ap (λ l. all_values rows ++ l) (sym (append-nil row)) ∙
      sym (flat_map-append (λ (r : Row). r) rows (row ∷ []));
  wide = all_push (λ (r : Row). length r ≡ columns) rows row are.wide wide;
}

-- values that are too few for a row are those of no rows
pub none_behind : (columns : ℕ) (values : List Value) (left : List Row) → length values < columns →
    AreRows columns values left → left ≡ []
none_behind columns values [] few are = refl
none_behind columns values (row ∷ later) few are =
    absurd (omega (arith, few, ap length are.values_are, length-append row (all_values later), are.wide.0))

-- the first of the rows that are left
next_row : (columns : ℕ) (values : List Value) (left : List Row) → 0 < columns →
    columns ≤ length values → AreRows columns values left → (later : List Row) ×
    (left ≡ take columns values ∷ later) × AreRows columns (drop columns values) later
next_row columns values [] some enough are = absurd (omega (arith, some, enough, ap length are.values_are))
next_row columns values (row ∷ later) some enough are = (
  later,
  ap (λ r. r ∷ later) (sym (ap (λ l. take columns l) are.values_are ∙
      take_at row (all_values later) columns are.wide.0)),
  record {
    values_are = ap (λ l. drop columns l) are.values_are ∙ drop_at row (all_values later) columns are.wide.0;
    wide = are.wide.1;
  },
)

-- one more row is lent
pub lent_more : (columns start n : ℕ) (values : List (Bor Value))
    (lent new : List (Bor (List (Bor Value)))) (row : Bor (List (Bor Value)))
    (rows left : List Row) → 0 < columns → columns ≤ length values - start → n ≡ columns →
    new ≡ lent ++ row ∷ [] → row.now ≡ take n (drop start values) → rows_in lent ++ left ≡ rows →
    AreRows columns (row_in (drop start values)) left →
    (later : List Row) × (rows_in new ++ later ≡ rows) × AreRows columns (row_in (drop (start + columns) values)) later
lent_more columns start n values lent new row rows left some enough cut put is before are =
    let long : columns ≤ length (row_in (drop start values)) =
    omega (
      arith,
      enough,
      length-map (drop start values) (λ (value : Bor Value). value.now),
      length-drop start values,
    ) in
    let next = next_row columns (row_in (drop start values)) left some long are in
    let this : row_in row.now ≡ take columns (row_in (drop start values)) = ap (λ l. row_in l) is ∙
    ap (λ k. row_in (take k (drop start values))) cut ∙
    sym (take-map (λ (value : Bor Value). value.now) columns (drop start values)) in
    let behind : drop columns (row_in (drop start values)) ≡ row_in (drop (start + columns) values) =
    drop-map (λ (value : Bor Value). value.now) columns (drop start values) ∙
    ap (λ l. row_in l) (drop-drop columns start values) in (
      next.0,
      ap (λ l. rows_in l ++ next.0) put ∙
          ap (λ l. l ++ next.0) (map-append (λ (r : Bor (List (Bor Value))). row_in r.now) lent
          (row ∷ []))
          ∙ append_assoc (rows_in lent) (row_in row.now ∷ []) next.0 ∙
          ap (λ r. rows_in lent ++ r ∷ next.0) this ∙ ap (λ l. rows_in lent ++ l) (sym next.1) ∙
          before,
      subst (λ l. AreRows columns l next.0) behind next.2,
    )

-- how many first values there are
pub width_is : (firsts : List (Bor Value)) (columns : ℕ) (rows : List Row) → row_in firsts ≡
    first_values columns rows → length firsts ≡ columns
width_is firsts columns rows is = sym (length-map firsts (λ (v : Bor Value). v.now)) ∙
    ap length is ∙ length-map-range_with_len (λ column. first_in_column column rows) 0 columns

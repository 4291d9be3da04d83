-- The longest part from a start.
use Rattle.std.proofs.Common.{◌≡◌, ℕ, zero, suc, ◌+◌, ◌-◌, ◌*◌, ◌<◌, ◌≤◌, inl, inr, Bool, true, false, List, [], ◌∷◌}
use Rattle.std.proofs.Common.{◌++◌, length, map, take, drop, get_or, sym, ◌∙◌, ap, subst, arith, length-take}
use Rattle.std.proofs.Common.{length-drop, Bor}
use Rattle.std.specs.Prelude.{sum, sum_by, count_by, cond, ◌||◌}
use Rattle.std.specs.List.{AllByRecursion}
use Rattle.std.proofs.lemmas.Bool.{cases_Bool, cond-true, cond-false, false≢true, or_cases, or_left, or_right}
use Rattle.std.proofs.lemmas.List.{get_or-take, length-map, drop_more, map-append, drop-map, take-map}
use Rattle.std.proofs.lemmas.List.Sums.{sum-map, sum_by-cons, sum_by_more, sum_by_push, get_or-le-sum_by}
use Rattle.std.proofs.lemmas.Bool.{cases_lt}
use Rattle.mysql_cells.specs.declared.value.Value.{Value}
use Rattle.mysql_bulk_builder.specs.declared.search.BulkPart.{BulkPart}
use Rattle.mysql_bulk_builder.specs.Cut.{Row, row_size, rows_of, rows_size}
use Rattle.mysql_bulk_builder.specs.TypedCut.{Typed, Untyped, Part, placed, placed_from, has_value_at, HasValue}
use Rattle.mysql_bulk_builder.specs.TypedCut.{HasKnownColumns, PartFits, IsTightTypedPart}
use Rattle.mysql_bulk_builder.specs.TypedCutLaws.{EachRowFitsTyped}
use Rattle.mysql_bulk_builder.specs.Seen.{IsSet, IsKnown, IsUnknown, AreSeen}
use Rattle.mysql_bulk_builder.specs.TypedRequests.{view_part, view_parts}
use Rattle.mysql_bulk_builder.specs.RowLists.{row_in, rows_in}
use Rattle.mysql_bulk_builder.proofs.Sizes.{sum_within}
use Rattle.mysql_bulk_builder.proofs.TypedTight.{part_fits_later, longest_by_one}
use Rattle.mysql_bulk_builder.proofs.Kept.{all_push}

-- what one test adds to a count
abbrev one_if : Bool → ℕ
one_if b = cond b 1 0

-- a row that passes is counted
pub count_at : {X : Type 0} (p : X → Bool) (xs : List X) (i : ℕ) (d : X) → i < length xs →
    p (get_or xs i d) ≡ true → 0 < count_by p xs
count_at p xs i d lt passes =
    let one : one_if (p (get_or xs i d)) ≡ 1 = cond-true (p (get_or xs i d)) 1 0 passes in
    let le = get_or-le-sum_by (λ x. cond (p x) 1 0) xs i d lt in
    omega (arith, one, le)

-- where some are counted, one passes
pub place_of : {X : Type 0} (p : X → Bool) (xs : List X) (d : X) → 0 < count_by p xs → (i : ℕ) ×
    (i < length xs) × (p (get_or xs i d) ≡ true)
place_of p [] d pos = absurd (omega arith)
place_of p (x ∷ xs) d pos = elim (cases_Bool (p x)) [
  | inl passes ↦ (0, omega arith, passes)
  | inr fails ↦
      let none : one_if (p x) ≡ 0 = cond-false (p x) 1 0 fails in
      let rest : 0 < count_by p xs = omega (arith, sum_by-cons (λ y. cond (p y) 1 0) x xs, none, pos) in
      let r = place_of p xs d rest in
      (suc r.0, omega (arith, r.1), r.2)
]

-- the flags after one more row
pub seen_more : (columns : ℕ) (rows : List Row) (n : ℕ) (old new : List Bool) (row : Row) →
    AreSeen columns rows n old → n < length rows → get_or rows n [] ≡ row → length new ≡
    length old →
    ((column : ℕ) → column < length old → get_or new column false ≡
    (get_or old column false || has_value_at column row)) → AreSeen columns rows (n + 1) new
seen_more columns rows n old new row s lt at len marked = record {
  len = len ∙ s.len;
  flags = λ column in'.
      let m = marked column (omega (arith, in', s.len)) in
      let more = sum_by_more (λ r. cond (has_value_at column r) 1 0) rows n [] lt in
      let same : has_value_at column (get_or rows n []) ≡ has_value_at column row = ap (has_value_at column) at in (
        λ set. elim (or_cases (get_or old column false) (has_value_at column row) (sym m ∙ set)) [
          | inl was ↦ let b : HasValue column (take n rows) = (s.flags column in').0 was in omega (arith, more, b)
          | inr now ↦
              let one : one_if (has_value_at column (get_or rows n [])) ≡ 1 =
              cond-true (has_value_at column (get_or rows n [])) 1 0 (same ∙ now) in
              omega (arith, more, one)
        ],
        λ has. elim (cases_Bool (has_value_at column row)) [
          | inl now ↦ m ∙ or_right (get_or old column false) (has_value_at column row) now
          | inr not_now ↦
              let none : one_if (has_value_at column (get_or rows n [])) ≡ 0 =
              cond-false (has_value_at column (get_or rows n [])) 1 0 (same ∙ not_now) in
              let b : HasValue column (take n rows) = omega (arith, more, none, has) in
              m ∙ or_left (get_or old column false) (has_value_at column row) ((s.flags column in').1 b)
        ],
      );
}

module _ (room columns : ℕ) (rows : List Row) (start : ℕ) where
  -- rows of known values have known columns
  pub known_fits : (seen : List Bool) (count : ℕ) → AreSeen columns rows start seen →
      ((k : ℕ) → k < count → IsKnown seen (get_or (drop start rows) k [])) →
      HasKnownColumns columns rows start count
  known_fits seen count s known = λ column in' has.
      let r = place_of (has_value_at column) (rows_of rows start count) [] has in
      let below : r.0 < count = omega (arith, r.1, length-take count (drop start rows)) in
      let at : get_or (rows_of rows start count) r.0 [] ≡ get_or (drop start rows) r.0 [] =
      get_or-take count (drop start rows) r.0 [] below in
      let has' : has_value_at column (get_or (drop start rows) r.0 []) ≡ true =
      sym (ap (has_value_at column) at) ∙ r.2 in
      (s.flags column in').0 (known r.0 below column (omega (arith, in', s.len)) has')

  -- a row with an unknown value ends them
  pub unknown_ends : (seen : List Bool) (count : ℕ) → AreSeen columns rows start seen →
      start + count < length rows → IsUnknown seen (get_or (drop start rows) count []) →
      HasKnownColumns columns rows start (count + 1) → ⊥
  unknown_ends seen count s within u known =
      let column = u.0 in
      let in' : column < columns = omega (arith, u.1, s.len) in
      let at : get_or (rows_of rows start (count + 1)) count [] ≡
      get_or (drop start rows) count [] =
      get_or-take (count + 1) (drop start rows) count [] (omega arith) in
      let inside : count < length (rows_of rows start (count + 1)) =
      omega (
        arith,
        length-take (count + 1) (drop start rows),
        length-drop start rows,
        within,
      ) in
      let here : HasValue column (rows_of rows start (count + 1)) =
      count_at (has_value_at column) (rows_of rows start (count + 1)) count [] inside
      (ap (has_value_at column) at ∙ u.2) in
      let set : IsSet seen column = (s.flags column in').1 (known column in' here) in
      false≢true (sym u.3 ∙ set)

  -- the longest typed part, by the room that its rows have
  pub record IsLongestTyped (t : ℕ) : Type 0 where
    pub fits : 7 + 2 * columns + rows_size rows start t ≤ room
    pub ends : start + t < length rows → room < 7 + 2 * columns + rows_size rows start (t + 1)

  pub record IsLongestUntyped (u : ℕ) : Type 0 where
    pub fits : PartFits room columns rows start Untyped u
    pub ends : start + u < length rows → PartFits room columns rows start Untyped (u + 1) → ⊥

  pub some_typed : (t : ℕ) → start < length rows → EachRowFitsTyped room columns rows → IsLongestTyped t → 0 < t
  some_typed zero lt each l = let f : 7 + 2 * columns + rows_size rows start 1 ≤ room =
      each start lt in absurd (omega (arith, l.ends (omega arith), f))
  some_typed (suc t) lt each l = omega arith

  pub tight_untyped : (t u : ℕ) → 0 < u → IsLongestTyped t → IsLongestUntyped u → t ≤ u →
      IsTightTypedPart room columns rows start (record { typing = Untyped; count = u })
  tight_untyped t u pos lt lu le = record {
    fits = lu.fits;
    longest = longest_by_one room columns rows start u
        (λ more fits.
        let f : PartFits room columns rows start Typed (t + 1) =
        part_fits_later room columns rows Typed start (u + 1) start (t + 1) (omega arith)
        (omega arith) (omega arith) fits in
        omega (arith, f, lt.ends (omega arith)))
        lu.ends;
    typed_at_need = λ e. absurd (cc);
  }

  pub tight_typed : (t : ℕ) → 0 < t → start + t ≤ length rows → IsLongestTyped t →
      (0 < start → (u : ℕ) × IsLongestUntyped u × (u < t)) →
      IsTightTypedPart room columns rows start (record { typing = Typed; count = t })
  tight_typed t pos within lt shorter = record {
    fits = lt.fits;
    longest = longest_by_one room columns rows start t
        (λ more fits. omega (arith, fits, lt.ends more))
        (λ more fits. no_untyped (t + 1) (omega arith) (omega (arith, more)) fits);
    typed_at_need = λ e fits. no_untyped t (omega arith) within fits;
  }
    where
      no_untyped : (m : ℕ) → t ≤ m → start + m ≤ length rows → PartFits room columns rows start Untyped m → ⊥
      no_untyped m le end fits =
          let s = shorter fits.0 in
          s.1.ends (omega (arith, s.2))
          (part_fits_later room columns rows Untyped start m start (s.0 + 1) (omega arith)
          (omega (arith, s.2)) (omega arith) fits)

-- one row
pub one_row : (rows : List Row) (k : ℕ) → k < length rows → rows_size rows k 1 ≡ row_size (get_or rows k [])
one_row rows k lt =
    let e : rows_size rows k 1 ≡ sum_by row_size (get_or rows k [] ∷ []) =
    ap (λ (r : List Row). sum_by row_size (take 1 r)) (drop_more rows k [] lt) in
    omega (arith, e)

module _ (room columns : ℕ) (rows : List (Bor (List (Bor Value)))) (all sizes : List ℕ) (start : ℕ)
    (all_is : all ≡ map row_size (rows_in rows)) (is_rest : sizes ≡
    drop start all) (lt : start < length rows)
    (each : EachRowFitsTyped room columns (rows_in rows)) where
  -- the sizes from the start on are those of the rows from there on
  sizes_are : (n : ℕ) → sum (take n sizes) ≡ rows_size (rows_in rows) start n
  sizes_are n =
      ap (λ (l : List ℕ). sum (take n l)) (is_rest ∙ ap (λ (l : List ℕ). drop start l) all_is ∙
      drop-map row_size start (rows_in rows))
      ∙ ap (λ (l : List ℕ). sum l) (take-map row_size n (drop start (rows_in rows))) ∙
      sum-map row_size (take n (drop start (rows_in rows)))

  lengths : (length sizes + start ≡ length rows) × (length (rows_in rows) ≡ length rows)
  lengths =
      let rows_len = length-map rows (λ (r : Bor (List (Bor Value))). row_in r.now) in (
        omega (
          arith,
          ap length is_rest,
          length-drop start all,
          ap length all_is,
          length-map (rows_in rows) row_size,
          rows_len,
          lt,
        ),
        rows_len,
      )

  room_is : 7 + 2 * columns ≤ room
  room_is = let f : 7 + 2 * columns + rows_size (rows_in rows) start 1 ≤ room =
      each start (omega (arith, lt, lengths)) in omega (arith, f)

  pub longest_typed : (t : ℕ) → t ≤ length sizes → sum (take t sizes) ≤ room - 7 - 2 * columns →
      (t < length sizes → room - 7 - 2 * columns < sum (take (t + 1) sizes)) →
      IsLongestTyped room columns (rows_in rows) start t × (start + t ≤ length (rows_in rows)) × (0 < t)
  longest_typed t within fits ends =
      let l : IsLongestTyped room columns (rows_in rows) start t = record {
        fits = omega (arith, fits, sizes_are t, room_is);
        ends = λ more. let e = ends (omega (arith, more, lengths)) in omega (arith, e, sizes_are (t + 1), room_is);
      } in (
        l,
        omega (arith, within, lengths),
        some_typed room columns (rows_in rows) start t (omega (arith, lt, lengths)) each l,
      )

  view : (rest : List (Bor (List (Bor Value)))) → rest ≡ drop start rows → rows_in rest ≡ drop start (rows_in rows)
  view rest rest_is = ap rows_in rest_is ∙ sym (drop-map (λ (r : Bor (List (Bor Value))). row_in r.now) start rows)

  pub longest_untyped : (rest : List (Bor (List (Bor Value)))) → rest ≡ drop start rows →
      (seen : List Bool) (w u : ℕ) → 0 < start → AreSeen columns (rows_in rows) start seen →
      sum (take w sizes) ≤ room - 7 → (w < length sizes → room - 7 < sum (take (w + 1) sizes)) →
      ((j : ℕ) → j < u → IsKnown seen (get_or (rows_in rest) j [])) →
      (u < w → IsUnknown seen (get_or (rows_in rest) u [])) →
      u ≤ w → IsLongestUntyped room columns (rows_in rows) start u
  longest_untyped rest rest_is seen w u later s fits_w ends_w known unknown le_w = record {
    fits = (
      later,
      (let less : rows_size (rows_in rows) start u ≤ rows_size (rows_in rows) start w =
          sum_within row_size (rows_in rows) start w start u (omega arith) (omega (arith, le_w)) in
          omega (arith, less, fits_w, sizes_are w, room_is)),
      known_fits room columns (rows_in rows) start seen u s
          (λ j below. subst (λ (r : List Row). IsKnown seen (get_or r j [])) (view rest rest_is)
          (known j below)),
    );
    ends = λ more fits. elim (cases_lt u w) [
      | inl few ↦ unknown_ends room columns (rows_in rows) start seen u s more
          (subst (λ (r : List Row). IsUnknown seen (get_or r u [])) (view rest rest_is)
          (unknown few)) fits.2
      | inr past ↦
          let grows : rows_size (rows_in rows) start (w + 1) ≤ rows_size (rows_in rows) start
          (u + 1) = sum_within row_size (rows_in rows) start (u + 1) start (w + 1) (omega arith)
          (omega (arith, past)) in
          omega (arith, fits.1, grows, ends_w (omega (arith, more, past, lengths)), sizes_are (w + 1), room_is)
    ];
  }

-- the parts of a cut with one more
placed_push : (cut : List Part) (s : ℕ) (part : Part) → placed_from s (cut ++ part ∷ []) ≡
    placed_from s cut ++ (s + sum_by (λ p. p.count) cut, part) ∷ []
placed_push [] s part = let e : s ≡ s + 0 = omega arith in
    ap (λ (k : ℕ). let p : List (ℕ × Part) = (k, part) ∷ [] in p) e
placed_push (first ∷ cut) s part =
    let e : (s + first.count) + sum_by (λ p. p.count) cut ≡
    s + sum_by (λ p. p.count) (first ∷ cut) =
    omega (arith, sum_by-cons (λ p. p.count) first cut) in
    let rest = placed_push cut (s + first.count) part in
    ap (λ (ps : List (ℕ × Part)). (s, first) ∷ ps) (rest ∙
    ap (λ (k : ℕ). placed_from (s + first.count) cut ++ (k, part) ∷ []) e)

-- a cut so far, with one more part
pub record CutSoFar (room columns : ℕ) (rows : List Row) (start : ℕ) (cut : List Part) : Type 0 where
  pub some : AllByRecursion (λ part. 0 < part.count) cut
  pub total : sum_by (λ part. part.count) cut ≡ start
  pub tight : AllByRecursion (λ p. IsTightTypedPart room columns rows p.0 p.1) (placed cut)

pub push_part : (room columns : ℕ) (rows : List Row) (start : ℕ) (cut new : List BulkPart)
    (part : BulkPart) → CutSoFar room columns rows start (view_parts cut) → 0 < part.count →
    IsTightTypedPart room columns rows start (view_part part) →
    new ≡ cut ++ part ∷ [] → CutSoFar room columns rows (start + part.count) (view_parts new)
push_part room columns rows start cut new part s some tight e =
    let seen : view_parts new ≡ view_parts cut ++ view_part part ∷ [] = ap view_parts e ∙
    map-append view_part cut (part ∷ []) in
    let at : placed (view_parts cut ++ view_part part ∷ []) ≡ placed (view_parts cut) ++ (start, view_part part) ∷ [] =
    placed_push (view_parts cut) 0 (view_part part) ∙
    ap (λ (k : ℕ). placed (view_parts cut) ++ (k, view_part part) ∷
    []) (zero_plus (sum_by (λ p. p.count) (view_parts cut)) start s.total) in
    subst (CutSoFar room columns rows (start + part.count)) (sym seen) (record {
      some = all_push (λ p. 0 < p.count) (view_parts cut) (view_part part) s.some some;
      total = let sum = sum_by_push (λ (p : Part). p.count) (view_parts cut) (view_part part) in
          omega (arith, sum, s.total);
      tight = subst (λ ps. AllByRecursion (λ p. IsTightTypedPart room columns rows p.0 p.1) ps)
          (sym at) (all_push (λ p. IsTightTypedPart room columns rows p.0 p.1)
          (placed (view_parts cut)) (start, view_part part) s.tight tight);
    })
  where
    zero_plus : (n m : ℕ) → n ≡ m → 0 + n ≡ m
    zero_plus n m e = omega (arith, e)

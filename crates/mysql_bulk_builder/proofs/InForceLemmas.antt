-- The types in force serve each part of a cut that fits.
use Rattle.std.proofs.Common.{◌≡◌, ℕ, ◌+◌, ◌-◌, ◌<◌, ◌≤◌, inl, inr, not, cond, List, [], ◌∷◌, length, take, drop}
use Rattle.std.proofs.Common.{get_or, None, ◌∙◌, ap, arith, length-take, length-drop}
use Rattle.std.specs.Prelude.{sum_by, count_by}
use Rattle.std.specs.List.{AllByRecursion}
use Rattle.std.proofs.lemmas.Bool.{cases_lt}
use Rattle.std.proofs.lemmas.List.{get_or-take, get_or-drop, take-take, drop-take}
use Rattle.std.proofs.lemmas.List.Sums.{sum_by-take-drop}
use Rattle.mysql_bulk_builder.specs.Cut.{Row, rows_of}
use Rattle.mysql_bulk_builder.specs.TypedCut.{Part, Typing, Typed, Untyped, PartFits, HasValue, HasKnownColumns}
use Rattle.mysql_bulk_builder.specs.TypedCut.{has_value_at, placed_from}
use Rattle.mysql_bulk_builder.specs.ValueTypes.{sent_type, first_in_column}
use Rattle.mysql_bulk_builder.specs.Causes.{mixed_kinds}
use Rattle.mysql_bulk_builder.specs.KindLaws.{value_in, HasValueAt}
use Rattle.mysql_bulk_builder.specs.InForce.{covered, in_force_from, TypesServe, TypesInForceServe}
use Rattle.mysql_bulk_builder.proofs.LongestPart.{count_at}
use Rattle.mysql_bulk_builder.proofs.OneKindLemmas.{one_kind, first_value_is_there}

module _ (room columns : ℕ) (rows : List Row) (arity : (k : ℕ) → k < length rows →
    length (get_or rows k []) ≡ columns) (one : mixed_kinds rows ≡ None) where
  -- the types of some first rows serve a value whose column has a value there
  serves : (m k column : ℕ) → HasValueAt rows k column → HasValue column (take m rows) →
      sent_type (first_in_column column (take m rows)) ≡ sent_type (value_in rows k column)
  serves m k column h has = one_kind rows one m k column h (first_value_is_there (take m rows) column has)

  in_columns : (k column : ℕ) → HasValueAt rows k column → column < columns
  in_columns k column h = omega (arith, h.1, arity k h.0)

  -- a value counts among the first rows
  counts_among : (m k column : ℕ) → k < m → HasValueAt rows k column → HasValue column (take m rows)
  counts_among m k column lt h =
      let at : get_or (take m rows) k [] ≡ get_or rows k [] = get_or-take m rows k [] lt in
      count_at (has_value_at column) (take m rows) k [] (omega (arith, length-take m rows, lt, h.0))
      (ap (has_value_at column) at ∙ ap not h.2)

  -- a value counts among the rows of its part
  counts_in : (start count k column : ℕ) → start ≤ k → k < start + count →
      HasValueAt rows k column → HasValue column (rows_of rows start count)
  counts_in start count k column from lt h =
      let i : (i : ℕ) × (start + i ≡ k) = (k - start, omega arith) in
      let below : i.0 < count = omega (arith, i.1) in
      let at : get_or (rows_of rows start count) i.0 [] ≡ get_or rows k [] =
      get_or-take count (drop start rows) i.0 [] below ∙ get_or-drop start rows i.0 [] ∙
      ap (λ (n : ℕ). get_or rows n []) i.1 in
      count_at (has_value_at column) (rows_of rows start count) i.0 []
      (omega (
        arith,
        length-take count (drop start rows),
        length-drop start rows,
        below,
        i.1,
        h.0,
      )) (ap (has_value_at column) at ∙ ap not h.2)

  -- the rows up to a part's end, before it or in it
  up_to_end : (start count column : ℕ) → HasKnownColumns columns rows start count →
      column < columns → HasValue column (take (start + count) rows) →
      HasValue column (take start rows)
  up_to_end start count column known lt has = elim (cases_lt 0 (count_by (has_value_at column) (take start rows))) [
    | inl before ↦ before
    | inr none ↦
        let f : Row → ℕ = λ row. cond (has_value_at column row) 1 0 in
        let split = sum_by-take-drop f (take (start + count) rows) start in
        let front : take start (take (start + count) rows) ≡ take start rows =
        take-take start (start + count) rows (omega arith) in
        let back : drop start (take (start + count) rows) ≡ rows_of rows start count = drop-take start count rows in
        let inside : HasValue column (rows_of rows start count) =
        omega (arith, split, ap (sum_by f) front, ap (sum_by f) back, none, has) in
        known column lt inside
  ]

  -- what the types in force cover has a value in each column that the rows so far have one in
  abbrev Covers : ℕ → ℕ → Type 0
  Covers start before = (column : ℕ) → column < columns → HasValue column (take start rows) →
      HasValue column (take before rows)

  part_serves : (typing : Typing) (start count before : ℕ) →
      PartFits room columns rows start typing count → Covers start before →
      TypesServe rows (record {
        start = start;
        count = count;
        covers =
            covered typing (start + count) before;
      }) ×
      Covers (start + count) (covered typing (start + count) before)
  part_serves Typed start count before fits covers = (
    λ k column from lt h. serves (start + count) k column h (counts_among (start + count) k column lt h),
    λ column lt has. has,
  )
  part_serves Untyped start count before fits covers = (
    λ k column from lt h.
        let in' = in_columns k column h in
        serves before k column h (covers column in' (fits.2 column in' (counts_in start count k column from lt h))),
    λ column lt has. covers column lt (up_to_end start count column fits.2 lt has),
  )

  all_serve : (cut : List Part) (start before : ℕ) →
      AllByRecursion (λ p. PartFits room columns rows p.0 p.1.typing p.1.count)
      (placed_from start cut) → Covers start before →
      AllByRecursion (TypesServe rows) (in_force_from start before cut)
  all_serve [] start before fits covers = tt
  all_serve (part ∷ cut) start before fits covers =
      let here = part_serves part.typing start part.count before fits.0 covers in
      (here.0, all_serve cut (start + part.count) (covered part.typing (start + part.count) before) fits.1 here.1)

pub types_in_force_serve : TypesInForceServe
types_in_force_serve room columns rows cut arity one fits =
    all_serve room columns rows arity one cut 0 0 fits (λ column lt has. has)

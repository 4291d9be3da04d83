-- The tight cut into typed and untyped parts is the cut of longest parts.
use Rattle.std.proofs.Common.{◌≡◌, ℕ, zero, suc, ◌+◌, ◌*◌, ◌<◌, ◌≤◌, ◌⊎◌, inl, inr, List, [], ◌∷◌, length, take, map}
use Rattle.std.proofs.Common.{refl, sym, ◌∙◌, ap, subst, arith, zero-le}
use Rattle.std.specs.Prelude.{sum, sum_by, count_by, cond}
use Rattle.std.specs.List.{AllByRecursion}
use Rattle.std.proofs.lemmas.Bool.{cases_lt, cases_order}
use Rattle.std.proofs.lemmas.List.Sums.{sum-map}
use Rattle.std.proofs.lemmas.List.{length-map}
use Rattle.mysql_bulk_builder.specs.Cut.{Row, row_size, rows_of, rows_size}
use Rattle.mysql_bulk_builder.specs.TypedCut.{Typing, Typed, Untyped, Part, placed_from, has_value_at, HasValue}
use Rattle.mysql_bulk_builder.specs.TypedCut.{PartFits, IsTightTypedPart, IsTightTyped}
use Rattle.mysql_bulk_builder.specs.TypedCutLaws.{PartFitsLater, EachRowFitsEither, TightTypedExists}
use Rattle.mysql_bulk_builder.specs.TypedCutLaws.{TightTypedExistsWhere, FittingCutWhere, TightTypedIsUnique}
use Rattle.mysql_bulk_builder.specs.TypedCutLaws.{TightTypedHasFewest}
use Rattle.mysql_bulk_builder.proofs.Greedy.{AllPositive, Longest, AllFit, AllLongest, AllChosen, IsHereditary}
use Rattle.mysql_bulk_builder.proofs.Greedy.{all_longest, fewest, unique, each_fits, chosen_fits, chosen_exists}
use Rattle.mysql_bulk_builder.proofs.Sizes.{sum_within}
use Rattle.mysql_bulk_builder.proofs.Tight.{from_zero}

-- a column that has a value before a start has one before a later start
value_before : (rows : List Row) (column s s' : ℕ) → s ≤ s' → HasValue column (take s rows) →
    HasValue column (take s' rows)
value_before rows column s s' le h =
    let w = sum_within (λ row. cond (has_value_at column row) 1 0) rows 0 s' 0 s (omega arith) (omega arith) in
    omega (arith, w, h)

-- a column that has a value in a part has one in a part around it
value_within : (rows : List Row) (column s d s' c : ℕ) → s ≤ s' → s' + c ≤ s + d →
    HasValue column (rows_of rows s' c) → HasValue column (rows_of rows s d)
value_within rows column s d s' c le end h =
    let w = sum_within (λ row. cond (has_value_at column row) 1 0) rows s d s' c le end in
    omega (arith, w, h)

pub part_fits_later : PartFitsLater
part_fits_later room columns rows Typed s d s' c le end pos fits =
    omega (arith, fits, sum_within row_size rows s d s' c le end)
part_fits_later room columns rows Untyped s d s' c le end pos fits = (
  omega (arith, fits.0, le),
  omega (arith, fits.1, sum_within row_size rows s d s' c le end),
  λ column in' h. value_before rows column s s' le (fits.2 column in' (value_within rows column s d s' c le end h)),
)

module _ (room columns : ℕ) (rows : List Row) where
  -- a part fits, typed or untyped
  abbrev pub Either : ℕ → ℕ → Type 0
  Either s c = (typing : Typing) × PartFits room columns rows s typing c

  pub hereditary : IsHereditary (length rows) Either
  hereditary s d s' c le end pos fits = (fits.0, part_fits_later room columns rows fits.0 s d s' c le end pos fits.1)

  -- whether the columns of a part, below some column, are known
  known_below : (s c k : ℕ) →
      ((column : ℕ) → column < k → HasValue column (rows_of rows s c) →
      HasValue column (take s rows)) ⊎
      (((column : ℕ) → column < k → HasValue column (rows_of rows s c) →
      HasValue column (take s rows)) → ⊥)
  known_below s c zero = inl (λ column lt h. absurd (omega arith))
  known_below s c (suc k) = elim (known_below s c k) [
    | inr no_below ↦ inr (λ all. no_below (λ column lt h. all column (omega arith) h))
    | inl below ↦ elim (cases_lt 0 (count_by (has_value_at k) (take s rows))) [
      | inl before ↦ inl (λ column lt h. elim (cases_order column k) [
        | inl e ↦ subst (λ x. HasValue x (take s rows)) (sym e) before
        | inr apart ↦ elim apart [ inl less ↦ below column less h | inr more ↦ absurd (omega arith) ]
      ])
      | inr none ↦ elim (cases_lt 0 (count_by (has_value_at k) (rows_of rows s c))) [
        | inl here ↦ inr (λ all. absurd (omega (arith, none, all k (omega arith) here)))
        | inr empty ↦ inl (λ column lt h. elim (cases_order column k) [
          | inl e ↦ absurd (let h' : HasValue k (rows_of rows s c) =
              subst (λ x. HasValue x (rows_of rows s c)) e h in omega (arith, h', empty))
          | inr apart ↦ elim apart [ inl less ↦ below column less h | inr more ↦ absurd (omega arith) ]
        ])
      ]
    ]
  ]

  pub decide_untyped : (s c : ℕ) → PartFits room columns rows s Untyped c ⊎ (PartFits room columns rows s Untyped c → ⊥)
  decide_untyped s c = elim (cases_lt 0 s) [
    | inr first ↦ inr (λ fits. absurd (omega (arith, first, fits.0)))
    | inl later ↦ elim (cases_lt room (7 + rows_size rows s c)) [
      | inl past ↦ inr (λ fits. absurd (omega (arith, past, fits.1)))
      | inr small ↦ elim (known_below s c columns) [
        | inl known ↦ inl (later, small, known)
        | inr unknown ↦ inr (λ fits. unknown fits.2)
      ]
    ]
  ]

  pub decide_typed : (s c : ℕ) → PartFits room columns rows s Typed c ⊎ (PartFits room columns rows s Typed c → ⊥)
  decide_typed s c = elim (cases_lt room (7 + 2 * columns + rows_size rows s c)) [
    | inl past ↦ inr (λ fits. omega (arith, past, fits))
    | inr small ↦ inl small
  ]

  pub decide : (s c : ℕ) → Either s c ⊎ (Either s c → ⊥)
  decide s c = elim (decide_untyped s c) [
    | inl fits ↦ inl (Untyped, fits)
    | inr not_untyped ↦ elim (decide_typed s c) [
      | inl fits ↦ inl (Typed, fits)
      | inr not_typed ↦ inr (λ either. neither s c not_typed not_untyped either.0 either.1)
    ]
  ]
    where
      neither : (s c : ℕ) → (PartFits room columns rows s Typed c → ⊥) →
          (PartFits room columns rows s Untyped c → ⊥) → (typing : Typing) →
          PartFits room columns rows s typing c → ⊥
      neither s c a b Typed fits = a fits
      neither s c a b Untyped fits = b fits

  -- the lengths of a cut's parts
  abbrev pub counts : List Part → List ℕ
  counts cut = map (λ part. part.count) cut

  pub positive_counts : (cut : List Part) → AllByRecursion (λ part. 0 < part.count) cut → AllPositive (counts cut)
  positive_counts [] h = tt
  positive_counts (part ∷ cut) h = (h.0, positive_counts cut h.1)

  pub counts_fit : (cut : List Part) (s : ℕ) →
      AllByRecursion (λ p. PartFits room columns rows p.0 p.1.typing p.1.count)
      (placed_from s cut) → AllFit (length rows) Either s (counts cut)
  counts_fit [] s h = tt
  counts_fit (part ∷ cut) s h = ((part.typing, h.0), counts_fit cut (s + part.count) h.1)

  pub counts_chosen : (cut : List Part) (s : ℕ) →
      AllByRecursion (λ p. IsTightTypedPart room columns rows p.0 p.1) (placed_from s cut) →
      AllChosen (length rows) Either s (counts cut)
  counts_chosen [] s h = tt
  counts_chosen (part ∷ cut) s h =
      let t = h.0 in (
        (inl (part.typing, t.fits), λ m more within fits. t.longest fits.0 m more within fits.1),
        counts_chosen cut (s + part.count) h.1,
      )

  pub tight_parts_fit : (cut : List Part) (s : ℕ) →
      AllByRecursion (λ p. IsTightTypedPart room columns rows p.0 p.1) (placed_from s cut) →
      AllByRecursion (λ p. PartFits room columns rows p.0 p.1.typing p.1.count) (placed_from s cut)
  tight_parts_fit [] s h = tt
  tight_parts_fit (part ∷ cut) s h = (h.0.fits, tight_parts_fit cut (s + part.count) h.1)

  -- the typing that a part of a tight cut has
  typing_of : (s c : ℕ) → Either s c → Longest (length rows) Either s c → (part : Part) ×
      (part.count ≡ c) × IsTightTypedPart room columns rows s part
  typing_of s c fits longest = elim (decide_untyped s c) [
    | inl untyped ↦ (
      record { typing = Untyped; count = c },
      refl,
      record {
        fits = untyped;
        longest = λ typing count more within other. longest count more within (typing, other);
        typed_at_need = λ e. absurd (cc);
      },
    )
    | inr not_untyped ↦ (
      record { typing = Typed; count = c },
      refl,
      record {
        fits = only_typed s c not_untyped fits.0 fits.1;
        longest = λ typing count more within other. longest count more within (typing, other);
        typed_at_need = λ e other. not_untyped other;
      },
    )
  ]
    where
      only_typed : (s c : ℕ) → (PartFits room columns rows s Untyped c → ⊥) → (typing : Typing) →
          PartFits room columns rows s typing c → PartFits room columns rows s Typed c
      only_typed s c a Typed fits = fits
      only_typed s c a Untyped fits = absurd (a fits)

  -- the parts of a cut into lengths, with their typings
  typed_parts : (cut : List ℕ) (s s' : ℕ) → s ≡ s' → AllPositive cut →
      AllFit (length rows) Either s cut → AllLongest (length rows) Either s cut →
      (parts : List Part) × (counts parts ≡ cut) × AllByRecursion (λ part. 0 < part.count) parts ×
      AllByRecursion (λ p. IsTightTypedPart room columns rows p.0 p.1) (placed_from s' parts)
  typed_parts [] s s' e pos fit longest = ([], refl, tt, tt)
  typed_parts (c ∷ cut) s s' e pos fit longest =
      let head = typing_of s c fit.0 longest.0 in
      let next : s + c ≡ s' + head.0.count = omega (arith, head.1) in
      let rest = typed_parts cut (s + c) (s' + head.0.count) next pos.1 fit.1 longest.1 in
      let positive : 0 < head.0.count = omega (arith, head.1, pos.0) in
      let same : counts (head.0 ∷ rest.0) ≡ c ∷ cut = cc (head.1, rest.1) in (
        head.0 ∷ rest.0,
        same,
        (positive, rest.2),
        (subst (λ x. IsTightTypedPart room columns rows x head.0) e head.2, rest.3),
      )

sum-counts : (cut : List Part) → sum (map (λ part. part.count) cut) ≡ sum_by (λ part. part.count) cut
sum-counts cut = sum-map (λ part. part.count) cut

total : (n : ℕ) (cut : List Part) → sum_by (λ part. part.count) cut ≡ n → 0 + sum (map (λ part. part.count) cut) ≡ n
total n cut e = omega (arith, e, sum-counts cut)

exists_either : (room columns : ℕ) (rows : List Row) → EachRowFitsEither room columns rows →
    (cut : List Part) × IsTightTyped room columns rows cut
exists_either room columns rows each =
    let n = length rows in
    let F = Either room columns rows in
    let r = chosen_exists n F (decide room columns rows) in
    let fit = chosen_fits n F each r.0 0 (from_zero _ _ r.2) r.1 r.3 in
    let typed = typed_parts room columns rows r.0 0 0 refl r.1 fit (all_longest n F r.0 0 r.3) in
    let sums : sum_by (λ part. part.count) typed.0 ≡ n = sym (sum-counts typed.0) ∙ ap sum typed.1 ∙ r.2 in
    (typed.0, record { is_cut = (typed.2, sums); parts_tight = typed.3 })

pub tight_typed_exists : TightTypedExists
tight_typed_exists room columns rows each = exists_either room columns rows (λ k lt. (Typed, each k lt))

pub fitting_cut_where : FittingCutWhere
fitting_cut_where room columns rows cut is fits k lt =
    each_fits (length rows) (Either room columns rows) (hereditary room columns rows)
    (counts room columns rows cut) 0 (total _ cut is.1)
    (counts_fit room columns rows cut 0 fits) k zero-le lt

pub tight_typed_exists_where : TightTypedExistsWhere
tight_typed_exists_where room columns rows = (
  λ cut k lt. fitting_cut_where room columns rows cut.0 cut.1.is_cut
      (tight_parts_fit room columns rows cut.0 0 cut.1.parts_tight) k lt,
  exists_either room columns rows,
)

pub tight_typed_has_fewest : TightTypedHasFewest
tight_typed_has_fewest room columns rows cut other t is fits =
    let n = length rows in
    let F = Either room columns rows in
    let a = counts room columns rows cut in
    let b = counts room columns rows other in
    let fewer : length a ≤ length b =
    fewest n F (hereditary room columns rows) a b 0 0 zero-le (total _ cut t.is_cut.1)
    (total _ other is.1) (positive_counts room columns rows cut t.is_cut.0)
    (counts_fit room columns rows other 0 fits)
    (all_longest n F a 0 (counts_chosen room columns rows cut 0 t.parts_tight)) in
    omega (arith, fewer, length-map cut (λ part. part.count), length-map other (λ part. part.count))

same_part : (a b : Part) → a.typing ≡ b.typing → a.count ≡ b.count → a ≡ b
same_part a b e f =
    let first : a ≡ record { typing = b.typing; count = a.count } =
    ap (λ (t : Typing). let p : Part = record { typing = t; count = a.count } in p) e in
    first ∙ ap (λ (c : ℕ). let p : Part = record { typing = b.typing; count = c } in p) f

one_typing : (room columns : ℕ) (rows : List Row) (s c : ℕ) (t u : Typing) →
    PartFits room columns rows s t c → PartFits room columns rows s u c →
    (t ≡ Typed → PartFits room columns rows s Untyped c → ⊥) →
    (u ≡ Typed → PartFits room columns rows s Untyped c → ⊥) → t ≡ u
one_typing room columns rows s c Typed Typed ft fu nt nu = refl
one_typing room columns rows s c Typed Untyped ft fu nt nu = absurd (nt refl fu)
one_typing room columns rows s c Untyped Typed ft fu nt nu = absurd (nu refl ft)
one_typing room columns rows s c Untyped Untyped ft fu nt nu = refl

same_parts : (room columns : ℕ) (rows : List Row) (a b : List Part) (s s' : ℕ) → s ≡ s' →
    map (λ part. part.count) a ≡ map (λ part. part.count) b →
    AllByRecursion (λ p. IsTightTypedPart room columns rows p.0 p.1) (placed_from s a) →
    AllByRecursion (λ p. IsTightTypedPart room columns rows p.0 p.1) (placed_from s' b) → a ≡ b
same_parts room columns rows [] [] s s' e same ta tb = refl
same_parts room columns rows [] (d ∷ b) s s' e same ta tb = absurd (cc)
same_parts room columns rows (c ∷ a) [] s s' e same ta tb = absurd (cc)
same_parts room columns rows (c ∷ a) (d ∷ b) s s' e same ta tb =
    let count : c.count ≡ d.count = cc in
    let moved = subst (λ x. IsTightTypedPart room columns rows x d) (sym e) tb.0 in
    let fits = subst (λ x. PartFits room columns rows s d.typing x) (sym count) moved.fits in
    let need : d.typing ≡ Typed → PartFits room columns rows s Untyped c.count → ⊥ =
    λ is fit. moved.typed_at_need is
    (subst (λ x. PartFits room columns rows s Untyped x) count fit) in
    let typing : c.typing ≡ d.typing =
    one_typing room columns rows s c.count c.typing d.typing ta.0.fits fits ta.0.typed_at_need
    need in
    let head : c ≡ d = same_part c d typing count in
    let tails : map (λ part. part.count) a ≡ map (λ part. part.count) b = cc in
    let rest : a ≡ b = same_parts room columns rows a b (s + c.count) (s' + d.count)
    (omega (arith, e, count)) tails ta.1 tb.1 in
    cc

pub tight_typed_is_unique : TightTypedIsUnique
tight_typed_is_unique room columns rows a b ta tb =
    let n = length rows in
    let F = Either room columns rows in
    let same = unique n F (counts room columns rows a) (counts room columns rows b) 0 0 refl
    (total _ a ta.is_cut.1) (total _ b tb.is_cut.1)
    (positive_counts room columns rows a ta.is_cut.0)
    (positive_counts room columns rows b tb.is_cut.0)
    (counts_chosen room columns rows a 0 ta.parts_tight)
    (counts_chosen room columns rows b 0 tb.parts_tight) in
    same_parts room columns rows a b 0 0 refl same ta.parts_tight tb.parts_tight

-- no longer part fits where none with one more row does
pub longest_by_one : (room columns : ℕ) (rows : List Row) (start count : ℕ) →
    (start + count < length rows → PartFits room columns rows start Typed (count + 1) → ⊥) →
    (start + count < length rows → PartFits room columns rows start Untyped (count + 1) → ⊥) →
    (typing : Typing) (m : ℕ) → count < m → start + m ≤ length rows → PartFits room columns rows start typing m → ⊥
longest_by_one room columns rows start count no_typed no_untyped Typed m more within fits =
    no_typed (omega arith) (part_fits_later room columns rows Typed start m start (count + 1)
    (omega arith) (omega arith) (omega arith) fits)
longest_by_one room columns rows start count no_typed no_untyped Untyped m more within fits =
    no_untyped (omega arith) (part_fits_later room columns rows Untyped start m start (count + 1)
    (omega arith) (omega arith) (omega arith) fits)

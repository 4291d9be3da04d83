-- The tight cut is the cut of longest parts.
use Rattle.std.proofs.Common.{◌≡◌, ℕ, ◌+◌, ◌<◌, ◌≤◌, ◌⊎◌, inl, inr, List, [], ◌∷◌, ◌++◌, length, sum, refl, sym, ◌∙◌}
use Rattle.std.proofs.Common.{ap, subst, arith, zero-le}
use Rattle.std.specs.List.{AllByRecursion}
use Rattle.std.proofs.lemmas.List.Sums.{sum_by-append}
use Rattle.std.proofs.lemmas.Bool.{cases_lt}
use Rattle.mysql_bulk_builder.specs.Cut.{Row, IsCut, Fits, IsTight, IsTightPart, size, parts_from}
use Rattle.mysql_bulk_builder.specs.CutLaws.{TightExists, TightIsUnique, TightFits, TightHasFewest, EachRowFits}
use Rattle.mysql_bulk_builder.specs.CutLaws.{TightPartsComeFirst}
use Rattle.mysql_bulk_builder.proofs.Greedy.{sum-cons, AllPositive, IsChosen, AllChosen, IsHereditary, all_longest}
use Rattle.mysql_bulk_builder.proofs.Greedy.{fewest, unique, each_fits, chosen_fits, chosen_from, chosen_exists}
use Rattle.mysql_bulk_builder.proofs.Sizes.{size_within}

module _ (room types : ℕ) (rows : List Row) where
  -- a part fits a request
  abbrev pub Room : ℕ → ℕ → Type 0
  Room s c = size types rows s c ≤ room

  pub hereditary : IsHereditary (length rows) Room
  hereditary s d s' c le end pos fits =
      let small : size types rows s' c ≤ size types rows s d = size_within types rows s d s' c le end in
      omega (arith, small, fits)

  pub decide : (s c : ℕ) → Room s c ⊎ (Room s c → ⊥)
  decide s c = elim (cases_lt room (size types rows s c))
      [ inl past ↦ inr (λ fits. omega (arith, past, fits)) | inr fits ↦ inl fits ]

  pub chosen_from_tight : (s c : ℕ) → 0 < c → IsTightPart room types rows s c → IsChosen (length rows) Room s c
  chosen_from_tight s c pos t =
      let one : Room s c ⊎ (c ≡ 1) =
      elim (cases_lt 1 c) [ inl more ↦ inl (t.0 more) | inr few ↦ inr (omega arith) ] in (
        one,
        λ m more within fits.
            let next : Room s (c + 1) = hereditary s m s (c + 1) (omega arith) (omega arith) (omega arith) fits in
            let past : room < size types rows s (c + 1) = t.1 (omega arith) in
            omega (arith, next, past),
      )

  pub tight_from_chosen : (s c : ℕ) → IsChosen (length rows) Room s c → IsTightPart room types rows s c
  tight_from_chosen s c h = (
    λ more. elim h.0 [ inl fits ↦ fits | inr one ↦ absurd (omega (arith, more, one)) ],
    λ more. elim (cases_lt room (size types rows s (c + 1)))
        [ inl past ↦ past | inr fits ↦ absurd (h.1 (c + 1) (omega arith) (omega arith) fits) ],
  )

  pub all_chosen : (cut : List ℕ) (s : ℕ) → AllPositive cut →
      AllByRecursion (λ p. IsTightPart room types rows p.0 p.1) (parts_from s cut) →
      AllChosen (length rows) Room s cut
  all_chosen [] s pos t = tt
  all_chosen (c ∷ cut) s pos t = (chosen_from_tight s c pos.0 t.0, all_chosen cut (s + c) pos.1 t.1)

  pub all_tight : (cut : List ℕ) (s : ℕ) → AllChosen (length rows) Room s cut →
      AllByRecursion (λ p. IsTightPart room types rows p.0 p.1) (parts_from s cut)
  all_tight [] s h = tt
  all_tight (c ∷ cut) s h = (tight_from_chosen s c h.0, all_tight cut (s + c) h.1)

  pub chosen : (cut : List ℕ) → IsTight room types rows cut → AllChosen (length rows) Room 0 cut
  chosen cut t = all_chosen cut 0 t.is_cut.0 t.parts_tight

-- there is one
pub tight_exists : TightExists
tight_exists room types rows =
    let r = chosen_exists (length rows) (Room room types rows) (decide room types rows) in
    (r.0, record { is_cut = (r.1, r.2); parts_tight = all_tight room types rows r.0 0 r.3 })

pub from_zero : (n s : ℕ) → s ≡ n → 0 + s ≡ n
from_zero n s e = omega (arith, e)

pub tight_is_unique : TightIsUnique
tight_is_unique room types rows a b ta tb =
    unique (length rows) (Room room types rows) a b 0 0 refl (from_zero _ _ ta.is_cut.1)
    (from_zero _ _ tb.is_cut.1) ta.is_cut.0 tb.is_cut.0 (chosen room types rows a ta)
    (chosen room types rows b tb)

pub each_from : (room types : ℕ) (rows : List Row) (cut : List ℕ) → IsCut rows cut →
    Fits room types rows cut → EachRowFits room types rows
each_from room types rows cut is fits k lt =
    each_fits (length rows) (Room room types rows) (hereditary room types rows) cut 0
    (from_zero _ _ is.1) fits k zero-le lt

pub tight_fits : TightFits
tight_fits room types rows cut t = (
  each_from room types rows cut t.is_cut,
  λ each. chosen_fits (length rows) (Room room types rows) each cut 0 (from_zero _ _ t.is_cut.1)
      t.is_cut.0 (chosen room types rows cut t),
)

pub tight_has_fewest : TightHasFewest
tight_has_fewest room types rows cut other t is fits =
    fewest (length rows) (Room room types rows) (hereditary room types rows) cut other 0 0 zero-le
    (from_zero _ _ t.is_cut.1) (from_zero _ _ is.1) t.is_cut.0 fits
    (all_longest (length rows) (Room room types rows) cut 0 (chosen room types rows cut t))

all_append : {X : Type 0} (P : X → Type 0) (xs ys : List X) → AllByRecursion P xs →
    AllByRecursion P ys → AllByRecursion P (xs ++ ys)
all_append P [] ys a b = b
all_append P (x ∷ xs) ys a b = (a.0, all_append P xs ys a.1 b)

parts-append : (a b : List ℕ) (s : ℕ) → parts_from s (a ++ b) ≡ parts_from s a ++ parts_from (s + sum a) b
parts-append [] b s = let e : s ≡ s + sum [] = omega arith in ap (λ (k : ℕ). parts_from k b) e
parts-append (c ∷ a) b s =
    let e : (s + c) + sum a ≡ s + sum (c ∷ a) = omega (arith, sum-cons c a) in
    ap (λ (ps : List (ℕ × ℕ)). (s, c) ∷ ps) (parts-append a b (s + c) ∙
    ap (λ (k : ℕ). parts_from (s + c) a ++ parts_from k b) e)

-- tight parts are the first of the tight cut
pub tight_parts_come_first : TightPartsComeFirst
tight_parts_come_first room types rows first positive within tight =
    let n = length rows in
    let F = Room room types rows in
    let r = chosen_from n F (decide room types rows) n (sum first) within (omega arith) in
    let ps : parts_from 0 (first ++ r.0) ≡ parts_from 0 first ++ parts_from (sum first) r.0 =
    parts-append first r.0 0 ∙ ap (λ (k : ℕ). parts_from 0 first ++ parts_from k r.0) (plus_sum first) in
    let total : sum (first ++ r.0) ≡ sum first + sum r.0 = sum_by-append (λ x. x) first r.0 in (
      r.0,
      record {
        is_cut = (all_append (λ c. 0 < c) first r.0 positive r.1, omega (arith, total, r.2));
        parts_tight = subst (λ qs. AllByRecursion (λ p. IsTightPart room types rows p.0 p.1) qs) (sym ps)
            (all_append (λ p. IsTightPart room types rows p.0 p.1) (parts_from 0 first)
            (parts_from (sum first) r.0) tight (all_tight room types rows r.0 (sum first) r.3));
      },
    )
  where
    plus_sum : (xs : List ℕ) → 0 + sum xs ≡ sum xs
    plus_sum xs = omega arith

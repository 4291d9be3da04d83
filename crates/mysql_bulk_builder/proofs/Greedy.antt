-- Cutting n items into parts, each time the longest part that fits.
use Rattle.std.proofs.Common.{◌≡◌, ℕ, zero, suc, ◌+◌, ◌-◌, ◌<◌, ◌≤◌, ◌⊎◌, inl, inr, List, [], ◌∷◌, length, refl, sym}
use Rattle.std.proofs.Common.{subst, arith, zero-le, suc-le-suc}
use Rattle.std.specs.Prelude.{sum}
use Rattle.std.specs.List.{AllByRecursion}
use Rattle.std.proofs.lemmas.List.Sums.{sum_by-cons}
use Rattle.std.proofs.lemmas.Bool.{cases_lt, cases_order}
use Rattle.mysql_bulk_builder.specs.Cut.{parts_from}

-- no part is empty
abbrev pub AllPositive : List ℕ → Type 0
AllPositive cut = AllByRecursion (λ count. 0 < count) cut

-- the head and the rest of a sum
pub sum-cons : (c : ℕ) (cut : List ℕ) → sum (c ∷ cut) ≡ c + sum cut
sum-cons c cut = sum_by-cons (λ x. x) c cut

module _ (n : ℕ) (F : ℕ → ℕ → Type 0) where
  -- no longer part fits from that start
  abbrev pub Longest : ℕ → ℕ → Type 0
  Longest s c = (m : ℕ) → c < m → s + m ≤ n → F s m → ⊥

  abbrev pub AllFit : ℕ → List ℕ → Type 0
  AllFit s cut = AllByRecursion (λ p. F p.0 p.1) (parts_from s cut)

  abbrev pub AllLongest : ℕ → List ℕ → Type 0
  AllLongest s cut = AllByRecursion (λ p. Longest p.0 p.1) (parts_from s cut)

  -- the longest part that fits, or one item where none does
  abbrev pub IsChosen : ℕ → ℕ → Type 0
  IsChosen s c = (F s c ⊎ (c ≡ 1)) × Longest s c

  abbrev pub AllChosen : ℕ → List ℕ → Type 0
  AllChosen s cut = AllByRecursion (λ p. IsChosen p.0 p.1) (parts_from s cut)

  pub all_longest : (cut : List ℕ) (s : ℕ) → AllChosen s cut → AllLongest s cut
  all_longest [] s h = tt
  all_longest (c ∷ cut) s h = (h.0.1, all_longest cut (s + c) h.1)

  -- a part within a part that fits, fits
  abbrev pub IsHereditary : Type 0
  IsHereditary = (s d s' c : ℕ) → s ≤ s' → s' + c ≤ s + d → 0 < c → F s d → F s' c

  pub ahead : IsHereditary → (s s' c d : ℕ) → s' ≤ s → s' + d ≤ n → 0 < c → F s' d → Longest s c → s' + d ≤ s + c
  ahead sub s s' c d le within pos fits longest = elim (cases_lt (s + c) (s' + d)) [
    | inl past ↦
        let m : (m : ℕ) × (s + m ≡ s' + d) = (s' + d - s, omega arith) in
        let longer : c < m.0 = omega (arith, m.1) in
        let positive : 0 < m.0 = omega (arith, longer) in
        let inside : s + m.0 ≤ n = omega (arith, m.1) in
        let end : s + m.0 ≤ s' + d = omega (arith, m.1) in
        absurd (longest m.0 longer inside (sub s' d s m.0 le end positive fits))
    | inr within' ↦ within'
  ]

  -- Longest parts stay ahead of every cut that fits, so they are fewest.
  pub fewest : IsHereditary → (cut other : List ℕ) (s s' : ℕ) → s' ≤ s → s + sum cut ≡ n →
      s' + sum other ≡ n → AllPositive cut → AllFit s' other → AllLongest s cut →
      length cut ≤ length other
  fewest sub [] other s s' le e e' pos fit longest = zero-le
  fewest sub (c ∷ cut) [] s s' le e e' pos fit longest = absurd (omega (arith, sum-cons c cut, pos.0))
  fewest sub (c ∷ cut) (d ∷ other) s s' le e e' pos fit longest =
      let within : s' + d ≤ n = omega (arith, sum-cons d other) in
      let next : s' + d ≤ s + c = ahead sub s s' c d le within pos.0 fit.0 longest.0 in
      let e1 : (s + c) + sum cut ≡ n = omega (arith, sum-cons c cut) in
      let e2 : (s' + d) + sum other ≡ n = omega (arith, sum-cons d other) in
      suc-le-suc (fewest sub cut other (s + c) (s' + d) next e1 e2 pos.1 fit.1 longest.1)

  -- there is only one way to choose
  pub unique : (a b : List ℕ) (s s' : ℕ) → s ≡ s' → s + sum a ≡ n → s' + sum b ≡ n → AllPositive a →
      AllPositive b → AllChosen s a → AllChosen s' b → a ≡ b
  unique [] [] s s' same e e' pa pb ca cb = refl
  unique [] (d ∷ b) s s' same e e' pa pb ca cb = absurd (omega (arith, sum-cons d b, pb.0))
  unique (c ∷ a) [] s s' same e e' pa pb ca cb = absurd (omega (arith, sum-cons c a, pa.0))
  unique (c ∷ a) (d ∷ b) s s' same e e' pa pb ca cb =
      let ea : (s + c) + sum a ≡ n = omega (arith, sum-cons c a) in
      let eb : (s' + d) + sum b ≡ n = omega (arith, sum-cons d b) in
      let head : c ≡ d = one_length s s' c d same (omega (arith, ea)) (omega (arith, eb)) pa.0 pb.0 ca.0 cb.0 in
      let rest : a ≡ b = unique a b (s + c) (s' + d) (omega (arith, head)) ea eb pa.1 pb.1 ca.1 cb.1 in
      cc
    where
      -- a choice that is shorter than another is no choice
      not_shorter : (s s' c d : ℕ) → s ≡ s' → s' + d ≤ n → 0 < c → c < d → IsChosen s c → IsChosen s' d → ⊥
      not_shorter s s' c d same within pos lt a b = elim b.0 [
        | inl fits ↦ a.1 d lt (omega arith) (subst (λ x. F x d) (sym same) fits)
        | inr one ↦ omega (arith, one)
      ]

      one_length : (s s' c d : ℕ) → s ≡ s' → s + c ≤ n → s' + d ≤ n → 0 < c → 0 < d → IsChosen s c →
          IsChosen s' d → c ≡ d
      one_length s s' c d same wc wd pc pd a b = elim (cases_order c d) [
        | inl e ↦ e
        | inr h ↦ elim h [
          | inl lt ↦ absurd (not_shorter s s' c d same wd pc lt a b)
          | inr lt ↦ absurd (not_shorter s' s d c (sym same) wc pd lt b a)
        ]
      ]

  -- where a cut fits, each item fits by itself
  pub each_fits : IsHereditary → (cut : List ℕ) (s : ℕ) → s + sum cut ≡ n → AllFit s cut → (k : ℕ) →
      s ≤ k → k < n → F k 1
  each_fits sub [] s e fit k le lt = absurd (omega arith)
  each_fits sub (c ∷ cut) s e fit k le lt = elim (cases_lt k (s + c)) [
    | inl inside ↦ sub s c k 1 le (omega arith) (omega arith) fit.0
    | inr past ↦ each_fits sub cut (s + c) (omega (arith, sum-cons c cut)) fit.1 k past lt
  ]

  -- where each item fits by itself, a chosen cut fits
  pub chosen_fits : ((k : ℕ) → k < n → F k 1) → (cut : List ℕ) (s : ℕ) → s + sum cut ≡ n →
      AllPositive cut → AllChosen s cut → AllFit s cut
  chosen_fits each [] s e pos chosen = tt
  chosen_fits each (c ∷ cut) s e pos chosen =
      let here : F s c = elim chosen.0.0 [
        | inl fits ↦ fits
        | inr one ↦ subst (λ x. F s x) (sym one) (each s (omega (arith, sum-cons c cut, pos.0)))
      ] in
      (here, chosen_fits each cut (s + c) (omega (arith, sum-cons c cut)) pos.1 chosen.1)

  module _ (decide : (s c : ℕ) → F s c ⊎ (F s c → ⊥)) where
    -- the longest part from a start, among those of at most k items, where no longer one fits
    pub longest_of : (k s : ℕ) → 0 < k → ((m : ℕ) → k < m → s + m ≤ n → F s m → ⊥) → (c : ℕ) ×
        (0 < c) × (c ≤ k) × IsChosen s c
    longest_of zero s pos none = absurd (omega arith)
    longest_of (suc k) s pos none = elim (decide s (suc k)) [
      | inl fits ↦ (suc k, omega arith, omega arith, (inl fits, none))
      | inr fails ↦ elim (cases_order k 0) [
        | inl zero' ↦ (suc k, omega arith, omega arith, (inr (omega arith), none))
        | inr other ↦
            let pos' : 0 < k = elim other [ inl lt ↦ absurd (omega arith) | inr lt ↦ lt ] in
            let r = longest_of k s pos' (λ m lt within fits. elim (cases_order m (suc k)) [
              | inl e ↦ fails (subst (λ x. F s x) e fits)
              | inr apart ↦ elim apart [ inl less ↦ absurd (omega arith) | inr more ↦ none m more within fits ]
            ]) in
            (r.0, r.1, omega (arith, r.2), r.3)
      ]
    ]

    -- the chosen cut from a start
    pub chosen_from : (fuel s : ℕ) → s ≤ n → n ≤ s + fuel → (cut : List ℕ) × AllPositive cut ×
        (s + sum cut ≡ n) × AllChosen s cut
    chosen_from zero s le enough = ([], tt, omega arith, tt)
    chosen_from (suc fuel) s le enough = elim (cases_lt s n) [
      | inl lt ↦
          let r = longest_of (n - s) s (omega arith) (λ m more within fits. absurd (omega arith)) in
          let within : s + r.0 ≤ n = omega (arith, r.2) in
          let rest = chosen_from fuel (s + r.0) within (omega (arith, r.1)) in
          let total : s + sum (r.0 ∷ rest.0) ≡ n = omega (arith, sum-cons r.0 rest.0, rest.2) in
          (r.0 ∷ rest.0, (r.1, rest.1), total, (r.3, rest.3))
      | inr done ↦ ([], tt, omega arith, tt)
    ]

    pub chosen_exists : (cut : List ℕ) × AllPositive cut × (sum cut ≡ n) × AllChosen 0 cut
    chosen_exists =
        let r = chosen_from n 0 zero-le (omega arith) in
        (r.0, r.1, omega (arith, r.2), r.3)

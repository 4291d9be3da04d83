-- How the size of a part grows.
use Rattle.std.proofs.Common.{◌≡◌, ℕ, zero, suc, ◌+◌, ◌-◌, ◌≤◌, List, take, drop, sym, ◌∙◌, ap, arith}
use Rattle.std.specs.Prelude.{sum_by}
use Rattle.std.proofs.lemmas.List.Sums.{sum_by-take-drop, sum_by-take-le}
use Rattle.std.proofs.lemmas.List.{drop-drop, drop-take, take-take}
use Rattle.mysql_bulk_builder.specs.Cut.{Row, row_size, types_size, size}

-- a sum over a part of a list is at most that over a part that holds it
pub sum_within : {X : Type 0} (f : X → ℕ) (xs : List X) (s d s' c : ℕ) → s ≤ s' → s' + c ≤ s + d →
    sum_by f (take c (drop s' xs)) ≤ sum_by f (take d (drop s xs))
sum_within f xs s d s' c le end =
    let e : (e : ℕ) × (s + e ≡ s') = (s' - s, omega arith) in
    let ys = drop s xs in
    let fewer : e.0 + c ≤ d = omega (arith, e.1) in
    let moved : drop s' xs ≡ drop e.0 ys = ap (λ k. drop k xs) (sym e.1) ∙ sym (drop-drop e.0 s xs) in
    let front : take c (drop s' xs) ≡ drop e.0 (take (e.0 + c) ys) = ap (take c) moved ∙ sym (drop-take e.0 c ys) in
    let cut : take (e.0 + c) (take d ys) ≡ take (e.0 + c) ys = take-take (e.0 + c) d ys fewer in
    omega (
      arith,
      ap (sum_by f) front,
      sum_by-take-drop f (take (e.0 + c) ys) e.0,
      ap (sum_by f) cut,
      sum_by-take-le f (take d ys) (e.0 + c),
    )

-- the bytes of types
pub types_shrink : (types s s' : ℕ) → s ≤ s' → types_size types s' ≤ types_size types s
types_shrink types zero zero le = omega arith
types_shrink types zero (suc s') le = omega arith
types_shrink types (suc s) zero le = absurd (omega arith)
types_shrink types (suc s) (suc s') le = omega arith

-- a part within a part is no larger
pub size_within : (types : ℕ) (rows : List Row) (s d s' c : ℕ) → s ≤ s' → s' + c ≤ s + d →
    size types rows s' c ≤ size types rows s d
size_within types rows s d s' c le end =
    omega (arith, types_shrink types s s' le, sum_within row_size rows s d s' c le end)

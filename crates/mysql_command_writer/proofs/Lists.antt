-- Lists that are the same at each place.
use Rattle.std.proofs.Common.{◌≡◌, ◌<◌, ℕ, List, [], ◌∷◌, length, Some, refl, arith, suc}
use Rattle.std.specs.Prelude.{slice_get}

some_same : {X : Type 0} (x y : X) → Some x ≡ Some y → x ≡ y
some_same x y e = cc

pub same_lists : {X : Type 0} (xs ys : List X) → length xs ≡ length ys →
    ((k : ℕ) → k < length xs → slice_get xs k ≡ slice_get ys k) → xs ≡ ys
same_lists [] [] len at = refl
same_lists [] (y ∷ ys) len at = absurd (omega arith)
same_lists (x ∷ xs) [] len at = absurd (omega arith)
same_lists (x ∷ xs) (y ∷ ys) len at =
    let first : x ≡ y = some_same x y (at 0 (omega arith)) in
    let rest = same_lists xs ys (omega arith) (λ k h. at (suc k) (omega arith)) in
    cc

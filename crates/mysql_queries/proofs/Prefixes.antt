-- What stands behind the first elements that pass a test.
use Rattle.std.proofs.Common.{◌≡◌, ◌+◌, suc, ℕ, Bool, true, false, List, ◌∷◌, drop, refl, ap, arith}
use Rattle.std.specs.List.{prefix_len}

pub behind_more : {X : Type 0} (test : X → Bool) (b : X) (x : List X) → test b ≡ true →
    drop (prefix_len test (b ∷ x)) (b ∷ x) ≡ drop (prefix_len test x) x
behind_more test b x h = let one : 1 + prefix_len test x ≡ suc (prefix_len test x) = omega arith in
    rw h (ap (λ n. drop n (b ∷ x)) one)

pub behind_stop : {X : Type 0} (test : X → Bool) (b : X) (x : List X) → test b ≡ false →
    drop (prefix_len test (b ∷ x)) (b ∷ x) ≡ b ∷ x
behind_stop test b x h = rw h refl

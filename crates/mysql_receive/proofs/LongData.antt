-- What waits for the places, as a list of places.
use Rattle.std.proofs.Common.{◌≡◌, ℕ, zero, suc, List, [], ◌∷◌, ◌++◌, Option, None, refl}
use Rattle.std.specs.Global.{Vec}
use Rattle.mysql_receive.specs.Views.{data_waiting}

get_pushed : (xs : List (Option (Vec ℕ))) (k : ℕ) → data_waiting (xs ++ None ∷ []) k ≡ data_waiting xs k
get_pushed [] zero = refl
get_pushed [] (suc k) = refl
get_pushed (x ∷ xs) zero = refl
get_pushed (x ∷ xs) (suc k) = get_pushed xs k

-- a place where nothing waits changes nothing
pub pushed_none : (xs : List (Option (Vec ℕ))) → data_waiting (xs ++ None ∷ []) ≡ data_waiting xs
pushed_none xs = λ i k. get_pushed xs k i

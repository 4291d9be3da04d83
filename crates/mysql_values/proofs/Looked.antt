-- Values that are looked up, copied and lent one by one.
use Rattle.std.proofs.Common.{◌≡◌, ℕ, zero, suc, arith, ◌+◌, ◌<◌, ◌≤◌, List, [], ◌∷◌, ◌++◌, drop, length, get_or, refl}
use Rattle.std.proofs.Common.{add-one, Result, Ok, Err}
use Rattle.std.proofs.Math.Seq.{drop-cons}
use Rattle.mysql_cells.specs.declared.value.Value.{Value}
use Rattle.mysql_values.specs.declared.params.ParamsError.{ParamsError}

-- values before others
abbrev pub behind : List Value → Result (List Value) ParamsError → Result (List Value) ParamsError
behind done (Ok values) = Ok (done ++ values)
behind done (Err error) = Err error

-- the element at a place, and the later ones
pub from_place : {A : Type 0} → (xs : List A) (k : ℕ) (d : A) → k < length xs → drop k xs ≡
    get_or xs k d ∷ drop (k + 1) xs
from_place xs k d h = rw add-one (drop-cons xs k d h)

pub none_left : {A : Type 0} → (xs : List A) (k : ℕ) → length xs ≤ k → drop k xs ≡ []
none_left [] zero h = refl
none_left [] (suc k) h = refl
none_left (x ∷ xs) zero h = absurd (omega arith)
none_left (x ∷ xs) (suc k) h = none_left xs k (omega arith)

-- The first of a list's parameters that describes no value.
use Rattle.std.proofs.Common.{◌≡◌, ℕ, ◌<◌, List, [], ◌∷◌, map, length, take, get_or, Some, Result, Ok, Err, refl, arith}
use Rattle.std.proofs.Common.{suc, zero}
use Rattle.mysql_cells.specs.declared.value.Value.{Value}
use Rattle.mysql_c_handles.specs.declared.code.Code.{Code}
use Rattle.mysql_c_commands.specs.Adding.{first_error}

pub first_error_at : {T : Type 0} (f : T → Result Value Code) (xs : List T) (i : ℕ)
    (done : List Value) (d : T) (error : Code)
    → i < length xs → map f (take i xs) ≡ map Ok done → f (get_or xs i d) ≡ Err error →
    first_error (map f xs) ≡ Some error
first_error_at f [] i done d error l h n = absurd (omega (arith, l))
first_error_at f (y ∷ xs) zero done d error l h n = rw n refl
first_error_at f (y ∷ xs) (suc i) [] d error l h n = absurd (cc)
first_error_at f (y ∷ xs) (suc i) (v ∷ done) d error l h n =
    let first : f y ≡ Ok v = cc in
    let others : map f (take i xs) ≡ map Ok done = cc in
    rw first (first_error_at f xs i done d error (omega (arith, l)) others n)

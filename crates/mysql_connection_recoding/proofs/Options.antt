-- Readings that may find nothing, one after another: where the parts are found, all is.
use Rattle.std.proofs.Common.{◌≡◌, ℕ, Bool, true, List, length, Option, Some, ap, ◌∙◌}
use Rattle.std.specs.Prelude.{nat_lt}
use Rattle.mysql_executions.specs.Fields.{◌>>=◌, ◌>>◌, must}

pub some_then : {A B : Type 0} (r : Option A) (f : A → Option B) (x : A) (y : B) → r ≡ Some x →
    f x ≡ Some y → (r >>= f) ≡ Some y
some_then r f x y e h = ap (λ q. q >>= f) e ∙ h

pub must_so : {B : Type 0} (b : Bool) (next : Option B) (y : B) → b ≡ true → next ≡ Some y → (must b >> next) ≡ Some y
must_so b next y e h = ap (λ q. must q >> next) e ∙ h

-- what must have rows, by them and by what stands behind them
abbrev pub with_rows : {R B : Type 0} → (List R × List ℕ → B) → List R × List ℕ → Option B
with_rows made rows = must (nat_lt 0 (length rows.0)) >> Some (made rows)

pub rows_so : {R B : Type 0} (made : List R × List ℕ → B) (found : List R × List ℕ) (rows : List R)
    (rest : List ℕ) → found ≡ (rows, rest) → nat_lt 0 (length rows) ≡ true → with_rows made found ≡
    Some (made (rows, rest))
rows_so made found rows rest e some = ap (with_rows made) e ∙
    must_so (nat_lt 0 (length rows)) (Some (made (rows, rest))) (made (rows, rest)) some
    (λ i. Some (made (rows, rest)))

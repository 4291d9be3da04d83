-- What holds of an answer is taken on.
use Rattle.std.proofs.Common.{◌≡◌, Result, Ok, Err, subst, ℕ}
use Rattle.mysql_values.specs.Sql.{Sql}
use Rattle.std.specs.Prelude.{IfErr, IfOk, OnOk}

pub on_ok : {E P Q : Type 0} (answer : Result (Unit {0}) E) → (P → Q) → OnOk answer P → OnOk answer Q
on_ok (Ok done) step holds = step holds
on_ok (Err error) step holds = tt

pub if_ok : {A E : Type 0} {P Q : A → Type 0} (answer : Result A E) → ((a : A) → P a → Q a) →
    IfOk answer P → IfOk answer Q
if_ok (Ok a) step holds = step a holds
if_ok (Err error) step holds = tt

pub on_err : {E : Type 0} {P Q : E → Type 0} (answer : Result (Unit {0}) E) →
    ((e : E) → P e → Q e) → IfErr answer P → IfErr answer Q
on_err (Ok done) step holds = tt
on_err (Err error) step holds = step error holds

-- what is said over a text and an id is said over equal ones
pub over_same : (P : Sql → ℕ → Type 0) (text other : Sql) (id number : ℕ) → text ≡ other → id ≡
    number → P text id → P other number
over_same P text other id number same one holds =
    subst (λ (n : ℕ). P other n) one (subst (λ (t : Sql). P t id) same holds)

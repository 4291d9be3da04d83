-- What follows of an answer.
use Rattle.std.proofs.Common.{Result, Ok, Err, OnOk, IfErr}

pub on_ok : {E P Q : Type 0} (result : Result (Unit {0}) E) → (P → Q) → OnOk result P → OnOk result Q
on_ok (Ok done) f p = f p
on_ok (Err e) f p = tt

pub on_err : {E : Type 0} {P Q : E → Type 0} (result : Result (Unit {0}) E) →
    ((e : E) → P e → Q e) → IfErr result P → IfErr result Q
on_err (Ok done) f p = tt
on_err (Err e) f p = f e p

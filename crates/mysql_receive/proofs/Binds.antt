-- Readings one after another: what is read of the parts where all is read, and of all where the parts are.
use Rattle.std.proofs.Common.{◌≡◌, ℕ, Bool, true, false, Result, Ok, Err, refl, ap, ◌∙◌}
use Rattle.mysql_receive.specs.Fields.{must}
use Rattle.mysql_wire.specs.Wire.{◌>>=◌}

pub bind_ok : {A B F : Type 0} (r : Result A F) (f : A → Result B F) (y : B) → (r >>= f) ≡ Ok y →
    (x : A) × (r ≡ Ok x) × (f x ≡ Ok y)
bind_ok (Ok x) f y e = (x, refl, e)
bind_ok (Err d) f y e = absurd cc

pub bind_from : {A B F : Type 0} (r : Result A F) (f : A → Result B F) (x : A) (y : B) → r ≡ Ok x →
    f x ≡ Ok y → (r >>= f) ≡ Ok y
bind_from r f x y e h = ap (λ q. q >>= f) e ∙ h

pub must_ok : {F : Type 0} (f : F) (b : Bool) (n : ℕ) → must f b ≡ Ok n → b ≡ true
must_ok f true n e = refl
must_ok f false n e = absurd cc

pub must_from : {F : Type 0} (f : F) (b : Bool) → b ≡ true → must f b ≡ Ok 0
must_from f b e = ap (λ x. must f x) e

-- Readings one after another: of what was read whole, the parts were.
use Rattle.std.proofs.Common.{◌≡◌, Bool, true, false, Option, Some, None, Result, Ok, Err, refl}
use Rattle.std.specs.Prelude.{is_some}
use Rattle.std.specs.Option.{ok_or}
use Rattle.mysql_receive.specs.Fields.{◌>>◌, must}
use Rattle.mysql_wire.specs.Wire.{◌>>=◌}

pub bind_ok : {A B F : Type 0} (r : Result A F) (f : A → Result B F) (y : B) → (r >>= f) ≡ Ok y →
    (x : A) × (r ≡ Ok x) × (f x ≡ Ok y)
bind_ok (Ok x) f y e = (x, refl, e)
bind_ok (Err d) f y e = absurd cc

pub must_then : {B F : Type 0} (fault : F) (b : Bool) (next : Result B F) (y : B) →
    (must fault b >> next) ≡ Ok y → (b ≡ true) × (next ≡ Ok y)
must_then fault true next y e = (refl, e)
must_then fault false next y e = absurd cc

abbrev pub read : {X F : Type 0} → X → Result X F
read x = Ok x

pub ok_is : {X F : Type 0} (x y : X) → read {F = F} x ≡ read y → x ≡ y
ok_is x y e = cc

pub found_is : {X F : Type 0} (r : Option X) (f : F) (x : X) → ok_or r f ≡ Ok x → r ≡ Some x
found_is (Some y) f x e = cc
found_is None f x e = absurd cc

pub some_of : {X : Type 0} (r : Option X) → is_some r ≡ true → (x : X) × (r ≡ Some x)
some_of (Some x) e = (x, refl)
some_of None e = absurd cc

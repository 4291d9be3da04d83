-- Readings one after another, and what one takes from the front of the bytes.
use Rattle.std.proofs.Common.{◌≡◌, ℕ, Bool, true, false, List, Option, Some, None, Result, Ok, Err, refl, ap, ◌∙◌}
use Rattle.std.specs.Prelude.{if◌then◌else◌}
use Rattle.std.specs.Option.{ok_or}
use Rattle.mysql_wire.specs.Wire.{◌>>=◌, or_end}
use Rattle.mysql_wire.specs.Reading as buffer
use Rattle.mysql_receive.specs.declared.fault.StreamFault.{StreamFault}
use Rattle.mysql_receive.specs.Fields.{◌>>◌, number_or, must}

pub bind_ok : {A B F : Type 0} (r : Result A F) (f : A → Result B F) (y : B) → (r >>= f) ≡ Ok y →
    (x : A) × (r ≡ Ok x) × (f x ≡ Ok y)
bind_ok (Ok x) f y e = (x, refl, e)
bind_ok (Err d) f y e = absurd cc

pub bind_from : {A B F : Type 0} (r : Result A F) (f : A → Result B F) (x : A) (y : Result B F) →
    r ≡ Ok x → f x ≡ y → (r >>= f) ≡ y
bind_from r f x y e h = ap (λ q. q >>= f) e ∙ h

pub must_ok : {F : Type 0} (f : F) (b : Bool) (n : ℕ) → must f b ≡ Ok n → b ≡ true
must_ok f true n e = refl
must_ok f false n e = absurd cc

pub some_is : {X F : Type 0} (r : Option X) (f : F) (x : X) → ok_or r f ≡ Ok x → r ≡ Some x
some_is (Some y) f x e = cc
some_is None f x e = absurd cc

pub end_is : {X : Type 0} (r : Option X) (x : X) → or_end r ≡ Ok x → r ≡ Some x
end_is (Some y) x e = cc
end_is None x e = absurd cc

-- one of two, by a test
pub if_then : {A P : Type 0} (t : Bool) (x y r : A) → (t ≡ true → x ≡ r → P) →
    (t ≡ false → y ≡ r → P) → (if t then x else y) ≡ r → P
if_then true x y r p q e = p refl e
if_then false x y r p q e = q refl e

-- a number that passes a test, and what is read behind it
pub number_behind : {B : Type 0} (short wrong : StreamFault) (n : ℕ) (test : ℕ →
    Bool) (bytes : List ℕ) (after : ℕ × List ℕ → Result B StreamFault) (y : B) →
    (number_or short n bytes >>= λ x. must wrong (test x.0) >> after x) ≡ Ok y → (x : ℕ × List ℕ) ×
    (buffer.little_at n bytes ≡ Some x) × (test x.0 ≡ true) × (after x ≡ Ok y)
number_behind short wrong n test bytes after y e =
    let a = bind_ok (number_or short n bytes) (λ x. must wrong (test x.0) >> after x) y e in
    let b = bind_ok (must wrong (test a.0.0)) (λ _. after a.0) y a.2 in
    (a.0, some_is (buffer.little_at n bytes) short a.0 a.1, must_ok wrong (test a.0.0) b.0 b.1, b.2)

-- What a refusal is that reading gives, whether or not the call asks for memory.
use Rattle.std.proofs.Common.{◌≡◌, ℕ, Bool, true, false, List, Result, Err, refl}
use Rattle.mysql_fields.specs.Wire.{Answers, Reading}
use Rattle.mysql_fields.specs.declared.error.WireError.{WireError}

pub refused : {X Y : Type 0} (asks : Bool) (view : X → Y) (bytes : List ℕ) (e : WireError)
    (reading : Reading Y) → reading ≡ Err e → Answers {X = X} asks view bytes bytes (Err e) reading
refused true view bytes e reading h = (λ _. h, refl)
refused false view bytes e reading h = (h, refl)

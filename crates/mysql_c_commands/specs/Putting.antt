-- What calls that put a payload behind the bytes of a handle say of its object.
use Rattle.std.specs.Prelude.{◌≡◌, ◌⊎◌, ℕ, Bool, true, false, List}
use Rattle.mysql_c_handles.specs.Bytes.{Appends, OfBytes}
use Rattle.mysql_c_handles.specs.Codes.{code_number}
use Rattle.mysql_c_handles.specs.declared.code.Code.TheVariants.{BadPacket, Memory}
use Rattle.mysql_c_handles.specs.declared.object.Object.{Object}

-- Bytes stand behind those that the handle stands for; or nothing changes, and the number says why.
abbrev pub Puts : List ℕ → Object → ℕ → Object → Type 0
Puts added old number new = OfBytes old number new (Appends added number new) ⊎
    ((number ≡ code_number Memory) × (new ≡ old))

-- Bytes that have to be allowed stand behind those that the handle stands for, or nothing changes.
abbrev pub PutsIf : Bool → List ℕ → Object → ℕ → Object → Type 0
PutsIf true added old number new = Puts added old number new
PutsIf false added old number new = (number ≡ code_number BadPacket) × (new ≡ old)

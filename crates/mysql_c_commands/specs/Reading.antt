-- What calls that read a payload answer.
use Rattle.std.specs.Prelude.{◌≡◌, ℕ, Ok, Err}
use Rattle.mysql_fields.specs.Wire.{Reading}
use Rattle.mysql_c_handles.specs.Codes.{code_number}
use Rattle.mysql_c_handles.specs.declared.code.Code.TheVariants.{BadPacket, Done}

-- What reading gives is shown; where it refuses the packet is bad.
abbrev pub IsShown : {X : Type 0} → (X → Type 0) → Reading X → ℕ → Type 0
IsShown Shows (Ok x) number = (number ≡ code_number Done) × Shows x.0
IsShown Shows (Err e) number = number ≡ code_number BadPacket

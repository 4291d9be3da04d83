-- What the calls on bytes say of the object that a handle stands for.
use Rattle.std.specs.Prelude.{◌≡◌, ◌⊎◌, ℕ, List, [], ◌++◌, length}
use Rattle.mysql_c_handles.specs.declared.code.Code.TheVariants.{Done, Memory}
use Rattle.mysql_c_handles.specs.declared.object.Object.{Object}
use Rattle.mysql_c_handles.specs.declared.object.Object.TheVariants as object
use Rattle.mysql_c_handles.specs.Codes.{Stays, code_number}

-- the object is bytes of which this is said
abbrev pub IsBytes : Object → (List ℕ → Type 0) → Type 0
IsBytes (object.Bytes bytes) Says = Says bytes.items
IsBytes held Says = ⊥

-- Of bytes what is said. Any other object stays, and the number says why.
abbrev pub OfBytes : Object → ℕ → Object → (List ℕ → Type 0) → Type 0
OfBytes (object.Bytes bytes) number new Says = Says bytes.items
OfBytes held number new Says = Stays held number new

-- Bytes are emptied.
abbrev pub IsCleared : ℕ → Object → List ℕ → Type 0
IsCleared number new old = (number ≡ 0) × IsBytes new (λ bytes. bytes ≡ [])

-- Bytes are shown, and stay.
abbrev pub HasLength : ℕ → Object → ℕ → List ℕ → Type 0
HasLength number new len old = (number ≡ 0) × (len ≡ length old) × IsBytes new (λ bytes. bytes ≡ old)

-- These bytes stand behind the old ones; or memory was refused, and the old ones stay.
abbrev pub Appends : List ℕ → ℕ → Object → List ℕ → Type 0
Appends added number new old =
    ((number ≡ code_number Done) × IsBytes new (λ bytes. bytes ≡ old ++ added))
    ⊎ ((number ≡ code_number Memory) × IsBytes new (λ bytes. bytes ≡ old))

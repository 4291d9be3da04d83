-- How tables are read (the tables of this crate are those of the sections that their files name).
use Rattle.std.specs.Prelude.{◌≡◌, ◌≢◌, ℕ, Bool, List, [], ◌∷◌, Option, None, Some, Result, Ok, Err, map, if◌then◌else◌}
use Rattle.std.specs.Int.RustNames.{bit_and}
use Rattle.bitflags.specs.Sets.{known_bits}

-- names, each with its number before it
abbrev pub numbered : {N X : Type 0} → (X → N) → List X → List (N × X)
numbered number names = map (λ name. (number name, name)) names

-- what stands beside this number in a table
abbrev pub entry_of : {N X : Type 0} → (N → N → Bool) → List (N × X) → N → Option X
entry_of same [] number = None
entry_of same (row ∷ rows) number = if same number row.0 then Some row.1 else entry_of same rows number

-- A number is read as the name that stands beside it; where there is none, the refusal carries the number.
abbrev pub ReadsAs : {N X E : Type 0} → Option X → (E → N) → N → Result X E → Type 0
ReadsAs entry carried number (Ok name) = entry ≡ Some name
ReadsAs entry carried number (Err unknown) = (entry ≡ None) × (carried unknown ≡ number)

-- A table and the numbers of its names say the same: each name's number is read as it, and so is no other number.
abbrev pub IsTable : {N X : Type 0} → (X → N) → (N → Option X) → Type 0
IsTable {N} {X} number named =
    ((name : X) → named (number name) ≡ Some name)
    × ((n : N) (name : X) → named n ≡ Some name → n ≡ number name)

-- Bits that all have a name in the table are read as the set of these bits; other bits are refused,
-- and the refusal carries them.
abbrev pub ReadsFlags : {X E : Type 0} → List (List ℕ × ℕ) → (X → ℕ) → (E → ℕ) → ℕ → Result X E → Type 0
ReadsFlags table bits_of carried bits (Ok flags) = (bit_and bits (known_bits table) ≡ bits) × (bits_of flags ≡ bits)
ReadsFlags table bits_of carried bits (Err unknown) = (bit_and bits (known_bits table) ≢ bits) ×
    (carried unknown ≡ bits)

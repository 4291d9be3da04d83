-- The boolean that a value holds.
-- MySQL Reference Manual, "Boolean Literals".
use Rattle.std.specs.Prelude.{ℕ, pos, Bool, true, false, ◌==◌, [], ◌∷◌, Option, Some, None, if◌then◌else◌}
use Rattle.mysql_cells.specs.declared.value.Value.{Value}
use Rattle.mysql_cells.specs.declared.value.Value.TheVariants.{Bytes, Int, UInt}

-- one number is false, another true, and any other none of them
abbrev pub boolean_among : ℕ → ℕ → ℕ → Option Bool
boolean_among as_false as_true n = if n == as_false then Some false else (if n == as_true then Some true else None)

-- The boolean that a value holds: 0 or 1, as a number or as its text.
abbrev pub boolean_of : Value → Option Bool
boolean_of (Int (pos n)) = boolean_among 0 1 n
boolean_of (UInt n) = boolean_among 0 1 n
boolean_of (Bytes (b ∷ [])) = boolean_among 0x30 0x31 b
boolean_of _ = None

-- The form of a text that C reads.
use Rattle.std.specs.Prelude.{ℕ, Bool, false, ◌==◌, List, [], ◌∷◌, if◌then◌else◌}

-- a NUL byte stands at the end, and nowhere else
abbrev pub ends_at_nul : List ℕ → Bool
ends_at_nul [] = false
ends_at_nul (b ∷ []) = b == 0
ends_at_nul (b ∷ (c ∷ rest)) = if b == 0 then false else ends_at_nul (c ∷ rest)

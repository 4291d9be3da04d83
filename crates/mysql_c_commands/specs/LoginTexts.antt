-- Texts that C gives.
use Rattle.std.specs.Prelude.{ℕ, Bool, List, [], ◌∷◌, Option, Some, None}
use Rattle.std.specs.List.{list_any}
use Rattle.mysql_buf.specs.Reading.{is_zero}

-- a text, or none where it has no bytes
abbrev pub given : List ℕ → Option (List ℕ)
given [] = None
given (byte ∷ bytes) = Some (byte ∷ bytes)

-- whether a zero byte is in a text, which would end it where a zero does
abbrev pub has_zero : List ℕ → Bool
has_zero text = list_any is_zero text

-- What the words of the command line mean.
use Rattle.std.specs.Prelude.{◌<◌, ◌≤◌, ◌^◌, ℕ, List}
use Rattle.std.specs.Str.Parse.{IsNumeral, digits_value}

-- the text is the id of a statement: digits alone, whose number 32 bits hold
abbrev pub IsId : List ℕ → Type 0
IsId text = IsNumeral 10 text × (digits_value 10 text < 2 ^ 32)

-- the text is a limit: digits alone, whose number is at least 4 and 64 bits hold
abbrev pub IsLimit : List ℕ → Type 0
IsLimit text = IsNumeral 10 text × (4 ≤ digits_value 10 text) × (digits_value 10 text < 2 ^ 64)

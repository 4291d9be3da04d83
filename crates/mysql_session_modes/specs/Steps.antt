-- Steps of a search for a word, one for each value of a byte's low five bits.
use Rattle.std.specs.Prelude.{ℕ, Bool, true, ◌&&◌, ◌%◌, nat_le, List, [], ◌∷◌, length, slice_index}
use Rattle.std.specs.List.{list_all}

-- No step is longer than the word.
abbrev pub are_within : List ℕ → List ℕ → Bool
are_within steps word = list_all (λ step. nat_le step (length word)) steps

-- From a letter a step goes at most as far as the letters behind it.
abbrev pub are_short : List ℕ → List ℕ → Bool
are_short steps [] = true
are_short steps (letter ∷ word) = nat_le (slice_index steps (letter % 32)) (length word) && are_short steps word

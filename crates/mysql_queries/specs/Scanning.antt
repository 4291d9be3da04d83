-- What stands at a place of a text.
-- MySQL Reference Manual, "String Literals".
use Rattle.std.specs.Prelude.{◌≡◌, ◌≢◌, ℕ, ◌+◌, ◌≤◌, Bool, true, not, ◌&&◌, ◌||◌, ◌==◌, List, [], ◌∷◌, ◌++◌, length}
use Rattle.std.specs.Prelude.{drop}
use Rattle.std.specs.Prelude.{slice_index}
use Rattle.std.specs.List.{AllByRecursion}
use Rattle.mysql_queries.specs.Tokens.{Inside, Byte, Escape, Doubled, backslash, inside_bytes, IsInside, Closes}
use Rattle.mysql_queries.specs.Tokens.{single_quote, is_quote, hash, dash, slash, star, colon, question, bracket}
use Rattle.mysql_queries.specs.Tokens.{dollar}
use Rattle.mysql_queries.specs.declared.strings.Part.{Part}
use Rattle.mysql_queries.specs.declared.strings.Part.TheVariants as parts

-- between quotes, at this place, one part of so many bytes
abbrev pub PartAt : (escapes : Bool) → ℕ → List ℕ → ℕ → ℕ → Type 0
PartAt escapes quote text at n = (part : Inside) × IsInside escapes quote part ×
    (n ≡ length (inside_bytes quote part)) ×
    (drop at text ≡ inside_bytes quote part ++ drop (at + n) text) × (at + n ≤ length text)

-- the byte at this place closes a quoted token
abbrev pub ClosesAt : (escapes : Bool) → ℕ → List ℕ → ℕ → Type 0
ClosesAt escapes quote text at = Closes escapes quote (slice_index text at ∷ []) (drop (at + 1) text)

-- a part between single quotes as the definitions have it
abbrev pub part_view : Part → Inside
part_view (parts.Byte b) = Byte b
part_view (parts.Escape b) = Escape b
part_view parts.Doubled = Doubled

-- between single quotes, at this place, this part
abbrev pub IsPartAt : (escapes : Bool) → List ℕ → ℕ → Inside → Type 0
IsPartAt escapes text at part =
    let n = length (inside_bytes single_quote part) in
    IsInside escapes single_quote part ×
    (drop at text ≡ inside_bytes single_quote part ++ drop (at + n) text) ×
    (at + n ≤ length text)

-- bytes between single quotes that stand for themselves: neither the quote nor, where there are
-- escapes, a backslash
abbrev pub IsRun : (escapes : Bool) → List ℕ → Type 0
IsRun escapes bytes = AllByRecursion (λ b. (b ≢ single_quote) × (escapes ≡ true → b ≢ backslash)) bytes

-- a byte that is a token by itself whatever follows it: it begins no string, quoted identifier,
-- comment or name, ends no comment, and is no question mark
abbrev pub is_plain : ℕ → Bool
is_plain b =
    not (is_quote b || (b == hash) || (b == dash) || (b == slash) || (b == star) || (b == colon) || (b == question))

-- such a byte at which no server reads otherwise, whatever follows it
abbrev pub is_quiet : ℕ → Bool
is_quiet b = is_plain b && not ((b == bracket) || (b == dollar))

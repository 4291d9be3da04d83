-- The forms in which constants and named values are read.
-- (MySQL: Client/Server Protocol, "Protocol Basics: Basic Data Types".)
-- A reading takes bytes from the front: x.0 is what was read and x.1 the bytes left; the first refusal counts.
use Rattle.std.specs.Prelude.{◌==◌, ℕ, if◌then◌else◌, List, Option, Some, None, Result, Ok, Err}
use Rattle.std.specs.Str.{bytes_eq}
use Rattle.mysql_fields.specs.Forms.{bytes_at, fixed_number_at}
use Rattle.mysql_fields.specs.Wire.{Reading, ◌>>=◌}
use Rattle.mysql_fields.specs.declared.error.WireError.{WireError}
use Rattle.mysql_fields.specs.declared.error.WireError.TheVariants.{BadConstant, UnknownValue}

-- a number that is the constant
abbrev pub is_constant : ℕ → ℕ × List ℕ → Reading ℕ
is_constant n x = if x.0 == n then Ok x else Err BadConstant

-- a constant of so many bytes
abbrev pub constant_at : ℕ → ℕ → List ℕ → Reading ℕ
constant_at size n bytes = fixed_number_at size bytes >>= is_constant n

-- bytes of any value
abbrev pub ignored : List ℕ × List ℕ → Reading (Unit {0})
ignored x = Ok (tt, x.1)

-- n bytes of any value
abbrev pub skipped_at : ℕ → List ℕ → Reading (Unit {0})
skipped_at n bytes = bytes_at n bytes >>= ignored

-- bytes that are these
abbrev pub is_text : List ℕ → List ℕ × List ℕ → Reading (Unit {0})
is_text text x = if bytes_eq x.0 text then Ok (tt, x.1) else Err BadConstant

-- a constant text of n bytes
abbrev pub text_constant_at : ℕ → List ℕ → List ℕ → Reading (Unit {0})
text_constant_at n text bytes = bytes_at n bytes >>= is_text text

-- the value that has this number
abbrev pub or_unknown : {Y : Type 0} → Option Y → List ℕ → Reading Y
or_unknown None rest = Err UnknownValue
or_unknown (Some y) rest = Ok (y, rest)

-- the value that a number names, or the refusal
abbrev pub known : {Y : Type 0} → Option Y → Result Y WireError
known None = Err UnknownValue
known (Some y) = Ok y

-- a value by its number
abbrev pub named_at : {X Y : Type 0} → (X → Option Y) → (List ℕ → Reading X) → List ℕ → Reading Y
named_at named read_at bytes = read_at bytes >>= λ x. or_unknown (named x.0) x.1

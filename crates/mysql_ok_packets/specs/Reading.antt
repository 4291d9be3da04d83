-- Reading elements that stand one after another to the end, and what a call answers that tells no rest.
-- (MySQL: Client/Server Protocol, "OK_Packet", 'Session State Information'.)
-- A reading takes bytes from the front: x.0 is what was read and x.1 the bytes left; the first refusal counts.
use Rattle.std.specs.Prelude.{◌≡◌, ◌≢◌, ◌<◌, ℕ, zero, suc, List, [], ◌∷◌, length, Result, Ok, Err}
use Rattle.mysql_fields.specs.Wire.{Reading, ◌>>=◌}
use Rattle.mysql_fields.specs.declared.error.WireError.{WireError}
use Rattle.mysql_fields.specs.declared.error.WireError.TheVariants.{Memory, UnexpectedEof}

-- each element takes a byte at least
abbrev pub EatsBytes : {Y : Type 0} → (List ℕ → Reading Y) → Type 0
EatsBytes {Y} read_at = (bytes : List ℕ) (p : Y × List ℕ) → read_at bytes ≡ Ok p → length p.1 < length bytes

-- the elements that stand one after another to the end, at most as many as the number says
unfoldable pub at_most_at : {Y : Type 0} → (List ℕ → Reading Y) → ℕ → List ℕ → Reading (List Y)
at_most_at read_at most [] = Ok ([], [])
at_most_at read_at zero (b ∷ bytes) = Err UnexpectedEof
at_most_at read_at (suc most) (b ∷ bytes) = do
  first ← read_at (b ∷ bytes)
  others ← at_most_at read_at most first.1
  Ok (first.0 ∷ others.0, others.1)

-- all elements to the end; each has at least one byte
abbrev pub to_end_at : {Y : Type 0} → (List ℕ → Reading Y) → List ℕ → Reading (List Y)
to_end_at read_at bytes = at_most_at read_at (length bytes) bytes

-- what stands first, without the bytes behind it
abbrev pub value_at : {Y : Type 0} → Reading Y → Result Y WireError
value_at reading = reading >>= λ x. Ok x.0

-- a call answers this value, seen by view, or this refusal; want of memory may stand in place of any answer
abbrev pub GivesValue : {X Y : Type 0} → (X → Y) → Result X WireError → Result Y WireError → Type 0
GivesValue view (Ok x) answer = answer ≡ Ok (view x)
GivesValue view (Err e) answer = e ≢ Memory → answer ≡ Err e

-- What a read answers and what a write appends.
-- (MySQL: Client/Server Protocol, "Protocol Basics: Basic Data Types".)
use Rattle.std.specs.Prelude.{◌≡◌, ◌≢◌, ℕ, ◌≤◌, nat_lt, ⊤, Bool, true, false, if◌then◌else◌, List, ◌++◌, length, drop}
use Rattle.std.specs.Prelude.{Option, Some, None, Result, Ok, Err}
use Rattle.mysql_fields.specs.declared.error.WireError.{WireError}
use Rattle.mysql_fields.specs.declared.error.WireError.TheVariants.{UnexpectedEof, Memory}

-- the value that stands first in a list of bytes and the bytes after it, or why none stands there
abbrev pub Reading : Type 0 → Type 0
Reading X = Result (X × List ℕ) WireError

-- a call refused with e where reading does; want of memory may stand in place of any answer
abbrev pub Refuses : {Y : Type 0} → WireError → Reading Y → Type 0
Refuses e reading = e ≢ Memory → reading ≡ Err e

-- a call gave what reading gives, the value seen by view and what is left; or the same refusal
abbrev pub GivesPart : {X Y : Type 0} → (X → Y) → List ℕ → Result X WireError → Reading Y → Type 0
GivesPart view new (Ok x) reading = reading ≡ Ok (view x, new)
GivesPart view new (Err e) reading = Refuses e reading

-- a call that asks for no memory gave what reading gives, the value seen by view and what is left; or its refusal
abbrev pub TellsPart : {X Y : Type 0} → (X → Y) → List ℕ → Result X WireError → Reading Y → Type 0
TellsPart view new (Ok x) reading = reading ≡ Ok (view x, new)
TellsPart view new (Err e) reading = reading ≡ Err e

-- a call gave what reading gives: the value, seen by view, and what is left; or the same refusal, and all is left
abbrev pub Gives : {X Y : Type 0} → (X → Y) → List ℕ → List ℕ → Result X WireError → Reading Y → Type 0
Gives view old new (Ok x) reading = reading ≡ Ok (view x, new)
Gives view old new (Err e) reading = Refuses e reading × (new ≡ old)

-- a call that asks for no memory gave what reading gives: the value, seen by view, and what is left; or its refusal,
-- and all is left
abbrev pub Tells : {X Y : Type 0} → (X → Y) → List ℕ → List ℕ → Result X WireError → Reading Y → Type 0
Tells view old new (Ok x) reading = reading ≡ Ok (view x, new)
Tells view old new (Err e) reading = (reading ≡ Err e) × (new ≡ old)

-- the one or the other, by whether the call may ask for memory
abbrev pub Answers : {X Y : Type 0} → Bool → (X → Y) → List ℕ → List ℕ → Result X WireError → Reading Y → Type 0
Answers true view old new result reading = Gives view old new result reading
Answers false view old new result reading = Tells view old new result reading

-- the one or the other of a part of a packet, by whether the call may ask for memory
abbrev pub AnswersPart : {X Y : Type 0} → Bool → (X → Y) → List ℕ → Result X WireError → Reading Y → Type 0
AnswersPart true view new result reading = GivesPart view new result reading
AnswersPart false view new result reading = TellsPart view new result reading

-- these are too few bytes for a value of that size, where there is one
abbrev pub lacks : Option ℕ → ℕ → Bool
lacks None len = false
lacks (Some n) len = nat_lt len n

-- what stands where n bytes are there; fewer are refused before they are looked at
abbrev pub from_block : {X : Type 0} → ℕ → (List ℕ → Reading X) → List ℕ → Reading X
from_block n read_at bytes = if lacks (Some n) (length bytes) then Err UnexpectedEof else read_at bytes

-- these are enough bytes for a value of that size, where there is one
abbrev pub Suffices : Option ℕ → ℕ → Type 0
Suffices None len = ⊤
Suffices (Some n) len = n ≤ len

-- where there is a size, so many bytes are needed and eaten
pub record IsSized {X : Type 0} (size : Option ℕ) (read_at : List ℕ → Reading X) : Type 0 where
  pub needed : (bytes : List ℕ) → lacks size (length bytes) ≡ true → read_at bytes ≡ Err UnexpectedEof
  pub eaten : (n : ℕ) (bytes rest : List ℕ) (x : X) → size ≡ Some n → read_at bytes ≡ Ok (x, rest) → rest ≡ drop n bytes

-- a call appended exactly these bytes, or refused and left the buffer as it was
abbrev pub Appends : {E : Type 0} → Result (Unit {0}) E → List ℕ → List ℕ → List ℕ → Type 0
Appends (Ok _) old new bytes = new ≡ old ++ bytes
Appends (Err _) old new bytes = new ≡ old

-- one reading after another; the first refusal counts
infixl 10 ◌>>=◌
abbrev pub ◌>>=◌ : {A B E : Type 0} → Result A E → (A → Result B E) → Result B E
(Ok x) >>= f = f x
(Err e) >>= f = Err e

-- what stands first, or the end of the bytes
abbrev pub or_end : {X : Type 0} → Option X → Result X WireError
or_end None = Err UnexpectedEof
or_end (Some x) = Ok x

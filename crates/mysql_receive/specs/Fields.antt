-- Reading bytes from left to right, field by field, with the first fault that is met.
-- MySQL: Client/Server Protocol, "Protocol::FixedLengthInteger".
use Rattle.std.specs.Prelude.{ℕ, Bool, true, false, List, Result, Ok, Err}
use Rattle.std.specs.Option.{ok_or}
use Rattle.mysql_wire.specs.Reading as buffer
use Rattle.mysql_wire.specs.Wire.{◌>>=◌}

-- goes on where the test holds, and is that fault where it doesn't
abbrev pub must : {F : Type 0} → F → Bool → Result ℕ F
must f true = Ok 0
must f false = Err f

-- goes on where what stands before it holds
infixl 10 ◌>>◌
abbrev pub ◌>>◌ : {A B F : Type 0} → Result A F → Result B F → Result B F
first >> next = first >>= λ _. next

-- the first n bytes and the rest, or the fault where fewer are there
abbrev pub bytes_or : {F : Type 0} → F → ℕ → List ℕ → Result (List ℕ × List ℕ) F
bytes_or f n bytes = ok_or (buffer.bytes_at n bytes) f

-- the number in the first n bytes, the lowest first, and the rest
abbrev pub number_or : {F : Type 0} → F → ℕ → List ℕ → Result (ℕ × List ℕ) F
number_or f n bytes = ok_or (buffer.little_at n bytes) f

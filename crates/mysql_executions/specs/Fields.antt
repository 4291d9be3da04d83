-- Reading bytes from left to right, field by field; there is nothing where one isn't laid out so.
-- MySQL: Client/Server Protocol, "Protocol Basics: Integer Types" and "String Types". x.0 is what
-- was read and x.1 the bytes left.
use Rattle.std.specs.Prelude.{ℕ, ◌+◌, Bool, true, false, List, [], ◌∷◌, Option, Some, None}
use Rattle.mysql_buf.specs.Reading as buffer

-- one reading after another
infixl 10 ◌>>=◌
abbrev pub ◌>>=◌ : {A B : Type 0} → Option A → (A → Option B) → Option B
None >>= next = None
(Some x) >>= next = next x

-- goes on where the test holds
abbrev pub must : Bool → Option ℕ
must true = Some 0
must false = None

-- goes on where what stands before it is there
infixl 10 ◌>>◌
abbrev pub ◌>>◌ : {A B : Type 0} → Option A → Option B → Option B
first >> next = first >>= λ _. next

-- the number in the first n bytes, the lowest first
abbrev pub number_at : ℕ → List ℕ → Option (ℕ × List ℕ)
number_at n bytes = buffer.little_at n bytes

-- something for each element of a list, one after another, by its place: the first one's is given
unfoldable pub each_at : {X Y : Type 0} → (ℕ → X → List ℕ → Option (Y × List ℕ)) → (place : ℕ) → List X →
    List ℕ → Option (List Y × List ℕ)
each_at read_at place [] bytes = Some ([], bytes)
each_at read_at place (x ∷ xs) bytes = do
  first ← read_at place x bytes
  others ← each_at read_at (place + 1) xs first.1
  Some (first.0 ∷ others.0, others.1)

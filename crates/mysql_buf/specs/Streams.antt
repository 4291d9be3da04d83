-- What a reader gives of the bytes of a stream, where they are known.
-- (MySQL: Client/Server Protocol, "Protocol::LengthEncodedInteger" and "Protocol::LengthEncodedString".)
use Rattle.std.specs.Prelude.{◌≡◌, ◌⊎◌, ℕ, ◌==◌, if◌then◌else◌, List, [], ◌∷◌, Option, None, Some, ⊤}
use Rattle.std.specs.Io.KnownBytes.{Keeps}
use Rattle.mysql_buf.specs.Reading.{lenenc_int_at, bytes_at, then_at}

-- a length-encoded number, where fb and ff begin none
abbrev pub begun_lenenc_int_at : List ℕ → Option (ℕ × List ℕ)
begun_lenenc_int_at [] = None
begun_lenenc_int_at (b ∷ bs) = if b == 251 then None else if b == 255 then None else lenenc_int_at (b ∷ bs)

-- such a number and that many bytes
abbrev pub begun_lenenc_str_at : List ℕ → Option (List ℕ × List ℕ)
begun_lenenc_str_at bytes = then_at (begun_lenenc_int_at bytes) bytes_at

-- a read took what stands first in the stream, where its bytes are known
abbrev pub Takes : {X : Type 0} → (List ℕ → Option (X × List ℕ)) → Option (List ℕ) → Option (List ℕ) → X → Type 0
Takes at None new x = ⊤
Takes at (Some old) None x = ⊥
Takes at (Some old) (Some new) x = at old ≡ Some (x, new)

-- a refusal before bytes that begin with fb or ff: the reader's own one, which takes none of them,
-- or such a one, once the first was read
abbrev pub RefusesToBegin : Option (List ℕ) → Option (List ℕ) → Type 0 → Type 0
RefusesToBegin None new such = ⊤
RefusesToBegin (Some []) new such = ⊤
RefusesToBegin (Some (b ∷ bs)) new such = (b ≡ 251) ⊎ (b ≡ 255) → Keeps (Some (b ∷ bs)) new ⊎ ((new ≡ Some bs) × such)

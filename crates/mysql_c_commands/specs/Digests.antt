-- What a call says that appends the digest of a statement's text.
-- MySQL Reference Manual, "Performance Schema Statement Digests and Sampling".
use Rattle.std.specs.Prelude.{◌≡◌, ◌⊎◌, ℕ, List, ◌++◌}
use Rattle.mysql_digests.specs.Digest.{IsDigest}
use Rattle.mysql_values.specs.Mode.{Mode}
use Rattle.mysql_c_handles.specs.declared.code.Code.TheVariants.{Done, Memory}
use Rattle.mysql_c_handles.specs.declared.object.Object.{Object}
use Rattle.mysql_c_handles.specs.declared.object.Object.TheVariants as object
use Rattle.mysql_c_handles.specs.Bytes.{IsBytes}
use Rattle.mysql_c_handles.specs.Codes.{Stays, code_number}

-- the digest of a text, as a server in the mode reads it, and nothing else stands behind the old bytes
pub record HasDigestBehind (mode : Mode) (text old new : List ℕ) : Type 0 where
  pub digest : List ℕ
  pub is_digest : IsDigest mode text digest
  pub behind : new ≡ old ++ digest

-- the digest stands behind the old bytes; or memory was refused, and these stay
abbrev pub PutsDigest : Mode → List ℕ → List ℕ → ℕ → List ℕ → Type 0
PutsDigest mode text old number new =
    ((number ≡ code_number Done) × HasDigestBehind mode text old new)
    ⊎ ((number ≡ code_number Memory) × (new ≡ old))

-- the digest is appended to the bytes that a handle stands for, or these stay
abbrev pub PutsDigestTo : Mode → List ℕ → Object → ℕ → Object → Type 0
PutsDigestTo mode text (object.Bytes old) number new = IsBytes new (PutsDigest mode text old.items number)
PutsDigestTo mode text held number new = Stays held number new

-- Writing what stands for bytes, block by block.
use Rattle.std.proofs.Common.{◌≡◌, ℕ, List, ◌++◌, flat_map}

-- What was appended behind `old` stands for all but the rest of the bytes.
pub record IsEscaped (f : ℕ → List ℕ) (old out bytes rest : List ℕ) : Type 0 where
  pub written : List ℕ
  pub appended : out ≡ old ++ written
  pub onward : flat_map f bytes ≡ written ++ flat_map f rest

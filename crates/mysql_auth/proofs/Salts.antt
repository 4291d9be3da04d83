-- The salt of a packet for PARSEC.
use Rattle.std.proofs.Common.{◌≡◌, ℕ, ◌*◌, ◌%◌, ◌-◌, ◌^◌, ◌≤◌, List, drop, length, slice_index_or, Some, refl, ap, ◌∙◌}
use Rattle.std.proofs.Common.{arith}
use Rattle.std.proofs.Math.Pow.{pow_mono}
use Rattle.std.proofs.lemmas.Bool.{le-leb}
use Rattle.mysql_auth.specs.Plugins.{parsec_salt}

-- 1024 times two to a factor of at most 20 fits in 32 bits
fits : (n : ℕ) → n ≤ 20 → 1024 * 2 ^ n % 4294967296 ≡ 1024 * 2 ^ n
fits n h = let top = pow_mono {i = n} {j = 20} h in omega arith

pub salt_is : (packet salt : List ℕ) → length packet ≡ 20 → slice_index_or packet 0 0 ≡ 80 →
    slice_index_or packet 1 0 ≤ 20 → salt ≡ drop (length packet - 18) packet
    → parsec_salt packet ≡ Some (1024 * 2 ^ slice_index_or packet 1 0 % 4294967296, salt)
salt_is packet salt len first factor is =
    let rest : salt ≡ drop 2 packet = is ∙ ap (λ (k : ℕ). drop (k - 18) packet) len in
    rw (len, first, le-leb (slice_index_or packet 1 0) 20 factor, fits (slice_index_or packet 1 0) factor, rest) refl

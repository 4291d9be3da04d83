-- A table of bytes with a `1` at each byte that passes a test, and a `0` at each other.
use Rattle.std.proofs.Common.{◌≡◌, ℕ, ◌==◌, ◌<◌, Bool, true, false, List, map, cond, get_or, refl, ap, ◌∙◌, arith}
use Rattle.std.proofs.lemmas.List.FromFn.{get_or-map-range_with_len}
use Rattle.std.specs.List.{range_with_len}

abbrev pub mark : (ℕ → Bool) → ℕ → ℕ
mark passes b = cond (passes b) 0x31 0x30

marked : (t : Bool) → (cond t 0x31 0x30 == 0x31) ≡ t
marked true = refl
marked false = refl

pub read : (passes : ℕ → Bool) (table : List ℕ) (b : ℕ) → table ≡
    map (mark passes) (range_with_len 0 256) → b < 256 → (get_or table b 0 == 0x31) ≡ passes b
read passes table b e h =
    ap (λ (n : ℕ). n == 0x31) (ap (λ t. get_or t b 0) e ∙
    get_or-map-range_with_len (mark passes) 0 256 b b 0 h (omega arith))
    ∙ marked (passes b)

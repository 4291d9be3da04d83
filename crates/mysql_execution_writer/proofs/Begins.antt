-- What stood before stands in front of what is appended.
use Rattle.std.proofs.Common.{◌≡◌, ℕ, ◌≤◌, List, ◌++◌, length, take, ap, ◌∙◌, arith, length-take}
use Rattle.std.proofs.lemmas.List.{take-append-le}

pub begins_more : (old mid more new : List ℕ) → new ≡ mid ++ more → take (length old) mid ≡ old →
    take (length old) new ≡ old
begins_more old mid more new is first =
    let le : length old ≤ length mid = omega (arith, ap length first, length-take (length old) mid) in
    ap (λ (l : List ℕ). take (length old) l) is ∙ take-append-le (length old) mid more le ∙ first

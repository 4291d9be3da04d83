-- Where no placeholder is the first that stands apart, each stands alone.
use Rattle.std.proofs.Common.{◌≡◌, ℕ, ◌+◌, true, not, List, [], ◌∷◌, sym, inl, inr, Option, Some, None, IfNone}
use Rattle.std.specs.List.{AllByRecursion, position_from}
use Rattle.mysql_queries.specs.Queries.{first_not_alone}
use Rattle.mysql_queries.specs.declared.placeholders.Place.{Place}
use Rattle.mysql_queries.proofs.FirstBytes.{bool_tells}

all_alone_from : (i : ℕ) (places : List Place) → position_from (λ place. not place.alone) i places ≡
    None → AllByRecursion (λ place. place.alone ≡ true) places
all_alone_from i [] h = tt
all_alone_from i (p ∷ places) h = elim (bool_tells p.alone) [
  | inl a ↦ (let k : position_from (λ place. not place.alone) (i + 1) places ≡ None = rw a at h in
      (a, all_alone_from (i + 1) places k))
  | inr a ↦ (let k : Some i ≡ None = rw a at h in cc)
]

pub none_apart : (found : Option ℕ) (places : List Place) → found ≡ first_not_alone places →
    IfNone found (AllByRecursion (λ place. place.alone ≡ true) places)
none_apart None places h = all_alone_from 0 places (sym h)
none_apart (Some place) places h = tt

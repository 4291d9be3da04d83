-- What reading a UUID answers.
use Rattle.std.proofs.Common.{◌≡◌, ℕ, List, Option, Some, None, Ok, Err, refl, ap}
use Rattle.std.specs.Option.{ok_or}
use Rattle.mysql_replication.specs.declared.error.SidError.TheVariants.{BadUuid}

pub some_uuid : (o : Option (List ℕ)) (u : List ℕ) → Some u ≡ o → Ok u ≡ ok_or o BadUuid
some_uuid o u e = ap (λ (x : Option (List ℕ)). ok_or x BadUuid) e

pub none_uuid : (o : Option (List ℕ)) → ((u : List ℕ) × (o ≡ Some u) → ⊥) → Err BadUuid ≡ ok_or o BadUuid
none_uuid None never = refl
none_uuid (Some u) never = absurd (never (u, refl))

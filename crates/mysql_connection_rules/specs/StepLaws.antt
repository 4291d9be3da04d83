-- What a step says, it says by its phase.
use Rattle.std.proofs.Common.{◌≡◌, ℕ, List, Ok, Err}
use Rattle.mysql_connection_rules.specs.declared.fault.Fault.{Fault}
use Rattle.mysql_connection_rules.specs.Events.{Event}
use Rattle.mysql_connection_rules.specs.Standing.{Standing}
use Rattle.mysql_connection_rules.specs.Steps.{in_turn, step}

pub step_said : (s : Standing) (payload : List ℕ) (event : Event) (mid : Standing) → step s payload ≡ Ok (event, mid) →
    in_turn s.phase s payload ≡ Ok (event, mid)
unfolding step
step_said s payload event mid h = h

-- the other way round
pub step_says : (s : Standing) (payload : List ℕ) (event : Event) (leaves : Standing) →
    in_turn s.phase s payload ≡ Ok (event, leaves) → step s payload ≡ Ok (event, leaves)
unfolding step
step_says s payload event leaves h = h

pub step_fails : (s : Standing) (payload : List ℕ) (fault : Fault) →
    in_turn s.phase s payload ≡ Err fault → step s payload ≡ Err fault
unfolding step
step_fails s payload fault h = h

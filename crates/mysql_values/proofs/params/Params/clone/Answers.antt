use Rattle.std.proofs.Common.{[], ◌∷◌, refl}
use Rattle.mysql_values.proofs.Cloned.{values_alike}
use Rattle.mysql_values.proofs.params.Params.clone.Goals as goal

pub returns-in_ok-clone-in-Named : goal.returns-in_ok-clone-in-Named
returns-in_ok-clone-in-Named c = elim [
  | [] ↦ rw c.in-Named.is refl
  | name ∷ names ↦ rw c.in-Named.is
      (values_alike c.in-Named.entries.entries c.in_ok-clone-in-Named.field-0.entries (name ∷
      names) c.in_ok-clone-in-Named.ensures.cases)
]

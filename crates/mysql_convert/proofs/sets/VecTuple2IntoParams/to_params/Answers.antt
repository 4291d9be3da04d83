use Rattle.std.proofs.Common.{◌≡◌, ◌⊎◌, IfErr, IfOk, OnOk, None, Some, map, subst}
use Rattle.mysql_convert.specs.Sets.{IsMadeOf, set_cause}
use Rattle.mysql_convert.specs.Sets.Parts.{ByName}
use Rattle.mysql_values.specs.declared.params.SetError.TheVariants as set_error
use Rattle.mysql_convert.proofs.sets.VecTuple2IntoParams.to_params.Goals as goal

pub returns-clause-ok : goal.returns-clause-ok
returns-clause-ok g c = subst
    (λ pairs. IfOk c.named_set.result
    (IsMadeOf (ByName (map (λ pair. (g.N.AsSlice.items pair.0, g.V.ToValue.as_value pair.1))
    pairs)))) c.deref.ensures.value c.named_set.ensures.ok

pub returns-clause-err : goal.returns-clause-err
returns-clause-err g c = subst
    (λ pairs. IfErr c.named_set.result (λ e. (e ≡ set_error.Memory) ⊎
    (set_cause (ByName (map (λ pair. (g.N.AsSlice.items pair.0, g.V.ToValue.as_value pair.1))
    pairs)) ≡ Some e))) c.deref.ensures.value c.named_set.ensures.err

pub returns-clause-none : goal.returns-clause-none
returns-clause-none g c =
    subst (λ pairs. OnOk c.named_set.result
    (set_cause (ByName (map (λ pair. (g.N.AsSlice.items pair.0, g.V.ToValue.as_value pair.1))
    pairs)) ≡ None)) c.deref.ensures.value c.named_set.ensures.none

use Rattle.std.proofs.Common.{map, sym, refl, subst}
use Rattle.mysql_values.specs.Params.{IsPositional}
use Rattle.mysql_values.specs.declared.params.Params.TheVariants.{Positional}
use Rattle.mysql_values.proofs.params.Params.into_positional.Goals as goal

pub returns-in_ok-copies_of-in-Named-clause-ok : goal.returns-in_ok-copies_of-in-Named-clause-ok
returns-in_ok-copies_of-in-Named-clause-ok c =
    subst (λ y. IsPositional (map (λ name. name.items) c.args.named_params.now) y
    (Positional c.in_ok-copies_of-in-Named.field-0)) (sym c.in-Named.is)
    (c.in_ok-copies_of-in-Named.field-0, refl, c.in_ok-copies_of-in-Named.ensures.ok)

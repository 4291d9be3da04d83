use Rattle.std.proofs.Common.{◌≡◌, ◌++◌, ◌+◌, Some, map, length, sym, ap, ◌∙◌, rules, arith}
use Rattle.mysql_values.specs.declared.params.SetError.{SetError}
use Rattle.mysql_convert.specs.Sets.{too_long}
use Rattle.mysql_convert.proofs.Places.{behind_long, front_long, none_long}
use Rattle.mysql_convert.proofs.sets.set_of_elements.Goals as goal

pub returns-in_err-push_to-clause-err : goal.returns-in_err-push_to-clause-err
returns-in_err-push_to-clause-err g c =
    let f : (e : SetError) → too_long 0 (g.E.Elements.as_values c.args.first.now) ≡ Some e →
    too_long 0 (g.E.Elements.as_values c.args.first.now ++
    g.F.Elements.as_values c.args.second.now) ≡ Some e =
    front_long 0 (g.E.Elements.as_values c.args.first.now) (g.F.Elements.as_values c.args.second.now) in
    grind (arith, f)

pub returns-in_err-push_to-2-clause-err : goal.returns-in_err-push_to-2-clause-err
returns-in_err-push_to-2-clause-err g c =
    let h : map Some c.push_to.new.values.items ≡ g.E.Elements.as_values c.args.first.now = search rules in
    let f : (e : SetError) → too_long (0 + length c.push_to.new.values.items)
    (g.F.Elements.as_values c.args.second.now) ≡ Some e →
    too_long 0 (g.E.Elements.as_values c.args.first.now ++
    g.F.Elements.as_values c.args.second.now) ≡ Some e =
    λ e. behind_long 0 c.push_to.new.values.items (g.E.Elements.as_values c.args.first.now)
    (g.F.Elements.as_values c.args.second.now) e h in
    grind (arith, f)

pub returns-clause-none : goal.returns-clause-none
returns-clause-none g c =
    let h : map Some c.push_to.new.values.items ≡ g.E.Elements.as_values c.args.first.now = search rules in
    none_long 0 (g.E.Elements.as_values c.args.first.now ++
    g.F.Elements.as_values c.args.second.now) c.push_to-2.new.values.items
    (ap (λ parts. parts ++ g.F.Elements.as_values c.args.second.now) (sym h) ∙ sym c.in_ok-push_to-2.ensures.ok)

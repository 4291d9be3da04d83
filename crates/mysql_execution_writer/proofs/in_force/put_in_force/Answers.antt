use Rattle.std.proofs.Common.{◌≡◌, ap, sym, ◌∙◌, Vec, ℕ, Global}
use Rattle.mysql_execution_writer.proofs.InForce.{bytes, can, own}
use Rattle.mysql_execution_writer.proofs.in_force.put_in_force.Goals as goal

pub returns-in-Ok : goal.returns-in-Ok
returns-in-Ok c =
    let done = c.in-Ok.ensures in
    let none = sym c.has_query_attributes.ensures ∙ c.if-has_query_attributes.false in
    let fits = c.fits_types.ensures c.if-not-fits_types.false in
    let whole : c.replace-whole.result.items ≡ c.args.out.now.items =
    ap (λ (v : Vec ℕ Global). v.items) c.replace-whole.ensures.value in (
      can c.args.capabilities c.args.parameters.now c.args.id c.args.values.now none fits
          (rw (← c.types.ensures) done.fits),
      own c.args.id c.args.values.now done.own,
      rw (
        bytes c.args.capabilities c.args.parameters.now c.args.id c.args.values.now none fits,
        ← c.types.ensures,
        ← whole,
      ) done.ok,
    )

use Rattle.std.proofs.Common.{◌∙◌, ℕ, nat_eq, sym, Vec}
use Rattle.std.specs.Cmp.Derive.Mapped.{pointwise-map}
use Rattle.std.specs.Cmp.Lexicographic.{pointwise}
use Rattle.std.specs.declared.alloc.Global.{Global}
use Rattle.mysql_bulk_builder.proofs.builder.same_names.Goals as goal

pub returns : goal.returns
returns c =
    c.eq.ensures ∙
    sym (pointwise-map (λ (name : Vec ℕ Global). name.items) (pointwise nat_eq)
    c.names_of.result.now c.names_of-2.result.now) ∙
    (λ i. pointwise (pointwise nat_eq) (c.names_of.ensures i) (c.names_of-2.ensures i))

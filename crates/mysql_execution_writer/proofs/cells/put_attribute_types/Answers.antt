use Rattle.std.proofs.Common.{◌++◌, List, ℕ, ap, ◌∙◌}
use Rattle.std.specs.List.{flat_map}
use Rattle.std.proofs.lemmas.List.{take_all}
use Rattle.mysql_executions.specs.declared.types.Attribute.{Attribute}
use Rattle.mysql_execution_writer.specs.Cells.{type_bytes}
use Rattle.mysql_execution_writer.proofs.Loops.{flat_of_map}
use Rattle.mysql_execution_writer.proofs.cells.put_attribute_types.Goals as goal

pub returns : goal.returns
returns c =
    c.loop-attribute.invariant
    ∙ ap (λ (l : List Attribute). c.args.out.now.items ++
    flat_map (λ a. type_bytes c.args.named a.bound_type) l)
    (take_all c.loop-attribute.attribute-index c.args.attributes.now
    c.loop-attribute-test.false)
    ∙ ap (λ (l : List ℕ). c.args.out.now.items ++
    l) (flat_of_map (type_bytes c.args.named) (λ a. a.bound_type) c.args.attributes.now)

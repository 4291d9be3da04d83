use Rattle.std.proofs.Common.{List, arith, subst}
use Rattle.std.specs.List.{AllByRecursion}
use Rattle.mysql_cells.specs.Values.{FitsFields}
use Rattle.mysql_cells.specs.declared.value.Value.{Value}
use Rattle.mysql_executions.specs.declared.types.Attribute.{Attribute}
use Rattle.mysql_connection_writer.specs.Fits.{FitsAttribute}
use Rattle.mysql_connection_writer.proofs.OwnValues.{all_counted, attribute_names, attribute_values}
use Rattle.mysql_connection_writer.proofs.own.execution_fits.Goals as goal

pub returns : goal.returns
returns c =
    let e = c.args.execution.now in
    let held : AllByRecursion (λ a. FitsAttribute a) e.attributes.items =
    subst (λ (xs : List Attribute). AllByRecursion (λ a. FitsAttribute a) xs) c.as_slice-2.ensures.value
    c.attributes_fit.ensures in
    record {
      statement = omega arith;
      flags = omega arith;
      iterations = omega arith;
      count = all_counted e.parameters.items e.attributes.items (omega arith);
      parameters = subst (λ (xs : List Value). AllByRecursion (λ value. FitsFields value) xs)
          c.as_slice.ensures.value c.all_fields_fit.ensures;
      attributes = attribute_values e.attributes.items held;
      names = c.own_names_fit.ensures;
      attribute_names = attribute_names e.attributes.items held;
    }

use Rattle.std.proofs.Common.{take}
use Rattle.std.specs.List.{AllByRecursion}
use Rattle.mysql_connection_writer.specs.Fits.{FitsAttribute}
use Rattle.mysql_connection_writer.proofs.own.attributes_fit.Given as goal

abbrev pub invariant-loop-attribute : goal.invariant-loop-attribute
invariant-loop-attribute l = AllByRecursion (λ attribute. FitsAttribute attribute) (take l.attribute-index l.attributes)

use Rattle.std.proofs.Common.{◌≡◌, Ok, map, take}
use Rattle.mysql_c_commands.specs.Adding.{parameter_value}
use Rattle.mysql_c_commands.proofs.parameter.values_of.Given as goal

abbrev pub invariant-loop-parameter : goal.invariant-loop-parameter
invariant-loop-parameter l = map (parameter_value l.bytes) (take l.parameter-index l.parameters) ≡ map Ok l.values.items

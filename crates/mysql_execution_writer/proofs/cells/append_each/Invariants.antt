use Rattle.std.proofs.Common.{◌≡◌, ◌++◌, drop, length, take}
use Rattle.mysql_executions.specs.Views.{types_by, types_of}
use Rattle.mysql_execution_writer.specs.Cells.{are_parameters, parameters_bytes}
use Rattle.mysql_execution_writer.proofs.cells.append_each.Given as goal

abbrev pub invariant-loop-place : goal.invariant-loop-place
invariant-loop-place l = record {
  fit : are_parameters l.s.long_data l.place (drop l.place (types_by (types_of l.own) l.s.types))
      (drop l.place l.values)
      ≡ are_parameters l.s.long_data 0 (types_by (types_of l.own) l.s.types) l.values;
  written : l.out.items ++ parameters_bytes l.s.long_data l.place
      (drop l.place (types_by (types_of l.own) l.s.types)) (drop l.place l.values)
      ≡ l.initial.out.items ++ parameters_bytes l.s.long_data 0 (types_by (types_of l.own) l.s.types) l.values;
  kept : take (length l.initial.out.items) l.out.items ≡ l.initial.out.items;
}

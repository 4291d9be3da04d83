use Rattle.std.proofs.Common.{◌≡◌, ◌++◌, [], drop, length, map, take}
use Rattle.mysql_execution_writer.specs.Cells.{are_parameters, as_read, parameters_bytes}
use Rattle.mysql_execution_writer.proofs.in_force.put_cells.Given as goal

abbrev pub invariant-loop-place : goal.invariant-loop-place
invariant-loop-place l = record {
  fit : are_parameters [] l.place (drop l.place l.types) (drop l.place l.values) ≡ are_parameters [] 0 l.types l.values;
  written : l.out.items ++ parameters_bytes [] l.place (drop l.place l.types) (drop l.place l.values)
      ≡ l.initial.out.items ++ parameters_bytes [] 0 l.types l.values;
  kept : take (length l.initial.out.items) l.out.items ≡ l.initial.out.items;
  own : map as_read (drop l.place l.values) ≡ drop l.place l.values → map as_read l.values ≡ l.values;
}

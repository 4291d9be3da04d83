use Rattle.std.proofs.Common.{◌≡◌, ◌≤◌, ◌-◌, length, vec_capacity}
use Rattle.mysql_field_lists.specs.ElementLaws.{with_front}
use Rattle.mysql_field_lists.specs.Lists.{elements_at}
use Rattle.mysql_cells.specs.Cells.{text_cell_at}
use Rattle.mysql_rows.specs.Rows.{some_cells}
use Rattle.mysql_rows.proofs.deserializer.text_cells.Given as goal

abbrev pub invariant-loop : goal.invariant-loop
invariant-loop l = record {
  cells : with_front l.cells.items
      (some_cells (elements_at text_cell_at (l.count - l.counter) l.rest.0.now)) ≡
      some_cells (elements_at text_cell_at l.count l.initial.rest.0.now);
  len : length l.cells.items ≡ l.counter;
  room : l.count ≤ vec_capacity l.cells;
}

use Rattle.std.proofs.Common.{◌≡◌, ◌-◌, length, map, true, vec_capacity}
use Rattle.std.specs.List.{list_all}
use Rattle.mysql_field_lists.specs.ElementLaws.{with_front}
use Rattle.mysql_field_lists.specs.Lists.{elements_at}
use Rattle.mysql_cells.specs.Cells.{text_cell_at}
use Rattle.mysql_row_refs.specs.Places.{IsTail, held, is_inside}
use Rattle.mysql_row_refs.proofs.rows.text_places.Given as goal

abbrev pub invariant-loop : goal.invariant-loop
invariant-loop l = record {
  cells : with_front (map (held l.payload) l.places.items)
      (elements_at text_cell_at (l.count - l.counter) l.rest.0.now) ≡
      elements_at text_cell_at l.count l.initial.rest.0.now;
  tail : IsTail l.payload l.rest.0.now;
  inside : list_all (is_inside l.payload) l.places.items ≡ true;
  len : length l.places.items ≡ l.counter;
  capacity : vec_capacity l.places ≡ vec_capacity l.initial.places;
}

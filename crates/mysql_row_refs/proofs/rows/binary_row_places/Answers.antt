use Rattle.byteorder.specs.Endian.{little_number}
use Rattle.mysql_row_refs.proofs.Tails.{first_tail, tail_of_tail}
use Rattle.mysql_row_refs.proofs.rows.binary_row_places.Goals as goal

pub binary_body_places-requires-clause-tail : goal.binary_body_places-requires-clause-tail
binary_body_places-requires-clause-tail c =
    tail_of_tail c.args.payload.now c.args.rest.now.0.now c.checked_eat_u8.new.self.0.now
    c.requires.tail (first_tail 1 (little_number 1) c.args.rest.now.0.now
    c.checked_eat_u8.new.self.0.now _ c.in-Some-eq0.ensures)

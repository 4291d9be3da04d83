use Rattle.std.proofs.Common.{◌≡◌, length, arith}
use Rattle.mysql_row_refs.proofs.Tails.{bytes_len, bytes_tail, tail_of_tail}
use Rattle.mysql_row_refs.proofs.rows.binary_body_places.Goals as goal

pub binary_places-requires-clause-bitmap : goal.binary_places-requires-clause-bitmap
binary_places-requires-clause-bitmap c =
    let len : length c.in-Some.bitmap.now ≡ c.bitmap_len-len.result =
    bytes_len c.bitmap_len-len.result c.args.rest.now.0.now c.in-Some.bitmap.now
    c.checked_eat.new.self.0.now c.in-Some.ensures in
    omega (arith, len, c.bitmap_len-len.ensures)

pub binary_places-requires-clause-tail : goal.binary_places-requires-clause-tail
binary_places-requires-clause-tail c =
    tail_of_tail c.args.payload.now c.args.rest.now.0.now c.checked_eat.new.self.0.now
    c.requires.tail (bytes_tail c.bitmap_len-len.result c.args.rest.now.0.now
    c.in-Some.bitmap.now c.checked_eat.new.self.0.now c.in-Some.ensures)

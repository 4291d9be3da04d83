use Rattle.std.proofs.Common.{◌≡◌, length, arith}
use Rattle.mysql_rows.proofs.Cells.{slice_len}
use Rattle.mysql_rows.proofs.deserializer.binary_row.Goals as goal

pub binary_cells-requires : goal.binary_cells-requires
binary_cells-requires g c =
    let len : length c.in-Some-checked_eat.bitmap.now ≡ c.bitmap_len-len.result =
    slice_len c.bitmap_len-len.result c.checked_eat.new.self.0.now
    c.in-Some-checked_eat.bitmap.now c.checked_eat-2.new.self.0.now
    c.in-Some-checked_eat.ensures in
    omega (arith, len, c.bitmap_len-len.ensures)

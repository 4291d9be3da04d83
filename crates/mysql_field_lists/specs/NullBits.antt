-- What the iterator over a bitmap has still to give.
-- MySQL: Client/Server Protocol, "Null-Bitmap".
use Rattle.std.specs.Prelude.{◌-◌, Bool, List}
use Rattle.mysql_field_lists.specs.NullBitmap.{bits_from}
use Rattle.mysql_field_lists.specs.declared.null_bits.NullBits.{NullBits}

abbrev pub bits_left : NullBits → List Bool
bits_left bits = bits_from bits.bytes.now bits.next (bits.end - bits.next)

-- Rows of which each value has to be read as itself.
use Rattle.std.proofs.Common.{◌≡◌, ◌^◌, List, [], ◌∷◌}
use Rattle.std.specs.Prelude.{pos}
use Rattle.mysql_cells.specs.declared.value.Value.{Value}
use Rattle.mysql_cells.specs.declared.value.Value.TheVariants.{Int, UInt}
use Rattle.mysql_witnesses.specs.Rows.{SmallUnsignedNumbersAreReadAsInt}

pub small_unsigned_numbers_are_read_as_int : SmallUnsignedNumbersAreReadAsInt
small_unsigned_numbers_are_read_as_int columns old new h =
    let e : ◌≡◌ {A = List Value} (Int (pos (2 ^ 62)) ∷ []) (UInt (2 ^ 62) ∷ []) = h.2 in cc

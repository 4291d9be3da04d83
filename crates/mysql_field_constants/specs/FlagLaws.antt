-- A set of named flags is the one of its bits.
use Rattle.std.proofs.Common.{◌≡◌, true, ℕ, List, Some, refl}
use Rattle.bitflags.specs.Sets.{Row}
use Rattle.mysql_field_constants.specs.Flags.{are_named, flags_named}

pub flags_named-back : {Y : Type 0} (table : List Row) (set_of : ℕ → Y) (bits : ℕ) →
    are_named table bits ≡ true → flags_named table set_of bits ≡ Some (set_of bits)
flags_named-back table set_of bits h = rw h refl

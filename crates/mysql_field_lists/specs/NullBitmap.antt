-- A bit for each column, 1 for NULL: eight to a byte, the lowest first, behind so many bits that stand for no column.
-- MySQL: Client/Server Protocol, "Null-Bitmap".
use Rattle.std.specs.Prelude.{◌≡◌, ℕ, ◌+◌, ◌*◌, ◌/◌, ◌%◌, ◌<◌, ◌==◌, Bool, List, length, map, slice_index}
use Rattle.std.specs.Prelude.{if◌then◌else◌}
use Rattle.std.specs.Int.{bit_at}
use Rattle.std.specs.List.{range_with_len}

-- how many bytes the bits of so many columns fill
abbrev pub bitmap_len : ℕ → ℕ → ℕ
bitmap_len offset columns = (columns + 7 + offset) / 8

-- whether the bit of this number is 1
abbrev pub has_bit : List ℕ → ℕ → Bool
has_bit bytes number = bit_at (slice_index bytes (number / 8)) (number % 8) == 1

-- whether a column is NULL
abbrev pub is_null_at : ℕ → List ℕ → ℕ → Bool
is_null_at offset bytes column = has_bit bytes (offset + column)

-- the bits of so many numbers, from this one on
abbrev pub bits_from : List ℕ → ℕ → ℕ → List Bool
bits_from bytes first count = map (has_bit bytes) (range_with_len first count)

-- whether each of the first so many columns is NULL
abbrev pub nulls_of : ℕ → List ℕ → ℕ → List Bool
nulls_of offset bytes columns = map (is_null_at offset bytes) (range_with_len 0 columns)

-- the bit of this number is set or cleared, and all others stay
pub record SetsBit (old new : List ℕ) (number : ℕ) (value : Bool) : Type 0 where
  pub len : length new ≡ length old
  pub bits : (other : ℕ) → other < 8 * length old → has_bit new other ≡
      (if other == number then value else has_bit old other)

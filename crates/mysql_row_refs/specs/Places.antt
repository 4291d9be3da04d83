-- What cells at places of a payload hold: the values that reading gives.
-- MySQL: Client/Server Protocol, "Text Resultset Row" and "Binary Protocol Value".
use Rattle.std.specs.Prelude.{◌≡◌, ℕ, ◌-◌, ◌≤◌, Bool, true, List, [], length, drop, Option, Some, None, is_some}
use Rattle.mysql_buf.specs.Reading.{lenenc_str_at, u8_str_at}
use Rattle.mysql_cells.specs.Cells.{date_of, time_of}
use Rattle.mysql_cells.specs.declared.value.Value.{Value}
use Rattle.mysql_cells.specs.declared.value.Value.TheVariants as value
use Rattle.mysql_row_refs.specs.declared.place.CellPlace.{CellPlace}
use Rattle.mysql_row_refs.specs.declared.place.CellPlace.TheVariants as place
use Rattle.mysql_row_refs.specs.declared.value_ref.ValueRef.{ValueRef}
use Rattle.mysql_row_refs.specs.declared.value_ref.ValueRef.TheVariants as borrowed

-- the value of which the bytes are borrowed
abbrev pub value_of : ValueRef → Value
value_of borrowed.NULL = value.NULL
value_of (borrowed.Bytes bytes) = value.Bytes bytes.now
value_of (borrowed.Int z) = value.Int z
value_of (borrowed.UInt n) = value.UInt n
value_of (borrowed.Float bits) = value.Float bits
value_of (borrowed.Double bits) = value.Double bits
value_of (borrowed.Date year month day hour minute second micros) = value.Date year month day hour minute second micros
value_of (borrowed.Time negative days hours minutes seconds micros) =
    value.Time negative days hours minutes seconds micros

-- the bytes that were read, none where nothing was
abbrev pub bytes_read : Option (List ℕ × List ℕ) → List ℕ
bytes_read None = []
bytes_read (Some x) = x.0

-- the value of a cell of a payload at a place
abbrev pub held : List ℕ → CellPlace → Value
held payload place.Null = value.NULL
held payload (place.Bytes at) = value.Bytes (bytes_read (lenenc_str_at (drop at payload)))
held payload (place.Int z) = value.Int z
held payload (place.UInt n) = value.UInt n
held payload (place.Float bits) = value.Float bits
held payload (place.Double bits) = value.Double bits
held payload (place.Date at) = date_of (bytes_read (u8_str_at (drop at payload)))
held payload (place.Time at) = time_of (bytes_read (u8_str_at (drop at payload)))

-- whether the bytes of a cell stand whole in a payload, behind their length
abbrev pub is_inside : List ℕ → CellPlace → Bool
is_inside payload place.Null = true
is_inside payload (place.Bytes at) = is_some (lenenc_str_at (drop at payload))
is_inside payload (place.Int z) = true
is_inside payload (place.UInt n) = true
is_inside payload (place.Float bits) = true
is_inside payload (place.Double bits) = true
is_inside payload (place.Date at) = is_some (u8_str_at (drop at payload))
is_inside payload (place.Time at) = is_some (u8_str_at (drop at payload))

-- the last bytes of a payload
pub record IsTail (payload rest : List ℕ) : Type 0 where
  pub len : length rest ≤ length payload
  pub same : rest ≡ drop (length payload - length rest) payload

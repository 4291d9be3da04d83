-- Bytes and texts of values.
-- MySQL Reference Manual, "String Literals", "The utf8mb4 Character Set (4-Byte UTF-8 Unicode Encoding)".
use Rattle.std.specs.Prelude.{ℕ, Bool, ◌==◌, List, length, Option, Some, None, if◌then◌else◌}
use Rattle.std.specs.Option.{option_and_then}
use Rattle.std.specs.Str.{is_utf8}
use Rattle.mysql_cells.specs.declared.value.Value.{Value}
use Rattle.mysql_cells.specs.declared.value.Value.TheVariants.{Bytes}

-- The bytes that a value holds.
abbrev pub bytes_of : Value → Option (List ℕ)
bytes_of (Bytes bytes) = Some bytes
bytes_of _ = None

-- bytes that pass a test
abbrev pub if_passes : (List ℕ → Bool) → List ℕ → Option (List ℕ)
if_passes test bytes = if test bytes then Some bytes else None

-- The text that a value holds: bytes that are UTF-8.
abbrev pub text_of : Value → Option (List ℕ)
text_of value = option_and_then (if_passes is_utf8) (bytes_of value)

-- The array of this length that a value holds: as many bytes.
abbrev pub array_of : ℕ → Value → Option (List ℕ)
array_of count value = option_and_then (if_passes (λ bytes. length bytes == count)) (bytes_of value)

-- Bytes that are written: numbers and texts with their lengths.
-- (MySQL: Client/Server Protocol, "Protocol::LengthEncodedInteger" and "Protocol::LengthEncodedString".)
use Rattle.std.specs.Prelude.{ℕ, ◌^◌, ◌-◌, nat_lt, if◌then◌else◌, List, [], ◌∷◌, ◌++◌, length, take}
use Rattle.byteorder.specs.Endian.{little_bytes}

-- the shortest spelling of a number as a length-encoded one
abbrev pub lenenc_int : ℕ → List ℕ
lenenc_int n =
    if nat_lt n 251 then n ∷ []
    else if nat_lt n (2 ^ 16) then 252 ∷ little_bytes 2 n
    else if nat_lt n (2 ^ 24) then 253 ∷ little_bytes 3 n
    else 254 ∷ little_bytes 8 n

-- a text after its length as a length-encoded number
abbrev pub lenenc_str : List ℕ → List ℕ
lenenc_str text = lenenc_int (length text) ++ text

-- the front of a text, at most `most` bytes
unfoldable pub front : List ℕ → ℕ → List ℕ
front text most = take most text

-- a text's first 255 bytes after their number in one byte
abbrev pub u8_str : List ℕ → List ℕ
u8_str text = length (front text 255) ∷ front text 255

-- a text's first 2 ^ 32 - 1 bytes after their number in four bytes
abbrev pub u32_str : List ℕ → List ℕ
u32_str text = little_bytes 4 (length (front text (2 ^ 32 - 1))) ++ front text (2 ^ 32 - 1)

-- The forms in which numbers are read.
-- (MySQL: Client/Server Protocol, "Protocol Basics: Integer Types".)
-- A reading takes bytes from the front: x.0 is what was read and x.1 the bytes left; the first refusal counts.
use Rattle.std.specs.Prelude.{ℕ, ℤ, ◌*◌, ◌/◌, ◌^◌, List, Ok}
use Rattle.byteorder.specs.Endian.{little_bytes}
use Rattle.mysql_buf.specs.Reading as buffer
use Rattle.mysql_buf.specs.Varlen.{varlen_at}
use Rattle.mysql_fields.specs.Wire.{Reading, or_end, ◌>>=◌}

-- a number of n bytes, lowest first
abbrev pub fixed_number_at : ℕ → List ℕ → Reading ℕ
fixed_number_at n bytes = or_end (buffer.little_at n bytes)

-- a signed number of n bytes, lowest first
abbrev pub signed_at : ℕ → List ℕ → Reading ℤ
signed_at n bytes = or_end (buffer.little_signed_at n bytes)

-- a length-encoded number
abbrev pub lenenc_number_at : List ℕ → Reading ℕ
lenenc_number_at bytes = or_end (buffer.lenenc_int_at bytes)

-- a number of variable length
abbrev pub varlen_number_at : List ℕ → Reading ℕ
varlen_number_at bytes = or_end (varlen_at bytes)

-- the two high bytes of a number of four
abbrev pub upper_half : ℕ → List ℕ
upper_half n = little_bytes 2 (n / 2 ^ 16)

-- in its place
abbrev pub raised : ℕ × List ℕ → Reading ℕ
raised p = Ok (p.0 * 2 ^ 16, p.1)

abbrev pub upper_half_at : List ℕ → Reading ℕ
upper_half_at bytes = fixed_number_at 2 bytes >>= raised

-- n bytes as they stand
abbrev pub bytes_at : ℕ → List ℕ → Reading (List ℕ)
bytes_at n bytes = or_end (buffer.bytes_at n bytes)

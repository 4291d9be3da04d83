-- How numbers of a type are written and read.
-- (MySQL: Client/Server Protocol, "Protocol Basics: Integer Types".)
use Rattle.std.specs.Prelude.{◌≡◌, ◌<◌, ◌%◌, ◌^◌, ◌++◌, ℕ, ℤ, List, Ok, Option, Some, None, true}
use Rattle.std.specs.Int.{Width, byte_len, cast_unsigned}
use Rattle.std.proofs.Math.Dec.{leb}
use Rattle.std.proofs.lemmas.Bool.{leb-true}
use Rattle.byteorder.specs.Endian.{little_bytes}
use Rattle.mysql_buf.specs.Laws.{FitsBytes}
use Rattle.mysql_buf.specs.Varlen.{varlen}
use Rattle.mysql_buf.specs.Writing.{lenenc_int}
use Rattle.mysql_fields.specs.Forms.{fixed_number_at, lenenc_number_at, signed_at, upper_half, upper_half_at}
use Rattle.mysql_fields.specs.Forms.{varlen_number_at}
use Rattle.mysql_fields.specs.Laws.{fixed_number_at-back, fixed_number_at-sized, lenenc_number_at-back, signed_at-back}
use Rattle.mysql_fields.specs.Laws.{signed_at-sized, unsized, upper_half_at-back, upper_half_at-sized}
use Rattle.mysql_fields.specs.Laws.{varlen_number_at-back}
use Rattle.mysql_fields.specs.Wire.{IsSized, Reading}

-- of numbers of this many bytes, or of no fixed number of bytes
pub record NumberForm (size : Option ℕ) (N : Type 0) : Type 1 where
  -- the numbers that are read back
  pub IsKept : N → Type 0
  -- the bytes that are written of a number
  pub written : N → List ℕ
  -- what reading answers, of every list of bytes
  pub read_at : List ℕ → Reading N
  -- where there is a size, that many bytes are needed and eaten
  pub sized : IsSized size read_at
  pub reads_back : (x : N) (rest : List ℕ) → IsKept x → read_at (written x ++ rest) ≡ Ok (x, rest)

-- n bytes, lowest first
abbrev pub unsigned : (n : ℕ) → NumberForm (Some n) ℕ
unsigned n = record {
  IsKept = λ x. x < 256 ^ n;
  written = little_bytes n;
  read_at = fixed_number_at n;
  sized = fixed_number_at-sized n;
  reads_back = fixed_number_at-back n;
}

-- n bytes in two's complement, lowest first, of a number of a width
abbrev pub signed : (w : Width) (n : ℕ) → leb 1 n ≡ true → leb n (byte_len w) ≡ true → NumberForm (Some n) ℤ
signed w n low high = record {
  IsKept = FitsBytes n;
  written = λ z. little_bytes n (cast_unsigned w z);
  read_at = signed_at n;
  sized = signed_at-sized n;
  reads_back = λ z rest. signed_at-back w n z rest (leb-true 1 n low) (leb-true n (byte_len w) high);
}

-- the two high bytes of a number of four, whose low half is 0
abbrev pub of_upper_half : NumberForm (Some 2) ℕ
of_upper_half = record {
  IsKept = λ x. (x < 2 ^ 32) × (x % 2 ^ 16 ≡ 0);
  written = upper_half;
  read_at = upper_half_at;
  sized = upper_half_at-sized;
  reads_back = upper_half_at-back;
}

abbrev pub length_encoded : NumberForm None ℕ
length_encoded = record {
  IsKept = λ x. x < 2 ^ 64;
  written = lenenc_int;
  read_at = lenenc_number_at;
  sized = unsized lenenc_number_at;
  reads_back = lenenc_number_at-back;
}

abbrev pub of_variable_length : NumberForm None ℕ
of_variable_length = record {
  IsKept = λ x. x < 2 ^ 64;
  written = varlen;
  read_at = varlen_number_at;
  sized = unsized varlen_number_at;
  reads_back = varlen_number_at-back;
}

-- The forms in which texts are written and read.
-- (MySQL: Client/Server Protocol, "Protocol Basics: String Types".)
-- A reading takes bytes from the front: x.0 is what was read and x.1 the bytes left; the first refusal counts.
use Rattle.std.specs.Prelude.{◌^◌, ◌-◌, ℕ, nat_lt, if◌then◌else◌, List, [], ◌∷◌, ◌++◌, length, replicate, take, Ok, Err}
use Rattle.std.specs.List.{after_first, before_first, position_or_len}
use Rattle.std.specs.Str.{encode_utf8_all}
use Rattle.bstr.specs.Utf8.{lossy_chars}
use Rattle.mysql_buf.specs.Reading.{is_zero, lenenc_str_at, then_at, u8_str_at, u32_str_at}
use Rattle.mysql_buf.specs.Reading as buffer
use Rattle.mysql_buf.specs.Varlen.{varlen, varlen_at}
use Rattle.mysql_buf.specs.Writing.{front}
use Rattle.mysql_fields.specs.Forms.{bytes_at}
use Rattle.mysql_fields.specs.Wire.{Reading, or_end}
use Rattle.mysql_fields.specs.declared.error.WireError.TheVariants.{TooManyBytes, UnexpectedEof}

-- a text after its length as a length-encoded number
abbrev pub lenenc_text_at : List ℕ → Reading (List ℕ)
lenenc_text_at bytes = or_end (lenenc_str_at bytes)

-- a text after its length in one byte
abbrev pub u8_text_at : List ℕ → Reading (List ℕ)
u8_text_at bytes = or_end (u8_str_at bytes)

-- a text after its length in four bytes
abbrev pub u32_text_at : List ℕ → Reading (List ℕ)
u32_text_at bytes = or_end (u32_str_at bytes)

-- a text's first 2 ^ 32 - 1 bytes after their length as a number of variable length
abbrev pub varlen_text : List ℕ → List ℕ
varlen_text text = varlen (length (front text (2 ^ 32 - 1))) ++ front text (2 ^ 32 - 1)

abbrev pub varlen_text_at : List ℕ → Reading (List ℕ)
varlen_text_at bytes = or_end (then_at (varlen_at bytes) buffer.bytes_at)

-- a text before its first zero, and a zero
abbrev pub null_text : List ℕ → List ℕ
null_text text = before_first is_zero text ++ 0 ∷ []

abbrev pub null_text_at : List ℕ → Reading (List ℕ)
null_text_at bytes =
    if nat_lt (position_or_len is_zero bytes) (length bytes) then Ok (
      before_first is_zero bytes,
      after_first is_zero bytes,
    )
    else Err UnexpectedEof

-- as many bytes as the context says, at most the maximum
abbrev pub bare_at : ℕ → ℕ → List ℕ → Reading (List ℕ)
bare_at most n bytes = if nat_lt most n then Err TooManyBytes else bytes_at n bytes

-- a text, cut or padded with zeros to n bytes
abbrev pub fixed_text : ℕ → List ℕ → List ℕ
fixed_text n text = take n (text ++ replicate n 0)

abbrev pub fixed_text_at : ℕ → List ℕ → Reading (List ℕ)
fixed_text_at n bytes = bytes_at n bytes

-- bytes as text in UTF-8, where those that aren't are replaced
abbrev pub lossy_text : List ℕ → List ℕ
lossy_text bytes = encode_utf8_all (lossy_chars bytes)

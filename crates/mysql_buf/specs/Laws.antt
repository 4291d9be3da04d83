-- What is written reads back, whatever follows it, and is written in fewest bytes.
-- (MySQL: Client/Server Protocol, "Protocol Basics: Integer Types" and "String Types".)
use Rattle.std.specs.Prelude.{◌≡◌, ℕ, ℤ, pos, negsuc, ◌+◌, ◌-◌, ◌*◌, ◌^◌, ◌<◌, ◌≤◌, false, List, ◌∷◌, ◌++◌, length}
use Rattle.std.specs.Prelude.{slice_index, Option, Some}
use Rattle.std.specs.Int.{Width, byte_len, cast_unsigned}
use Rattle.std.specs.List.{AllByRecursion, after_first, before_first}
use Rattle.byteorder.specs.Endian.{big_bytes, little_bytes}
use Rattle.mysql_buf.specs.Bytes.{AreBytes}
use Rattle.mysql_buf.specs.Reading.{big_at, big_signed_at, is_zero, little_at, little_signed_at, lenenc_int_at}
use Rattle.mysql_buf.specs.Reading.{lenenc_str_at, u8_str_at, u32_str_at}
use Rattle.mysql_buf.specs.Varlen.{varlen, varlen_at}
use Rattle.mysql_buf.specs.Writing.{front, lenenc_int, lenenc_str, u8_str, u32_str}

-- a signed number fits n bytes
abbrev pub FitsBytes : ℕ → ℤ → Type 0
FitsBytes n (pos x) = x < 2 ^ (8 * n - 1)
FitsBytes n (negsuc x) = x < 2 ^ (8 * n - 1)

-- written values of one kind read back, with anything following
abbrev pub ReadsBack : {X : Type 0} → (X → Type 0) → (X → List ℕ) → (List ℕ → Option (X × List ℕ)) → Type 0
ReadsBack {X = X} Fits written at = (x : X) (rest : List ℕ) → Fits x → at (written x ++ rest) ≡ Some (x, rest)

-- a number that fits n bytes
abbrev pub LittleReadsBack : Type 0
LittleReadsBack = (n : ℕ) → ReadsBack (λ x. x < 256 ^ n) (little_bytes n) (little_at n)

abbrev pub BigReadsBack : Type 0
BigReadsBack = (n : ℕ) → ReadsBack (λ x. x < 256 ^ n) (big_bytes n) (big_at n)

-- a signed number of some width that fits n bytes
abbrev pub LittleSignedReadsBack : Type 0
LittleSignedReadsBack = (width : Width) (n : ℕ) → 1 ≤ n → n ≤ byte_len width →
    ReadsBack (FitsBytes n) (λ z. little_bytes n (cast_unsigned width z)) (little_signed_at n)

abbrev pub BigSignedReadsBack : Type 0
BigSignedReadsBack = (width : Width) (n : ℕ) → 1 ≤ n → n ≤ byte_len width →
    ReadsBack (FitsBytes n) (λ z. big_bytes n (cast_unsigned width z)) (big_signed_at n)

-- a length-encoded number, and a text after one
abbrev pub LenencIntReadsBack : Type 0
LenencIntReadsBack = ReadsBack (λ n. n < 2 ^ 64) lenenc_int lenenc_int_at

abbrev pub LenencStrReadsBack : Type 0
LenencStrReadsBack = ReadsBack (λ text. length text < 2 ^ 64) lenenc_str lenenc_str_at

-- a text after a length of one byte or four reads back as the front that is written
abbrev pub CountedReadsBack : Type 0
CountedReadsBack = (text rest : List ℕ) →
    (u8_str_at (u8_str text ++ rest) ≡ Some (front text 255, rest)) ×
    (u32_str_at (u32_str text ++ rest) ≡ Some (front text (2 ^ 32 - 1), rest))

-- a text without zeros, and a zero
abbrev pub NullReadsBack : Type 0
NullReadsBack = (text rest : List ℕ) → AllByRecursion (λ b. is_zero b ≡ false) text →
    (before_first is_zero (text ++ 0 ∷ rest) ≡ text) × (after_first is_zero (text ++ 0 ∷ rest) ≡ rest)

-- a number of variable length
abbrev pub VarlenReadsBack : Type 0
VarlenReadsBack = ReadsBack (λ n. n < 2 ^ 64) varlen varlen_at

-- no bytes that read as a number are fewer than those written
abbrev pub IsShortest : (ℕ → List ℕ) → (List ℕ → Option (ℕ × List ℕ)) → Type 0
IsShortest written at = (n : ℕ) (bytes rest : List ℕ) → AreBytes bytes → at bytes ≡ Some (n, rest) →
    length (written n) + length rest ≤ length bytes

abbrev pub LenencIntIsShortest : Type 0
LenencIntIsShortest = IsShortest lenenc_int lenenc_int_at

abbrev pub VarlenIsShortest : Type 0
VarlenIsShortest = IsShortest varlen varlen_at

-- Attributes that were written are read again.
use Rattle.std.proofs.Common.{◌≡◌, ◌<◌, ◌≤◌, ◌^◌, if◌then◌else◌, nat_lt, Bool, true, false, ℕ, zero, suc, List, [], ◌∷◌}
use Rattle.std.proofs.Common.{◌++◌, length, Ok}
use Rattle.std.proofs.Common.{refl, append_assoc, length-append, arith}
use Rattle.std.specs.List.{flat_map}
use Rattle.byteorder.specs.Endian.{little_bytes}
use Rattle.mysql_buf.specs.Writing.{lenenc_int, lenenc_str}
use Rattle.mysql_handshake_response.specs.Attributes.{Attribute, at_most_at, attribute, attribute_at, attributes}
use Rattle.mysql_handshake_response.specs.Attributes.{attributes_at}
use Rattle.mysql_handshake_response.specs.Laws.{AttributesReadBack}
use Rattle.mysql_fields.specs.Laws.{bytes_at-back, lenenc_number_at-back}
use Rattle.mysql_fields.specs.TextLaws.{lenenc_text_at-back}

-- an attribute, whatever follows it
one-back : (a : Attribute) (rest : List ℕ) → length (attribute a) < 2 ^ 64 →
    attribute_at (attribute a ++ rest) ≡ Ok (a, rest)
unfolding attribute_at
one-back a rest few =
    let len = length-append (lenenc_str a.0) (lenenc_str a.1) in
    let key = length-append (lenenc_int (length a.0)) a.0 in
    let value = length-append (lenenc_int (length a.1)) a.1 in
    rw (
      append_assoc (lenenc_str a.0) (lenenc_str a.1) rest,
      lenenc_text_at-back a.0 (lenenc_str a.1 ++ rest) (omega arith),
      lenenc_text_at-back a.1 rest (omega arith),
    ) refl

-- it takes a byte at least
pub some-byte : (n : ℕ) → 1 ≤ length (lenenc_int n)
some-byte n = go (nat_lt n 251) (nat_lt n (2 ^ 16)) (nat_lt n (2 ^ 24)) where
  go : (a b c : Bool) → 1 ≤ length (if a then n ∷ [] else if b then 252 ∷
      little_bytes 2 n else if c then 253 ∷ little_bytes 3 n else 254 ∷ little_bytes 8 n)
  go true b c = omega arith
  go false true c = omega arith
  go false false true = omega arith
  go false false false = omega arith

-- one more before others that are read
step : (most : ℕ) (bytes : List ℕ) (a : Attribute) (all : List Attribute) (rest : List ℕ) →
    1 ≤ length bytes → attribute_at bytes ≡ Ok (a, rest)
    → at_most_at most rest ≡ Ok (all, []) → at_most_at (suc most) bytes ≡ Ok (a ∷ all, [])
unfolding at_most_at
step most [] a all rest some first others = absurd (omega arith)
step most (b ∷ bytes) a all rest some first others = rw (first, others) refl

nothing : (most : ℕ) → at_most_at most [] ≡ Ok ([], [])
unfolding at_most_at
nothing zero = refl
nothing (suc most) = refl

all-back : (most : ℕ) (all : List Attribute) → length (flat_map attribute all) ≤ most →
    length (flat_map attribute all) < 2 ^ 64
    → at_most_at most (flat_map attribute all) ≡ Ok (all, [])
all-back most [] room few = nothing most
all-back zero (a ∷ all) room few =
    let len = length-append (attribute a) (flat_map attribute all) in
    let one = length-append (lenenc_str a.0) (lenenc_str a.1) in
    let key = length-append (lenenc_int (length a.0)) a.0 in
    let some = some-byte (length a.0) in
    absurd (omega arith)
all-back (suc most) (a ∷ all) room few =
    let len = length-append (attribute a) (flat_map attribute all) in
    let one = length-append (lenenc_str a.0) (lenenc_str a.1) in
    let key = length-append (lenenc_int (length a.0)) a.0 in
    let some = some-byte (length a.0) in
    step most (attribute a ++ flat_map attribute all) a all (flat_map attribute all) (omega arith)
    (one-back a (flat_map attribute all) (omega arith)) (all-back most all (omega arith) (omega arith))

pub attributes-back : (all : List Attribute) (rest : List ℕ) → length (flat_map attribute all) < 2 ^ 64
    → attributes_at (attributes all ++ rest) ≡ Ok (all, rest)
unfolding attributes_at
attributes-back all rest few =
    let pairs : List ℕ = flat_map attribute all in
    rw (
      append_assoc (lenenc_int (length (flat_map attribute all))) (flat_map attribute all) rest,
      lenenc_number_at-back (length (flat_map attribute all)) (flat_map attribute all ++ rest) few,
      bytes_at-back (length (flat_map attribute all)) (flat_map attribute all) rest refl,
      all-back (length (flat_map attribute all)) all (omega arith) few,
    ) refl

pub attributes_read_back : AttributesReadBack
attributes_read_back all rest few = attributes-back all rest few

-- The attributes of a connection. (MySQL: Client/Server Protocol, "Protocol::HandshakeResponse41",
-- the connection's attributes as pairs of a key and a value.) A reading takes bytes from the front:
-- x.0 is what was read and x.1 the bytes left; the first refusal counts.
use Rattle.std.specs.Prelude.{ℕ, zero, suc, nat_eq, List, [], ◌∷◌, ◌++◌, length, map, Option, None, Ok, Err}
use Rattle.std.specs.Cmp.Lexicographic.{pointwise}
use Rattle.std.specs.List.{filter, flat_map, last_or}
use Rattle.mysql_buf.specs.Writing.{lenenc_str}
use Rattle.mysql_fields.specs.Forms.{bytes_at, lenenc_number_at}
use Rattle.mysql_fields.specs.Wire.{Reading, ◌>>=◌}
use Rattle.mysql_fields.specs.declared.error.WireError.TheVariants.{UnexpectedEof}
use Rattle.mysql_fields.specs.Texts.{lenenc_text_at}

-- a key and its value
abbrev pub Attribute : Type 0
Attribute = List ℕ × List ℕ

-- the value of the last attribute with this key, where there is one
abbrev pub last_value : List ℕ → List Attribute → Option (List ℕ)
last_value key all = last_or None (map (λ (one : Attribute). one.1) (filter (λ one. pointwise nat_eq one.0 key) all))

-- a key and a value, each after its length
abbrev pub attribute : Attribute → List ℕ
attribute one = lenenc_str one.0 ++ lenenc_str one.1

-- all attributes, after the number of their bytes
abbrev pub attributes : List Attribute → List ℕ
attributes all = lenenc_str (flat_map attribute all)

-- the attribute that stands first
unfoldable pub attribute_at : List ℕ → Reading Attribute
attribute_at bytes = do
  key ← lenenc_text_at bytes
  value ← lenenc_text_at key.1
  Ok ((key.0, value.0), value.1)

-- the attributes that stand one after another to the end, at most as many as the first number says
unfoldable pub at_most_at : ℕ → List ℕ → Reading (List Attribute)
at_most_at most [] = Ok ([], [])
at_most_at zero (b ∷ bytes) = Err UnexpectedEof
at_most_at (suc most) (b ∷ bytes) = do
  first ← attribute_at (b ∷ bytes)
  others ← at_most_at most first.1
  Ok (first.0 ∷ others.0, others.1)

-- all attributes to the end; each has at least one byte
abbrev pub all_attributes_at : List ℕ → Reading (List Attribute)
all_attributes_at bytes = at_most_at (length bytes) bytes

-- the number of bytes, and the attributes in as many
unfoldable pub attributes_at : List ℕ → Reading (List Attribute)
attributes_at bytes = do
  total ← lenenc_number_at bytes
  pairs ← bytes_at total.0 total.1
  all ← all_attributes_at pairs.0
  Ok (all.0, pairs.1)

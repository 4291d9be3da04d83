-- The law of a connection's attributes.
-- (MySQL: Client/Server Protocol, "Protocol::HandshakeResponse41".)
use Rattle.std.specs.Prelude.{◌≡◌, ◌<◌, ◌^◌, ◌++◌, ℕ, List, length, Ok}
use Rattle.std.specs.List.{flat_map}
use Rattle.mysql_handshake_response.specs.Attributes.{Attribute, attribute, attributes, attributes_at}

-- attributes that are written are read as the same list, equal keys too, with anything following
abbrev pub AttributesReadBack : Type 0
AttributesReadBack = (all : List Attribute) (rest : List ℕ) → length (flat_map attribute all) < 2 ^ 64 →
    attributes_at (attributes all ++ rest) ≡ Ok (all, rest)

-- What attributes are, apart from where their bytes lie.
-- (MySQL: Client/Server Protocol, "Protocol::HandshakeResponse41".)
use Rattle.std.specs.Prelude.{List, String, map}
use Rattle.std.specs.Cow.{cow_slice_items}
use Rattle.std.specs.String.{string_bytes}
use Rattle.mysql_fields.specs.Texts.{lossy_text}
use Rattle.mysql_fields.specs.declared.texts.RawBytes.{RawBytes}
use Rattle.mysql_handshake_response.specs.Attributes.{Attribute}
use Rattle.mysql_handshake_response.specs.declared.attributes.ConnectAttributes.{ConnectAttributes}

-- an attribute's bytes
abbrev pub shown_attribute : {T C : Type 0} → RawBytes T C × RawBytes T C → Attribute
shown_attribute e = (cow_slice_items e.0.0, cow_slice_items e.1.0)

-- all attributes, in their order
abbrev pub attributes_view : ConnectAttributes → List Attribute
attributes_view all = map shown_attribute all.entries.items

-- the bytes of two texts
abbrev pub text_attribute : {Z : Type 0} → String Z × String Z → Attribute
text_attribute e = (string_bytes e.0, string_bytes e.1)

-- an attribute as texts
abbrev pub lossy_attribute : Attribute → Attribute
lossy_attribute one = (lossy_text one.0, lossy_text one.1)

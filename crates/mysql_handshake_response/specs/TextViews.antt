-- What a text of a packet is, apart from where its bytes lie.
-- (MySQL: Client/Server Protocol, "Protocol::HandshakeResponse41" and "COM_CHANGE_USER".)
use Rattle.std.specs.Prelude.{ℕ, List}
use Rattle.std.specs.Cow.{cow_slice_items}
use Rattle.mysql_fields.specs.declared.texts.RawBytes.{RawBytes}

-- a text's bytes
abbrev pub text_view : {T C : Type 0} → RawBytes T C → List ℕ
text_view text = cow_slice_items text.0

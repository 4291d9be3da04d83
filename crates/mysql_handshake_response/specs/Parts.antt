-- Parts of a packet that stand there by the client's capabilities.
-- (MySQL: Client/Server Protocol, "Protocol::HandshakeResponse41" and "COM_CHANGE_USER".)
-- A reading takes bytes from the front: x.0 is what was read and x.1 the bytes left; the first refusal counts.
use Rattle.std.specs.Prelude.{ℕ, Bool, true, false, if◌then◌else◌, List, [], ◌∷◌, ◌++◌, Option, Some, None, Ok}
use Rattle.std.specs.Int.RustNames.{bit_or}
use Rattle.std.specs.List.{after_first, before_first}
use Rattle.bitflags.specs.Sets.{without}
use Rattle.mysql_auth.specs.Plugins.{Plugin, plugin_name, plugin_named, without_zero}
use Rattle.mysql_buf.specs.Reading.{is_zero}
use Rattle.mysql_fields.specs.Wire.{Reading, ◌>>=◌}
use Rattle.mysql_fields.specs.Texts.{null_text_at}

-- the flag set where its part is held, and else cleared
abbrev pub marked : ℕ → Bool → ℕ → ℕ
marked flag held capabilities = if held then bit_or capabilities flag else without 32 capabilities flag

-- a part is written where it is held
abbrev pub if_held : {X : Type 0} → (X → List ℕ) → Option X → List ℕ
if_held written None = []
if_held written (Some part) = written part

-- a part is read where it stands there
abbrev pub if_there : {X : Type 0} → Bool → (List ℕ → Reading X) → List ℕ → Reading (Option X)
if_there false read_at bytes = Ok (None, bytes)
if_there true read_at bytes = read_at bytes >>= λ part. Ok (Some part.0, part.1)

-- a plugin is written as its name and a zero
abbrev pub plugin_text : Plugin → List ℕ
plugin_text plugin = plugin_name plugin ++ 0 ∷ []

-- a plugin by its name to a zero, or to the end where there is none
abbrev pub plugin_to_zero_at : List ℕ → Reading Plugin
plugin_to_zero_at bytes = Ok (plugin_named (without_zero (before_first is_zero bytes)), after_first is_zero bytes)

-- a plugin by its name to a zero, which has to stand there
abbrev pub plugin_before_zero_at : List ℕ → Reading Plugin
plugin_before_zero_at bytes = null_text_at bytes >>= λ name. Ok (plugin_named (without_zero name.0), name.1)

-- the bytes that are given, or none
abbrev pub or_empty : Option (List ℕ) → List ℕ
or_empty None = []
or_empty (Some bytes) = bytes

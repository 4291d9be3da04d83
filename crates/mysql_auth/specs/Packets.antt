-- How the packets of an exchange are written and read.
-- (MySQL: Client/Server Protocol, "Protocol::AuthMoreData", "Protocol::AuthSwitchRequest" and
-- "Protocol::AuthNextFactor".)
-- A reading takes bytes from the front: x.0 is what was read and x.1 the bytes left; the first refusal counts.
use Rattle.std.specs.Prelude.{ℕ, ◌∷◌, [], List, Ok}
use Rattle.std.specs.List.{before_first, concat}
use Rattle.byteorder.specs.Endian.{little_bytes}
use Rattle.mysql_buf.specs.Reading.{is_zero}
use Rattle.mysql_fields.specs.Wire.{Reading, ◌>>=◌}
use Rattle.mysql_fields.specs.Texts.{null_text, null_text_at}
use Rattle.mysql_field_constants.specs.Constants.{constant_at}

-- a byte, and a text to the end
unfoldable pub headed : ℕ → List ℕ → List ℕ
headed header text = concat (little_bytes 1 header ∷ text ∷ [])

unfoldable pub headed_at : ℕ → List ℕ → Reading (List ℕ)
headed_at byte bytes = do
  header ← constant_at 1 byte bytes
  Ok (header.1, [])

-- a request for another plugin, or for one more: its name, and data for it
pub record SwitchFields : Type 0 where
  pub auth_plugin : List ℕ
  pub plugin_data : List ℕ

-- fe, the name and a zero, the data to the end
unfoldable pub switch : SwitchFields → List ℕ
switch p = concat (little_bytes 1 254 ∷ null_text p.auth_plugin ∷ p.plugin_data ∷ [])

unfoldable pub switch_at : List ℕ → Reading SwitchFields
switch_at bytes = do
  header ← constant_at 1 254 bytes
  plugin ← null_text_at header.1
  Ok (record { auth_plugin = plugin.0; plugin_data = plugin.1 }, [])

-- 02, the name and a zero, the data to the end
unfoldable pub next_factor : SwitchFields → List ℕ
next_factor p = concat (little_bytes 1 2 ∷ null_text p.auth_plugin ∷ p.plugin_data ∷ [])

unfoldable pub next_factor_at : List ℕ → Reading SwitchFields
next_factor_at bytes = do
  header ← constant_at 1 2 bytes
  plugin ← null_text_at header.1
  Ok (record { auth_plugin = plugin.0; plugin_data = plugin.1 }, [])

-- what is read of a request that was written: its name ends at the first zero
abbrev pub switch_kept : SwitchFields → SwitchFields
switch_kept p = record { auth_plugin = before_first is_zero p.auth_plugin; plugin_data = p.plugin_data }

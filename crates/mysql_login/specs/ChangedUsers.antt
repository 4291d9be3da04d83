-- The command that logs another user in.
-- (MySQL: Client/Server Protocol, "COM_CHANGE_USER"; MariaDB: Client/Server Protocol, "COM_CHANGE_USER".)
-- A reading takes bytes from the front: x.0 is what was read and x.1 the bytes left; the first refusal counts.
use Rattle.std.specs.Prelude.{◌==◌, ◌&&◌, ℕ, Bool, not, if◌then◌else◌, List, [], ◌∷◌, length, Option, Some, None, Ok}
use Rattle.std.specs.List.{concat}
use Rattle.byteorder.specs.Endian.{little_bytes}
use Rattle.mysql_auth.specs.Plugins.{Plugin}
use Rattle.mysql_buf.specs.Writing.{u8_str}
use Rattle.mysql_const.specs.Commands.{command_number}
use Rattle.mysql_const.specs.declared.command.Command.TheVariants.{COM_CHANGE_USER}
use Rattle.mysql_fields.specs.Forms.{fixed_number_at}
use Rattle.mysql_fields.specs.Wire.{Reading, ◌>>=◌}
use Rattle.mysql_fields.specs.Texts.{null_text, null_text_at, u8_text_at}
use Rattle.mysql_field_constants.specs.Constants.{constant_at}
use Rattle.mysql_field_constants.specs.Flags.{contains}
use Rattle.mysql_handshake_response.specs.Attributes.{Attribute, attributes, attributes_at}
use Rattle.mysql_handshake.specs.Capabilities.{connect_attrs, plugin_auth, secure_connection}
use Rattle.mysql_handshake_response.specs.Parts.{if_held, if_there, plugin_before_zero_at, plugin_text}
use Rattle.mysql_handshake_response.specs.Parts.{plugin_to_zero_at}

-- what may stand last: the collation, the plugin, the attributes
pub record MoreFields : Type 0 where
  pub character_set : ℕ
  pub plugin : Option Plugin
  pub attributes : Option (List Attribute)

-- attributes, or none
abbrev pub or_none : Option (List Attribute) → List Attribute
or_none None = []
or_none (Some all) = all

-- the fields in that order; attributes are always written, though there be none
unfoldable pub more_data : MoreFields → List ℕ
more_data p = concat (little_bytes 2 p.character_set ∷ if_held plugin_text p.plugin ∷
    attributes (or_none p.attributes) ∷ [])

-- the fields that stand first; the capabilities say which of the last two do
unfoldable pub more_data_at : ℕ → List ℕ → Reading MoreFields
more_data_at capabilities bytes = do
  set ← fixed_number_at 2 bytes
  plugin ← if_there (contains capabilities plugin_auth) plugin_before_zero_at set.1
  attributes ← if_there (contains capabilities connect_attrs) attributes_at plugin.1
  Ok (record { character_set = set.0; plugin = plugin.0; attributes = attributes.0 }, attributes.1)

-- the user, the answer to the scramble, the database, and what may stand last
pub record ChangeUserFields : Type 0 where
  pub user : List ℕ
  pub scramble : List ℕ
  pub database : List ℕ
  pub more : Option MoreFields

-- the command's number and the fields in that order
unfoldable pub change_user : ChangeUserFields → List ℕ
change_user p = concat (little_bytes 1 (command_number COM_CHANGE_USER) ∷ null_text p.user ∷
    u8_str p.scramble ∷ null_text p.database ∷ if_held more_data p.more ∷ [])

-- the database, and more where a byte follows it
unfoldable pub database_and_more_at : ℕ → List ℕ → Reading (List ℕ × Option MoreFields)
database_and_more_at capabilities bytes = do
  database ← null_text_at bytes
  more ← if_there (not (length database.1 == 0)) (more_data_at capabilities) database.1
  Ok ((database.0, more.0), more.1)

-- the fields that stand first
unfoldable pub change_user_at : ℕ → List ℕ → Reading ChangeUserFields
change_user_at capabilities bytes = do
  header ← constant_at 1 (command_number COM_CHANGE_USER) bytes
  user ← null_text_at header.1
  scramble ← u8_text_at user.1
  last ← database_and_more_at capabilities scramble.1
  Ok (record { user = user.0; scramble = scramble.0; database = last.0.0; more = last.0.1 }, last.1)

-- The command by the capabilities in force, as servers read it: its fields may end behind the database, the
-- collation or the plugin, though the capabilities name more.

-- the answer to the scramble: after its length in one byte, or before a zero
abbrev pub answer : ℕ → List ℕ → List ℕ
answer capabilities text = if contains capabilities secure_connection then u8_str text else null_text text

abbrev pub answer_at : ℕ → List ℕ → Reading (List ℕ)
answer_at capabilities bytes =
    if contains capabilities secure_connection then u8_text_at bytes else null_text_at bytes

-- a part that the capabilities name, where a byte is left
abbrev pub named_and_left : ℕ → ℕ → List ℕ → Bool
named_and_left capabilities flag bytes = contains capabilities flag && not (length bytes == 0)

-- what may stand last; a plugin's name may end with the bytes
unfoldable pub last_fields_at : ℕ → List ℕ → Reading MoreFields
last_fields_at capabilities bytes = do
  set ← fixed_number_at 2 bytes
  plugin ← if_there (named_and_left capabilities plugin_auth set.1) plugin_to_zero_at set.1
  attributes ← if_there (named_and_left capabilities connect_attrs plugin.1) attributes_at plugin.1
  Ok (record { character_set = set.0; plugin = plugin.0; attributes = attributes.0 }, attributes.1)

-- the database, and more where a byte follows it
unfoldable pub database_and_last_at : ℕ → List ℕ → Reading (List ℕ × Option MoreFields)
database_and_last_at capabilities bytes = do
  database ← null_text_at bytes
  more ← if_there (not (length database.1 == 0)) (last_fields_at capabilities) database.1
  Ok ((database.0, more.0), more.1)

-- the fields that stand first
unfoldable pub change_in_force_at : ℕ → List ℕ → Reading ChangeUserFields
change_in_force_at capabilities bytes = do
  header ← constant_at 1 (command_number COM_CHANGE_USER) bytes
  user ← null_text_at header.1
  scramble ← answer_at capabilities user.1
  last ← database_and_last_at capabilities scramble.1
  Ok (record { user = user.0; scramble = scramble.0; database = last.0.0; more = last.0.1 }, last.1)

-- what may stand last, each part where it is held
unfoldable pub last_fields : MoreFields → List ℕ
last_fields p = concat (little_bytes 2 p.character_set ∷ if_held plugin_text p.plugin ∷
    if_held attributes p.attributes ∷ [])

-- the command's number and the fields in that order
unfoldable pub change_in_force : ℕ → ChangeUserFields → List ℕ
change_in_force capabilities p = concat (little_bytes 1 (command_number COM_CHANGE_USER) ∷ null_text p.user ∷
    answer capabilities p.scramble ∷ null_text p.database ∷ if_held last_fields p.more ∷ [])

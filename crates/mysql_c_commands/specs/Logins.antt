-- What a client answers to a greeting, as C gives it and sees it.
-- (MySQL: Client/Server Protocol, "Protocol::HandshakeResponse41".)
use Rattle.std.specs.Prelude.{◌≡◌, ◌⊎◌, ◌&&◌, not, ℕ, nat_le, Bool, true, false, is_some, List, [], length, Option}
use Rattle.std.specs.Prelude.{Some, None, if◌then◌else◌}
use Rattle.mysql_handshake_response.specs.Parts.{marked, or_empty}
use Rattle.mysql_auth.specs.Plugins.{Plugin, plugin_name, plugin_named, without_zero}
use Rattle.mysql_handshake.specs.Capabilities.{connect_attrs, connect_with_db, plugin_auth}
use Rattle.mysql_handshake.specs.Capabilities.{offered, plugin_auth_lenenc_client_data, secure_connection}
use Rattle.mysql_handshake_response.specs.Responses.{ResponseFields, counted_scramble, response, response_at}
use Rattle.mysql_field_constants.specs.Flags.{contains}
use Rattle.mysql_c_handles.specs.Codes.{code_number}
use Rattle.mysql_c_handles.specs.declared.code.Code.TheVariants.{Memory}
use Rattle.mysql_c_commands.specs.Reading.{IsShown}
use Rattle.mysql_c_commands.specs.LoginTexts.{given, has_zero}
use Rattle.mysql_c_commands.specs.declared.login.ShownLogin.{ShownLogin}

-- the name of a plugin, or no bytes
abbrev pub plugin_shown : Option Plugin → List ℕ
plugin_shown None = []
plugin_shown (Some plugin) = plugin_name plugin

-- The numbers of a login, and the lengths of its texts. A client of MySQL shows none of MariaDB's own
-- capabilities.
pub record ShowsLogin (packet : ResponseFields) (shown : ShownLogin) : Type 0 where
  pub collation : shown.collation ≡ packet.request.character_set
  pub capabilities : shown.capabilities ≡ packet.request.capabilities
  pub mariadb_capabilities : shown.mariadb_capabilities
      ≡ (offered packet.request.capabilities packet.request.mariadb_capabilities).mariadb.0
  pub user : shown.user.len ≡ length packet.user
  pub response : shown.response.len ≡ length (counted_scramble packet.request.capabilities packet.scramble)
  pub database : shown.database.len ≡ length (or_empty packet.database)
  pub plugin : shown.plugin.len ≡ length (plugin_shown packet.plugin)

-- A payload is read as a login, which is shown; or the packet is bad, or memory was refused.
abbrev pub ReadsLogin : List ℕ → ℕ → ShownLogin → Type 0
ReadsLogin payload number shown =
    (number ≡ code_number Memory) ⊎ IsShown (λ packet. ShowsLogin packet shown) (response_at payload) number

-- what C gives of a login
pub record Login : Type 0 where
  pub capabilities : ℕ
  pub mariadb_capabilities : ℕ
  pub max_packet_size : ℕ
  pub user : List ℕ
  pub response : List ℕ
  pub database : List ℕ
  pub plugin : List ℕ

-- A response is written whole: after its length as a length-encoded number any is, after its length
-- in one byte one of at most 255 bytes, and before a zero one without a zero.
abbrev pub response_fits : ℕ → List ℕ → Bool
response_fits capabilities response =
    if contains capabilities plugin_auth_lenenc_client_data then true
    else if contains capabilities secure_connection then nat_le (length response) 255
    else not (has_zero response)

-- and no zero is within a text that ends with one
abbrev pub is_login : ℕ → List ℕ → List ℕ → List ℕ → List ℕ → Bool
is_login capabilities user response database plugin =
    response_fits capabilities response && not (has_zero user) && not (has_zero database) && not (has_zero plugin)

-- the plugin that a name is of
abbrev pub named_plugin : Option (List ℕ) → Option Plugin
named_plugin None = None
named_plugin (Some name) = Some (plugin_named (without_zero name))

-- the capabilities say whether there is a database and a plugin; there are no attributes
abbrev pub login_capabilities : Login → ℕ
login_capabilities l =
    marked connect_attrs false
    (marked plugin_auth (is_some (given l.plugin))
    (marked connect_with_db (is_some (given l.database)) l.capabilities))

-- the packet of a login; its collation is utf8mb4_general_ci
abbrev pub login_fields : Login → ResponseFields
login_fields l = record {
  request = record {
    capabilities = login_capabilities l;
    max_packet_size = l.max_packet_size;
    character_set = 45;
    mariadb_capabilities = l.mariadb_capabilities;
  };
  user = l.user;
  scramble = l.response;
  database = given l.database;
  plugin = named_plugin (given l.plugin);
  attributes = None;
}

-- its bytes
abbrev pub login_payload : Login → List ℕ
login_payload l = response (login_fields l)

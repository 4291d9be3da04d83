-- What a server greets a client with, as C gives it and sees it.
-- (MySQL: Client/Server Protocol, "Protocol::HandshakeV10".)
use Rattle.std.specs.Prelude.{◌≡◌, ◌==◌, ◌&&◌, not, ℕ, Bool, true, is_some, List, length, Some}
use Rattle.mysql_handshake_response.specs.Parts.{marked, or_empty}
use Rattle.mysql_auth.specs.Plugins.{without_zero}
use Rattle.mysql_handshake.specs.Capabilities.{plugin_auth, secure_connection}
use Rattle.mysql_handshake.specs.Handshakes.{HandshakeFields, handshake, handshake_at, scramble_written}
use Rattle.mysql_handshake.specs.Handshakes.{scrambles_length}
use Rattle.mysql_c_commands.specs.Reading.{IsShown}
use Rattle.mysql_c_commands.specs.LoginTexts.{given, has_zero}
use Rattle.mysql_c_commands.specs.declared.greeting.ShownGreeting.{ShownGreeting}

-- the numbers of a greeting, and the lengths of its texts: of the second scramble without the zero behind it
pub record ShowsGreeting (packet : HandshakeFields) (shown : ShownGreeting) : Type 0 where
  pub protocol : shown.protocol ≡ packet.protocol_version
  pub collation : shown.collation ≡ packet.default_collation
  pub status : shown.status ≡ packet.status_flags
  pub connection : shown.connection ≡ packet.connection_id
  pub capabilities : shown.capabilities ≡ packet.capabilities
  pub mariadb_capabilities : shown.mariadb_capabilities ≡ packet.mariadb_ext_capabilities
  pub version : shown.version.len ≡ length packet.server_version
  pub scramble_1 : shown.scramble_1.len ≡ length packet.scramble_1
  pub scramble_2 : shown.scramble_2.len ≡ length (without_zero (scramble_written packet.scramble_2))
  pub plugin : shown.plugin.len ≡ length (or_empty packet.auth_plugin_name)

-- A payload is read as a greeting, which is shown; or the packet is bad.
abbrev pub ReadsGreeting : List ℕ → ℕ → ShownGreeting → Type 0
ReadsGreeting payload number shown = IsShown (λ packet. ShowsGreeting packet shown) (handshake_at payload) number

-- what C gives of a greeting, with a zero behind the second scramble, as servers send it
pub record Greeting : Type 0 where
  pub connection : ℕ
  pub capabilities : ℕ
  pub mariadb_capabilities : ℕ
  pub collation : ℕ
  pub status : ℕ
  pub version : List ℕ
  pub scramble_1 : List ℕ
  pub scramble_2 : List ℕ
  pub plugin : List ℕ

-- scrambles of 8 and 12 bytes, and no zero within the version and the plugin's name, which end with one
abbrev pub is_greeting : List ℕ → List ℕ → List ℕ → List ℕ → Bool
is_greeting scramble_1 scramble_2 version plugin =
    (length scramble_1 == 8) && (length scramble_2 == 12) && not (has_zero version) && not (has_zero plugin)

-- there are two scrambles, and a plugin where one is named
abbrev pub greeting_capabilities : ℕ → List ℕ → ℕ
greeting_capabilities capabilities plugin =
    marked plugin_auth (is_some (given plugin)) (marked secure_connection true capabilities)

-- the packet of a greeting, by version 10 of the protocol
abbrev pub greeting_fields : Greeting → HandshakeFields
greeting_fields g = record {
  protocol_version = 10;
  server_version = g.version;
  connection_id = g.connection;
  scramble_1 = g.scramble_1;
  capabilities = greeting_capabilities g.capabilities g.plugin;
  default_collation = g.collation;
  status_flags = g.status;
  data_length = scrambles_length (greeting_capabilities g.capabilities g.plugin) (Some g.scramble_2);
  mariadb_ext_capabilities = g.mariadb_capabilities;
  scramble_2 = Some g.scramble_2;
  auth_plugin_name = given g.plugin;
}

-- its bytes
abbrev pub greeting_payload : Greeting → List ℕ
greeting_payload g = handshake (greeting_fields g)

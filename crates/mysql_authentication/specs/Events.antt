-- What the payloads of logging in say, phase by phase.
-- (MySQL: Client/Server Protocol, "Connection Phase"; MariaDB: Client/Server Protocol, "Connecting".)
use Rattle.std.specs.Prelude.{ℕ, List, Option, None}
use Rattle.mysql_auth.specs.Packets.{SwitchFields}
use Rattle.mysql_auth.specs.Plugins.{Plugin}
use Rattle.mysql_handshake.specs.Handshakes.{HandshakeFields}
use Rattle.mysql_handshake_response.specs.Responses.{ResponseFields}
use Rattle.mysql_handshake_response.specs.SslRequests.{SslRequestFields}
use Rattle.mysql_ok_packets.specs.OkPackets.{OkPacket}
use Rattle.mysql_server_packets.specs.Packets.{ServerError}

-- the server's first payload: it refuses the connection, or greets
pub data Greeting : Type 0 where
  Rejected : ServerError → Greeting
  Greeted : HandshakeFields → Greeting

-- what a client logs in with: all fields, or the first 32 bytes alone, behind which no fields can be read
pub data Login : Type 0 where
  Whole : ResponseFields → Login
  CutOff : SslRequestFields → Login

-- the first 32 bytes
abbrev pub first_fields : Login → SslRequestFields
first_fields (Whole p) = p.request
first_fields (CutOff request) = request

-- the plugin that it names
abbrev pub login_plugin : Login → Option Plugin
login_plugin (Whole p) = p.plugin
login_plugin (CutOff request) = None

-- the client's first payload: it asks for a secure connection, or logs in
pub data Response : Type 0 where
  SecureRequest : SslRequestFields → Response
  LoggedIn : Login → Response

-- a server's payload of an authentication
pub data Authentication : Type 0 where
  Accepted : OkPacket → Authentication
  Denied : ServerError → Authentication
  AuthSwitch : SwitchFields → Authentication
  OldAuthSwitch : Authentication
  AuthMore : List ℕ → Authentication
  NextFactor : SwitchFields → Authentication
  PluginData : List ℕ → Authentication

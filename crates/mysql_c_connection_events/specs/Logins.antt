-- What C sees of logging in.
-- MySQL: Client/Server Protocol, "Connection Phase".
use Rattle.std.specs.Prelude.{ℕ, List, [], Option, Some, None, length}
use Rattle.mysql_auth.specs.Plugins.{Plugin, plugin_name}
use Rattle.mysql_authentication.specs.Events as said
use Rattle.mysql_handshake_response.specs.Attributes.{Attribute}
use Rattle.mysql_handshake.specs.Capabilities.{offered}
use Rattle.mysql_handshake.specs.Handshakes.{HandshakeFields}
use Rattle.mysql_handshake_response.specs.Responses.{ResponseFields}
use Rattle.mysql_handshake_response.specs.SslRequests.{SslRequestFields}
use Rattle.mysql_login.specs.ChangedUsers.{ChangeUserFields, MoreFields}
use Rattle.mysql_ok_packets.specs.Written.{or_empty}
use Rattle.mysql_c_connection_events.specs.Shown.{blank_shown, data_shown, error_shown, nothing_shown, packet_shown}
use Rattle.mysql_c_connection_events.specs.declared.shown.ShownEvent.{ShownEvent}

-- a greeting
abbrev pub handshake_shown : HandshakeFields → ShownEvent → ShownEvent
handshake_shown p shown = record (nothing_shown shown) {
  kind = 2;
  side = 1;
  len = length p.server_version;
  number = p.connection_id;
  capabilities = p.capabilities;
  mariadb_capabilities = p.mariadb_ext_capabilities;
  charset = p.default_collation;
  status = p.status_flags;
  plugin_len = length (or_empty p.auth_plugin_name);
}

-- a server's first payload
abbrev pub greeting_shown : said.Greeting → ShownEvent → ShownEvent
greeting_shown (said.Rejected error) shown = error_shown 1 error shown
greeting_shown (said.Greeted packet) shown = handshake_shown packet shown

-- The front of a client's answer to it. Its number is the longest packet that the client takes. A
-- client of MySQL, which has none of MariaDB's own capabilities, shows none.
abbrev pub request_shown : ℕ → SslRequestFields → ShownEvent → ShownEvent
request_shown kind p shown = record (nothing_shown shown) {
  kind = kind;
  side = 0;
  capabilities = p.capabilities;
  mariadb_capabilities = (offered p.capabilities p.mariadb_capabilities).mariadb.0;
  number = p.max_packet_size;
  charset = p.character_set;
}

-- a plugin's name, or no bytes
abbrev pub name_of : Option Plugin → List ℕ
name_of None = []
name_of (Some plugin) = plugin_name plugin

-- how many attributes there are
abbrev pub count_of : Option (List Attribute) → ℕ
count_of None = 0
count_of (Some attributes) = length attributes

-- what a client logs in with
abbrev pub response_shown : ResponseFields → ShownEvent → ShownEvent
response_shown p shown = record (request_shown 4 p.request shown) {
  user_len = length p.user;
  database_len = length (or_empty p.database);
  plugin_len = length (name_of p.plugin);
  data_len = length p.scramble;
  attributes = count_of p.attributes;
}

-- a client's answer to the greeting
abbrev pub response_event_shown : said.Response → ShownEvent → ShownEvent
response_event_shown (said.SecureRequest request) shown = request_shown 3 request shown
response_event_shown (said.LoggedIn (said.Whole response)) shown = response_shown response shown
response_event_shown (said.LoggedIn (said.CutOff request)) shown = request_shown 5 request shown

-- a request for a plugin
abbrev pub asking_shown : ℕ → List ℕ → List ℕ → ShownEvent → ShownEvent
asking_shown kind plugin bytes shown =
    record (data_shown kind 1 bytes shown) { plugin_len = length plugin }

-- a server's payload of an authentication
abbrev pub authentication_shown : said.Authentication → ShownEvent → ShownEvent
authentication_shown (said.Accepted ok) shown = packet_shown 6 ok shown
authentication_shown (said.Denied error) shown = error_shown 7 error shown
authentication_shown (said.AuthSwitch p) shown = asking_shown 8 p.auth_plugin p.plugin_data shown
authentication_shown said.OldAuthSwitch shown = blank_shown 9 1 shown
authentication_shown (said.AuthMore bytes) shown = data_shown 10 1 bytes shown
authentication_shown (said.NextFactor p) shown = asking_shown 11 p.auth_plugin p.plugin_data shown
authentication_shown (said.PluginData bytes) shown = data_shown 12 1 bytes shown

-- what stands behind the database's name
abbrev pub more_shown : Option MoreFields → ShownEvent → ShownEvent
more_shown None shown = shown
more_shown (Some more) shown = record shown {
  charset = more.character_set;
  plugin_len = length (name_of more.plugin);
  attributes = count_of more.attributes;
}

-- a change of user
abbrev pub change_shown : ChangeUserFields → ShownEvent → ShownEvent
change_shown p shown = more_shown p.more (record (nothing_shown shown) {
  kind = 0x111;
  side = 0;
  user_len = length p.user;
  database_len = length p.database;
  data_len = length p.scramble;
})

-- What a client's answer to the handshake is, apart from its fields' types.
-- (MySQL: Client/Server Protocol, "Protocol::HandshakeResponse41".)
use Rattle.std.specs.Prelude.{option_map}
use Rattle.std.specs.Cow.{cow_slice_items}
use Rattle.mysql_auth.specs.Views.{plugin_view}
use Rattle.mysql_handshake_response.specs.AttributeViews.{attributes_view}
use Rattle.mysql_handshake_response.specs.Responses.{ResponseFields}
use Rattle.mysql_handshake_response.specs.SslRequestViews.{ssl_request_view}
use Rattle.mysql_handshake_response.specs.TextViews.{text_view}
use Rattle.mysql_handshake_response.specs.declared.handshake_response.HandshakeResponse.{HandshakeResponse}

abbrev pub response_view : HandshakeResponse → ResponseFields
response_view p = record {
  request = ssl_request_view p.request;
  user = text_view p.user;
  scramble = cow_slice_items p.scramble_buf;
  database = option_map text_view p.db_name;
  plugin = option_map plugin_view p.auth_plugin;
  attributes = option_map attributes_view p.connect_attributes;
}

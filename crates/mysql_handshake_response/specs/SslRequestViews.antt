-- What a request for a secure connection is, apart from its fields' types.
-- (MySQL: Client/Server Protocol, "Protocol::SSLRequest".)
use Rattle.mysql_handshake_response.specs.SslRequests.{SslRequestFields}
use Rattle.mysql_handshake_response.specs.declared.ssl_request.SslRequest.{SslRequest}

abbrev pub ssl_request_view : SslRequest → SslRequestFields
ssl_request_view p = record {
  capabilities = p.capabilities.0;
  max_packet_size = p.max_packet_size;
  character_set = p.character_set;
  mariadb_capabilities = p.mariadb_capabilities.0;
}

-- The lemmas that proofs of packets share.
use Rattle.mysql_handshake_response.specs.SslRequestLaws.{ssl_request_at-back, ssl_request_at-enough}

pub ruleset sizes = (ssl_request_at-enough)

pub ruleset read_back = (ssl_request_at-back)

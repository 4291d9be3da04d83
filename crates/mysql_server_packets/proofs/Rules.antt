-- The lemmas that proofs of packets share.
use Rattle.mysql_server_packets.specs.PacketLaws.{prepare_ok_at-enough, sql_state_at-enough}

pub ruleset sizes = (prepare_ok_at-enough, sql_state_at-enough)

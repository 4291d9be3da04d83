-- What a replica asks for, as C gives it.
-- MySQL: Client/Server Protocol, "COM_REGISTER_SLAVE", "COM_BINLOG_DUMP" and "COM_BINLOG_DUMP_GTID".
use Rattle.std.specs.Prelude.{ℕ, nat_le, ◌&&◌, Bool, List, length}
use Rattle.mysql_replication.specs.Sids.{SidParts}
use Rattle.mysql_replication.specs.Packets.{BinlogDump, BinlogDumpGtid, RegisterSlave, binlog_dump, binlog_dump_gtid}
use Rattle.mysql_replication.specs.Packets.{register_slave, through_gtid}

-- what C gives of a replica
pub record Replica : Type 0 where
  pub server : ℕ
  pub host : List ℕ
  pub user : List ℕ
  pub password : List ℕ
  pub port : ℕ

-- the length of each text fits one byte
abbrev pub is_replica : Replica → Bool
is_replica r = nat_le (length r.host) 255 && nat_le (length r.user) 255 && nat_le (length r.password) 255

-- what it says of itself; its rank and its master's id are 0
abbrev pub replica_fields : Replica → RegisterSlave
replica_fields r = record {
  server_id = r.server;
  hostname = r.host;
  user = r.user;
  password = r.password;
  port = r.port;
  replication_rank = 0;
  master_id = 0;
}

-- its bytes
abbrev pub replica_payload : Replica → List ℕ
replica_payload r = register_slave (replica_fields r)

-- what C gives of a request for the binary log
pub record Dump : Type 0 where
  pub server : ℕ
  pub position : ℕ
  pub flags : ℕ
  pub file : List ℕ

-- from a position of a file
abbrev pub dump_fields : Dump → BinlogDump
dump_fields d = record { pos = d.position; flags = d.flags; server_id = d.server; filename = d.file }

-- its bytes
abbrev pub dump_payload : Dump → List ℕ
dump_payload d = binlog_dump (dump_fields d)

-- without the transactions of sets
abbrev pub sids_fields : Dump → List SidParts → BinlogDumpGtid
sids_fields d sids = record {
  flags = through_gtid sids d.flags;
  server_id = d.server;
  filename = d.file;
  pos = d.position;
  sids = sids;
}

-- its bytes
abbrev pub sids_payload : Dump → List SidParts → List ℕ
sids_payload d sids = binlog_dump_gtid (sids_fields d sids)

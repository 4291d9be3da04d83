-- The laws of the packets: what was written is read again.
use Rattle.std.specs.Prelude.{◌≡◌, ℕ, List, [], ◌++◌, Ok}
use Rattle.mysql_replication.specs.Packets.{BinlogDump, BinlogDumpGtid, IsBinlogDump, IsBinlogDumpGtid, IsRegisterSlave}
use Rattle.mysql_replication.specs.Packets.{IsSemiSyncAck, IsTableDump, RegisterSlave, SemiSyncAck, TableDump}
use Rattle.mysql_replication.specs.Packets.{binlog_dump, binlog_dump_at, binlog_dump_gtid, binlog_dump_gtid_at}
use Rattle.mysql_replication.specs.Packets.{register_slave, register_slave_at, semi_sync_ack, semi_sync_ack_at}
use Rattle.mysql_replication.specs.Packets.{table_dump, table_dump_at}

-- whatever follows
abbrev pub TableDumpsReadBack : Type 0
TableDumpsReadBack = (p : TableDump) (rest : List ℕ) → IsTableDump p →
    table_dump_at (table_dump p ++ rest) ≡ Ok (p, rest)

abbrev pub RegistrationsReadBack : Type 0
RegistrationsReadBack = (p : RegisterSlave) (rest : List ℕ) → IsRegisterSlave p →
    register_slave_at (register_slave p ++ rest) ≡ Ok (p, rest)

abbrev pub GtidDumpsReadBack : Type 0
GtidDumpsReadBack = (p : BinlogDumpGtid) (rest : List ℕ) → IsBinlogDumpGtid p →
    binlog_dump_gtid_at (binlog_dump_gtid p ++ rest) ≡ Ok (p, rest)

-- with nothing following
abbrev pub BinlogDumpsReadBack : Type 0
BinlogDumpsReadBack = (p : BinlogDump) → IsBinlogDump p → binlog_dump_at (binlog_dump p) ≡ Ok (p, [])

abbrev pub AcknowledgementsReadBack : Type 0
AcknowledgementsReadBack = (p : SemiSyncAck) → IsSemiSyncAck p → semi_sync_ack_at (semi_sync_ack p) ≡ Ok (p, [])

-- Packets that were written are read again.
use Rattle.std.proofs.Common.{[], append-nil, refl}
use Rattle.mysql_replication.specs.PacketLaws.{binlog_dump_at-back, binlog_dump_gtid_at-back, register_slave_at-back}
use Rattle.mysql_replication.specs.PacketLaws.{semi_sync_ack_at-back, table_dump_at-back}
use Rattle.mysql_replication.specs.Statements.{AcknowledgementsReadBack, BinlogDumpsReadBack, GtidDumpsReadBack}
use Rattle.mysql_replication.specs.Statements.{RegistrationsReadBack, TableDumpsReadBack}

pub table_dumps_read_back : TableDumpsReadBack
table_dumps_read_back = table_dump_at-back

pub registrations_read_back : RegistrationsReadBack
registrations_read_back = register_slave_at-back

pub gtid_dumps_read_back : GtidDumpsReadBack
gtid_dumps_read_back = binlog_dump_gtid_at-back

pub binlog_dumps_read_back : BinlogDumpsReadBack
binlog_dumps_read_back p h = rw append-nil at (binlog_dump_at-back p [] h refl)

pub acknowledgements_read_back : AcknowledgementsReadBack
acknowledgements_read_back p h = rw append-nil at (semi_sync_ack_at-back p [] h refl)

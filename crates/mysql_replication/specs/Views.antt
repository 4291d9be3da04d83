-- What the packets hold.
use Rattle.std.specs.Prelude.{◌≡◌, IfOk, IsOkUnless, List, Result, map, ℕ}
use Rattle.std.specs.Cow.{cow_slice_items, cow_str_bytes}
use Rattle.std.specs.declared.borrow.CowStr.{CowStr}
use Rattle.mysql_fields.specs.Texts.{lossy_text}
use Rattle.mysql_fields.specs.declared.error.WireError.TheVariants.{Memory}
use Rattle.mysql_fields.specs.declared.error.WireError.{WireError}
use Rattle.mysql_replication.specs.Sids.{sid_view}
use Rattle.mysql_replication.specs.Packets.{BinlogDump, BinlogDumpGtid, BinlogDumpGtidStart, RegisterSlave}
use Rattle.mysql_replication.specs.Packets.{ReplicaNames, ReplicaNumbers, Request, SemiSyncAck, TableDump}
use Rattle.mysql_replication.specs.declared.binlog_dump.ComBinlogDump.{ComBinlogDump}
use Rattle.mysql_replication.specs.declared.binlog_dump_gtid.ComBinlogDumpGtid.{ComBinlogDumpGtid}
use Rattle.mysql_replication.specs.declared.binlog_dump_gtid.Start.{Start}
use Rattle.mysql_replication.specs.declared.binlog_request.BinlogRequest.{BinlogRequest}
use Rattle.mysql_replication.specs.declared.register_slave.ComRegisterSlave.{ComRegisterSlave}
use Rattle.mysql_replication.specs.declared.register_slave.Names.{Names}
use Rattle.mysql_replication.specs.declared.register_slave.Numbers.{Numbers}
use Rattle.mysql_replication.specs.declared.semi_sync_ack.SemiSyncAckPacket.{SemiSyncAckPacket}
use Rattle.mysql_replication.specs.declared.table_dump.ComTableDump.{ComTableDump}

abbrev pub semi_sync_ack_view : SemiSyncAckPacket → SemiSyncAck
semi_sync_ack_view p = record { position = p.position; filename = cow_slice_items p.filename }

abbrev pub table_dump_view : ComTableDump → TableDump
table_dump_view p = record { database = cow_slice_items p.database; table = cow_slice_items p.table }

abbrev pub register_slave_view : ComRegisterSlave → RegisterSlave
register_slave_view p = record {
  server_id = p.server_id;
  hostname = cow_slice_items p.hostname;
  user = cow_slice_items p.user;
  password = cow_slice_items p.password;
  port = p.port;
  replication_rank = p.replication_rank;
  master_id = p.master_id;
}

abbrev pub names_view : Names → ReplicaNames
names_view p = record { hostname = p.hostname.now; user = p.user.now; password = p.password.now }

abbrev pub numbers_view : Numbers → ReplicaNumbers
numbers_view p = record { port = p.port; replication_rank = p.replication_rank; master_id = p.master_id }

abbrev pub binlog_dump_view : ComBinlogDump → BinlogDump
binlog_dump_view p = record {
  pos = p.pos;
  flags = p.flags.0;
  server_id = p.server_id;
  filename =
      cow_slice_items p.filename;
}

abbrev pub binlog_dump_gtid_view : ComBinlogDumpGtid → BinlogDumpGtid
binlog_dump_gtid_view p = record {
  flags = p.flags.0;
  server_id = p.server_id;
  filename = cow_slice_items p.filename;
  pos = p.pos;
  sids = map sid_view (cow_slice_items p.sids);
}

abbrev pub start_view : Start → BinlogDumpGtidStart
start_view p = record { filename = p.filename.now; pos = p.pos; block = p.block.now }

abbrev pub request_view : BinlogRequest → Request
request_view r = record {
  server_id = r.server_id;
  use_gtid = r.use_gtid;
  flags = r.flags.0;
  filename = cow_slice_items r.filename;
  pos = r.pos;
  sids = map sid_view r.sids.items;
}

-- What a text is shown as: its bytes, those that aren't UTF-8 replaced; refused for want of memory alone.
pub record IsLossyText {Z : Type 0} (result : Result (CowStr Z) WireError) (bytes : List ℕ) : Type 0 where
  pub memory : IsOkUnless result Memory
  pub text : IfOk result (λ text. cow_str_bytes text ≡ lossy_text bytes)

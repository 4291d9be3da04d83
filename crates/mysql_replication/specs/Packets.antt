-- The packets that a replica sends, as bytes: what is written of their fields, and what is read of any bytes.
-- MySQL: Client/Server Protocol, "COM_REGISTER_SLAVE", "COM_TABLE_DUMP", "COM_BINLOG_DUMP" and "COM_BINLOG_DUMP_GTID";
-- Internals Manual, "Semi-Sync ACK packet".
-- A reading takes bytes from the front: x.0 is what was read and x.1 the bytes left; the first refusal counts.
use Rattle.std.specs.Prelude.{◌≡◌, ℕ, ◌%◌, ◌-◌, ◌^◌, ◌<◌, ◌≤◌, ◌⊎◌, List, [], ◌∷◌, length, min, Bool, true, Ok}
use Rattle.std.specs.Prelude.{if◌then◌else◌, nat_le, nat_lt, ◌&&◌}
use Rattle.std.proofs.Common.{inl, inr}
use Rattle.std.specs.Int.RustNames.{bit_and, bit_or}
use Rattle.std.specs.List.{concat}
use Rattle.bitflags.specs.Sets.{without}
use Rattle.byteorder.specs.Endian.{little_bytes}
use Rattle.mysql_buf.specs.Writing.{u8_str, u32_str}
use Rattle.mysql_const.specs.BinlogDumpFlags.{binlog_dump_flags}
use Rattle.mysql_const.specs.Commands.{command_number}
use Rattle.mysql_const.specs.declared.command.Command.TheVariants.{COM_REGISTER_SLAVE, COM_TABLE_DUMP, COM_BINLOG_DUMP}
use Rattle.mysql_const.specs.declared.command.Command.TheVariants.{COM_BINLOG_DUMP_GTID}
use Rattle.mysql_replication.specs.Blocks.{IsBlock, block_at, block_bytes}
use Rattle.mysql_replication.specs.Sids.{SidParts}
use Rattle.mysql_fields.specs.Forms.{fixed_number_at}
use Rattle.mysql_fields.specs.Wire.{Reading, from_block, ◌>>=◌}
use Rattle.mysql_fields.specs.Texts.{u8_text_at, u32_text_at}
use Rattle.mysql_field_constants.specs.Constants.{constant_at, named_at}
use Rattle.mysql_field_constants.specs.Flags.{are_named, binlog_dump_named}

-- All that is left.
abbrev pub all_at : List ℕ → Reading (List ℕ)
all_at bytes = Ok (bytes, [])

-- The acknowledgement of an event: ef, its position, its file's name to the end.
pub record SemiSyncAck : Type 0 where
  pub position : ℕ
  pub filename : List ℕ

unfoldable pub semi_sync_ack : SemiSyncAck → List ℕ
semi_sync_ack p = concat (little_bytes 1 239 ∷ little_bytes 8 p.position ∷ p.filename ∷ [])

unfoldable pub semi_sync_ack_fields_at : List ℕ → Reading SemiSyncAck
semi_sync_ack_fields_at bytes = do
  header ← constant_at 1 239 bytes
  position ← fixed_number_at 8 header.1
  filename ← all_at position.1
  Ok (record { position = position.0; filename = filename.0 }, filename.1)

unfoldable pub semi_sync_ack_at : List ℕ → Reading SemiSyncAck
semi_sync_ack_at bytes = from_block 9 semi_sync_ack_fields_at bytes

pub record IsSemiSyncAck (p : SemiSyncAck) : Type 0 where
  pub position : p.position < 2 ^ 64

-- A request for a table: 13, the database's name and the table's.
pub record TableDump : Type 0 where
  pub database : List ℕ
  pub table : List ℕ

unfoldable pub table_dump : TableDump → List ℕ
table_dump p = concat (little_bytes 1 (command_number COM_TABLE_DUMP) ∷ u8_str p.database ∷ u8_str p.table ∷ [])

unfoldable pub table_dump_at : List ℕ → Reading TableDump
table_dump_at bytes = do
  header ← constant_at 1 (command_number COM_TABLE_DUMP) bytes
  database ← u8_text_at header.1
  table ← u8_text_at database.1
  Ok (record { database = database.0; table = table.0 }, table.1)

-- Its names are written whole: their lengths fit.
abbrev pub whole_table_dump : TableDump → Bool
whole_table_dump p = nat_le (length p.database) 255 && nat_le (length p.table) 255

-- Names that are written whole.
pub record IsTableDump (p : TableDump) : Type 0 where
  pub database : length p.database ≤ 255
  pub table : length p.table ≤ 255

-- What a replica says of itself: 15, its id, the names of its host and user and a password, its
-- port, its rank, its master's id.
pub record RegisterSlave : Type 0 where
  pub server_id : ℕ
  pub hostname : List ℕ
  pub user : List ℕ
  pub password : List ℕ
  pub port : ℕ
  pub replication_rank : ℕ
  pub master_id : ℕ

unfoldable pub register_slave : RegisterSlave → List ℕ
register_slave p = concat (
    little_bytes 1 (command_number COM_REGISTER_SLAVE) ∷ little_bytes 4 p.server_id ∷
    u8_str p.hostname ∷ u8_str p.user ∷ u8_str p.password
    ∷ little_bytes 2 p.port ∷ little_bytes 4 p.replication_rank ∷ little_bytes 4 p.master_id ∷ []
    )

-- The names of its host and user, and a password.
pub record ReplicaNames : Type 0 where
  pub hostname : List ℕ
  pub user : List ℕ
  pub password : List ℕ

unfoldable pub replica_names_at : List ℕ → Reading ReplicaNames
replica_names_at bytes = do
  hostname ← u8_text_at bytes
  user ← u8_text_at hostname.1
  password ← u8_text_at user.1
  Ok (record { hostname = hostname.0; user = user.0; password = password.0 }, password.1)

-- Its port, its rank and its master's id.
pub record ReplicaNumbers : Type 0 where
  pub port : ℕ
  pub replication_rank : ℕ
  pub master_id : ℕ

unfoldable pub replica_numbers_at : List ℕ → Reading ReplicaNumbers
replica_numbers_at bytes = do
  port ← fixed_number_at 2 bytes
  replication_rank ← fixed_number_at 4 port.1
  master_id ← fixed_number_at 4 replication_rank.1
  Ok (record { port = port.0; replication_rank = replication_rank.0; master_id = master_id.0 }, master_id.1)

unfoldable pub register_slave_fields_at : List ℕ → Reading RegisterSlave
register_slave_fields_at bytes = do
  header ← constant_at 1 (command_number COM_REGISTER_SLAVE) bytes
  server_id ← fixed_number_at 4 header.1
  names ← replica_names_at server_id.1
  numbers ← replica_numbers_at names.1
  Ok (
    record {
      server_id = server_id.0;
      hostname = names.0.hostname;
      user = names.0.user;
      password = names.0.password;
      port = numbers.0.port;
      replication_rank = numbers.0.replication_rank;
      master_id = numbers.0.master_id;
    },
    numbers.1,
  )

unfoldable pub register_slave_at : List ℕ → Reading RegisterSlave
register_slave_at bytes = from_block 5 register_slave_fields_at bytes

-- Its names are written whole: their lengths fit.
abbrev pub whole_register_slave : RegisterSlave → Bool
whole_register_slave p =
    nat_le (length p.hostname) 255 && nat_le (length p.user) 255 && nat_le (length p.password) 255

pub record IsRegisterSlave (p : RegisterSlave) : Type 0 where
  pub server_id : p.server_id < 2 ^ 32
  pub hostname : length p.hostname ≤ 255
  pub user : length p.user ≤ 255
  pub password : length p.password ≤ 255
  pub port : p.port < 2 ^ 16
  pub replication_rank : p.replication_rank < 2 ^ 32
  pub master_id : p.master_id < 2 ^ 32

-- A request for the binary log from a place: 12, the position, the flags, the replica's id, the file's name to the end.
pub record BinlogDump : Type 0 where
  pub pos : ℕ
  pub flags : ℕ
  pub server_id : ℕ
  pub filename : List ℕ

unfoldable pub binlog_dump : BinlogDump → List ℕ
binlog_dump p = concat (little_bytes 1 (command_number COM_BINLOG_DUMP) ∷ little_bytes 4 p.pos ∷
    little_bytes 2 p.flags ∷ little_bytes 4 p.server_id ∷ p.filename ∷ [])

unfoldable pub binlog_dump_fields_at : List ℕ → Reading BinlogDump
binlog_dump_fields_at bytes = do
  header ← constant_at 1 (command_number COM_BINLOG_DUMP) bytes
  pos ← fixed_number_at 4 header.1
  flags ← named_at binlog_dump_named (fixed_number_at 2) pos.1
  server_id ← fixed_number_at 4 flags.1
  filename ← all_at server_id.1
  Ok (record { pos = pos.0; flags = flags.0.0; server_id = server_id.0; filename = filename.0 }, filename.1)

unfoldable pub binlog_dump_at : List ℕ → Reading BinlogDump
binlog_dump_at bytes = from_block 11 binlog_dump_fields_at bytes

pub record IsBinlogDump (p : BinlogDump) : Type 0 where
  pub pos : p.pos < 2 ^ 32
  pub flags : p.flags < 2 ^ 16
  pub named : are_named binlog_dump_flags p.flags ≡ true
  pub server_id : p.server_id < 2 ^ 32

-- A request for the binary log without what is known: 1e, the flags, the replica's id, the file's
-- name, the position, and the block of the sets of transactions that are known, after its length in
-- four bytes (2^32 - 1 where it is longer).
pub record BinlogDumpGtid : Type 0 where
  pub flags : ℕ
  pub server_id : ℕ
  pub filename : List ℕ
  pub pos : ℕ
  pub sids : List SidParts

unfoldable pub binlog_dump_gtid : BinlogDumpGtid → List ℕ
binlog_dump_gtid p = concat (
    little_bytes 1 (command_number COM_BINLOG_DUMP_GTID) ∷ little_bytes 2 p.flags ∷
    little_bytes 4 p.server_id ∷ u32_str p.filename ∷ little_bytes 8 p.pos
    ∷ little_bytes 4 (min (length (block_bytes p.sids)) (2 ^ 32 - 1)) ∷ block_bytes p.sids ∷ []
    )

-- Its first byte, its flags and the replica's id.
unfoldable pub binlog_dump_gtid_front_at : List ℕ → Reading (ℕ × ℕ)
binlog_dump_gtid_front_at bytes = do
  header ← constant_at 1 (command_number COM_BINLOG_DUMP_GTID) bytes
  flags ← named_at binlog_dump_named (fixed_number_at 2) header.1
  server_id ← fixed_number_at 4 flags.1
  Ok ((flags.0.0, server_id.0), server_id.1)

-- Where the log is to start: the file's name, the position and the block of the sets that are known.
pub record BinlogDumpGtidStart : Type 0 where
  pub filename : List ℕ
  pub pos : ℕ
  pub block : List ℕ

unfoldable pub binlog_dump_gtid_start_at : List ℕ → Reading BinlogDumpGtidStart
binlog_dump_gtid_start_at bytes = do
  filename ← u32_text_at bytes
  pos ← fixed_number_at 8 filename.1
  block ← u32_text_at pos.1
  Ok (record { filename = filename.0; pos = pos.0; block = block.0 }, block.1)

unfoldable pub binlog_dump_gtid_fields_at : List ℕ → Reading BinlogDumpGtid
binlog_dump_gtid_fields_at bytes = do
  front ← binlog_dump_gtid_front_at bytes
  start ← binlog_dump_gtid_start_at front.1
  sids ← block_at start.0.block
  Ok (
    record {
      flags = front.0.0;
      server_id = front.0.1;
      filename = start.0.filename;
      pos =
          start.0.pos;
      sids = sids.0;
    },
    start.1,
  )

unfoldable pub binlog_dump_gtid_at : List ℕ → Reading BinlogDumpGtid
binlog_dump_gtid_at bytes = from_block 7 binlog_dump_gtid_fields_at bytes

-- Its file's name is written whole: its length fits.
abbrev pub whole_binlog_dump_gtid : BinlogDumpGtid → Bool
whole_binlog_dump_gtid p = nat_lt (length p.filename) (2 ^ 32)

pub record IsBinlogDumpGtid (p : BinlogDumpGtid) : Type 0 where
  pub flags : p.flags < 2 ^ 16
  pub named : are_named binlog_dump_flags p.flags ≡ true
  pub server_id : p.server_id < 2 ^ 32
  pub filename : length p.filename < 2 ^ 32
  pub pos : p.pos < 2 ^ 64
  pub sids : IsBlock p.sids

-- Flags that say so where there are sets, and only there.
abbrev pub through_gtid : List SidParts → ℕ → ℕ
through_gtid [] flags = without 16 flags 4
through_gtid (sid ∷ sids) flags = bit_or flags 4

-- What a request for the binary log says, whichever packet carries it.
pub record Request : Type 0 where
  pub server_id : ℕ
  pub use_gtid : Bool
  pub flags : ℕ
  pub filename : List ℕ
  pub pos : ℕ
  pub sids : List SidParts

-- From a place the packet carries the low 32 bits of the position and one flag, not to wait for more.
abbrev pub by_place : Request → BinlogDump
by_place r = record { pos = r.pos % 2 ^ 32; flags = bit_and r.flags 1; server_id = r.server_id; filename = r.filename }

abbrev pub by_gtid : Request → BinlogDumpGtid
by_gtid r = record {
  flags = through_gtid r.sids r.flags;
  server_id = r.server_id;
  filename =
      r.filename;
  pos = r.pos;
  sids = r.sids;
}

-- The packet that carries a request.
abbrev pub packet_of : Request → BinlogDump ⊎ BinlogDumpGtid
packet_of r = if r.use_gtid then inr (by_gtid r) else inl (by_place r)

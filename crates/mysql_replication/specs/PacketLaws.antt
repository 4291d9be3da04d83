-- What was written of a packet is read back.
use Rattle.std.proofs.Common.{◌≡◌, ℕ, ◌-◌, ◌^◌, ◌<◌, ◌≤◌, true, List, [], ◌∷◌, ◌++◌, length, min, Ok, refl, sym, ap}
use Rattle.std.proofs.Common.{◌∙◌, append-nil, append_assoc, arith, lit<}
use Rattle.std.proofs.lemmas.List.{take_all}
use Rattle.std.specs.List.{concat}
use Rattle.byteorder.specs.Endian.{little_bytes}
use Rattle.mysql_buf.specs.Writing.{front, u8_str, u32_str}
use Rattle.mysql_const.specs.BinlogDumpFlags.{binlog_dump_flags}
use Rattle.mysql_const.specs.Commands.{command_number}
use Rattle.mysql_const.specs.declared.command.Command.TheVariants.{COM_REGISTER_SLAVE, COM_TABLE_DUMP, COM_BINLOG_DUMP}
use Rattle.mysql_const.specs.declared.command.Command.TheVariants.{COM_BINLOG_DUMP_GTID}
use Rattle.mysql_replication.specs.BlockLaws.{block_at-back}
use Rattle.mysql_replication.specs.Blocks.{block_at, block_bytes}
use Rattle.mysql_fields.specs.Forms.{fixed_number_at}
use Rattle.mysql_fields.specs.Laws.{from_block-enough, fixed_number_at-back}
use Rattle.mysql_fields.specs.TextLaws.{u8_text_at-back, u32_text_at-back}
use Rattle.mysql_fields.specs.Texts.{u8_text_at, u32_text_at}
use Rattle.mysql_field_constants.specs.ConstantLaws.{constant_at-back}
use Rattle.mysql_field_constants.specs.Constants.{named_at}
use Rattle.mysql_field_constants.specs.Flags.{are_named, binlog_dump_named}
use Rattle.mysql_replication.specs.Packets.{BinlogDump, BinlogDumpGtid, IsBinlogDump, IsBinlogDumpGtid, IsRegisterSlave}
use Rattle.mysql_replication.specs.Packets.{IsSemiSyncAck, IsTableDump, RegisterSlave, SemiSyncAck, TableDump}
use Rattle.mysql_replication.specs.Packets.{binlog_dump, binlog_dump_at, binlog_dump_fields_at, binlog_dump_gtid}
use Rattle.mysql_replication.specs.Packets.{binlog_dump_gtid_at, binlog_dump_gtid_fields_at, binlog_dump_gtid_front_at}
use Rattle.mysql_replication.specs.Packets.{binlog_dump_gtid_start_at, register_slave, register_slave_at}
use Rattle.mysql_replication.specs.Packets.{register_slave_fields_at, replica_names_at, replica_numbers_at}
use Rattle.mysql_replication.specs.Packets.{semi_sync_ack, semi_sync_ack_at, semi_sync_ack_fields_at, table_dump}
use Rattle.mysql_replication.specs.Packets.{table_dump_at}

-- a name that is not cut
whole : (text : List ℕ) (most : ℕ) → length text ≤ most → front text most ≡ text
unfolding front
whole text most h = take_all most text h

name-back : (text rest : List ℕ) → length text ≤ 255 → u8_text_at (u8_str text ++ rest) ≡ Ok (text, rest)
name-back text rest h = u8_text_at-back text rest ∙ ap (λ (t : List ℕ). Ok (t, rest)) (whole text 255 h)

-- fields, and what follows them
abbrev pub before : List (List ℕ) → List ℕ → List ℕ
before [] rest = rest
before (field ∷ fields) rest = field ++ before fields rest

joined_before : (fields : List (List ℕ)) (rest : List ℕ) → concat fields ++ rest ≡ before fields rest
joined_before [] rest = refl
joined_before (field ∷ fields) rest = append_assoc field (concat fields) rest ∙
    ap (λ (later : List ℕ). field ++ later) (joined_before fields rest)

semi_sync_ack_fields_at-back : (p : SemiSyncAck) (rest : List ℕ) → IsSemiSyncAck p → rest ≡ [] →
    semi_sync_ack_fields_at (semi_sync_ack p ++ rest) ≡ Ok (p, rest)
unfolding semi_sync_ack semi_sync_ack_fields_at
semi_sync_ack_fields_at-back p rest h none =
    let name = p.filename ++ rest in
    let position = little_bytes 8 p.position ++ name in
    ap semi_sync_ack_fields_at (joined_before (little_bytes 1 239 ∷ little_bytes 8 p.position ∷ p.filename ∷ []) rest)
    ∙ rw (
      constant_at-back 1 239 position (lit< tt),
      fixed_number_at-back 8 p.position name h.position,
      none,
      append-nil p.filename,
    ) refl

pub semi_sync_ack_at-back : (p : SemiSyncAck) (rest : List ℕ) → IsSemiSyncAck p → rest ≡ [] →
    semi_sync_ack_at (semi_sync_ack p ++ rest) ≡ Ok (p, rest)
unfolding semi_sync_ack semi_sync_ack_at
semi_sync_ack_at-back p rest h none =
    from_block-enough 9 semi_sync_ack_fields_at (semi_sync_ack p ++ rest) (omega arith) ∙
    semi_sync_ack_fields_at-back p rest h none

pub table_dump_at-back : (p : TableDump) (rest : List ℕ) → IsTableDump p →
    table_dump_at (table_dump p ++ rest) ≡ Ok (p, rest)
unfolding table_dump table_dump_at
table_dump_at-back p rest h =
    let table = u8_str p.table ++ rest in
    let database = u8_str p.database ++ table in
    ap table_dump_at (joined_before (little_bytes 1 (command_number COM_TABLE_DUMP) ∷
    u8_str p.database ∷ u8_str p.table ∷ []) rest) ∙ rw (
      constant_at-back 1 (command_number COM_TABLE_DUMP) database (lit< tt),
      name-back p.database table h.database,
      name-back p.table rest h.table,
    ) refl

register_slave_fields_at-back : (p : RegisterSlave) (rest : List ℕ) → IsRegisterSlave p →
    register_slave_fields_at (register_slave p ++ rest) ≡ Ok (p, rest)
unfolding register_slave register_slave_fields_at replica_names_at replica_numbers_at
register_slave_fields_at-back p rest h =
    let master = little_bytes 4 p.master_id ++ rest in
    let rank = little_bytes 4 p.replication_rank ++ master in
    let port = little_bytes 2 p.port ++ rank in
    let password = u8_str p.password ++ port in
    let user = u8_str p.user ++ password in
    let host = u8_str p.hostname ++ user in
    let id = little_bytes 4 p.server_id ++ host in
    let fields =
    little_bytes 1 (command_number COM_REGISTER_SLAVE) ∷ little_bytes 4 p.server_id ∷
    u8_str p.hostname ∷ u8_str p.user ∷ u8_str p.password
    ∷ little_bytes 2 p.port ∷ little_bytes 4 p.replication_rank ∷ little_bytes 4 p.master_id ∷ [] in
    ap register_slave_fields_at (joined_before fields rest) ∙ rw (
      constant_at-back 1 (command_number COM_REGISTER_SLAVE) id (lit< tt),
      fixed_number_at-back 4 p.server_id host h.server_id,
      name-back p.hostname user h.hostname,
      name-back p.user password h.user,
      name-back p.password port h.password,
      fixed_number_at-back 2 p.port rank h.port,
      fixed_number_at-back 4 p.replication_rank master h.replication_rank,
      fixed_number_at-back 4 p.master_id rest h.master_id,
    ) refl

pub register_slave_at-back : (p : RegisterSlave) (rest : List ℕ) → IsRegisterSlave p →
    register_slave_at (register_slave p ++ rest) ≡ Ok (p, rest)
unfolding register_slave register_slave_at
register_slave_at-back p rest h =
    from_block-enough 5 register_slave_fields_at (register_slave p ++ rest) (omega arith) ∙
    register_slave_fields_at-back p rest h

-- named flags that were written are read again
flags-back : (flags : ℕ) (rest : List ℕ) → flags < 2 ^ 16 → are_named binlog_dump_flags flags ≡ true
    → named_at binlog_dump_named (fixed_number_at 2) (little_bytes 2 flags ++ rest) ≡ Ok (record { 0 = flags }, rest)
flags-back flags rest h named = rw (fixed_number_at-back 2 flags rest h, named) refl

binlog_dump_fields_at-back : (p : BinlogDump) (rest : List ℕ) → IsBinlogDump p → rest ≡ [] →
    binlog_dump_fields_at (binlog_dump p ++ rest) ≡ Ok (p, rest)
unfolding binlog_dump binlog_dump_fields_at
binlog_dump_fields_at-back p rest h none =
    let name = p.filename ++ rest in
    let id = little_bytes 4 p.server_id ++ name in
    let flags = little_bytes 2 p.flags ++ id in
    let pos = little_bytes 4 p.pos ++ flags in
    let fields = little_bytes 1 (command_number COM_BINLOG_DUMP) ∷ little_bytes 4 p.pos ∷
    little_bytes 2 p.flags ∷ little_bytes 4 p.server_id ∷ p.filename ∷ [] in
    ap binlog_dump_fields_at (joined_before fields rest) ∙ rw (
      constant_at-back 1 (command_number COM_BINLOG_DUMP) pos (lit< tt),
      fixed_number_at-back 4 p.pos flags h.pos,
      flags-back p.flags id h.flags h.named,
      fixed_number_at-back 4 p.server_id name h.server_id,
      none,
      append-nil p.filename,
    ) refl

pub binlog_dump_at-back : (p : BinlogDump) (rest : List ℕ) → IsBinlogDump p → rest ≡ [] →
    binlog_dump_at (binlog_dump p ++ rest) ≡ Ok (p, rest)
unfolding binlog_dump binlog_dump_at
binlog_dump_at-back p rest h none =
    from_block-enough 11 binlog_dump_fields_at (binlog_dump p ++ rest) (omega arith) ∙
    binlog_dump_fields_at-back p rest h none

-- a text of less than 2^32 bytes
long_text-back : (text rest : List ℕ) → length text < 2 ^ 32 → u32_text_at (u32_str text ++ rest) ≡ Ok (text, rest)
long_text-back text rest h = u32_text_at-back text rest ∙
    ap (λ (t : List ℕ). Ok (t, rest)) (whole text (2 ^ 32 - 1) (omega arith))

-- a block of less than 2^32 bytes is written as such a text
as_text : (block : List ℕ) → length block < 2 ^ 32 →
    little_bytes 4 (min (length block) (2 ^ 32 - 1)) ++ block ≡ u32_str block
as_text block h =
    let same = whole block (2 ^ 32 - 1) (omega arith) in
    let len : min (length block) (2 ^ 32 - 1) ≡ length block = omega arith in
    rw (same, len) refl

-- a block behind its length
block-back : (block rest : List ℕ) → length block < 2 ^ 32 →
    u32_text_at (little_bytes 4 (min (length block) (2 ^ 32 - 1)) ++ (block ++ rest)) ≡
    Ok (block, rest)
block-back block rest h =
    ap u32_text_at (sym (append_assoc (little_bytes 4 (min (length block) (2 ^ 32 - 1))) block
    rest) ∙ ap (λ (text : List ℕ). text ++ rest) (as_text block h))
    ∙ long_text-back block rest h

block_alone : (p : BinlogDumpGtid) → IsBinlogDumpGtid p → block_at (block_bytes p.sids) ≡ Ok (p.sids, [])
block_alone p h = rw append-nil at (block_at-back p.sids [] h.sids)

binlog_dump_gtid_fields_at-back : (p : BinlogDumpGtid) (rest : List ℕ) → IsBinlogDumpGtid p →
    binlog_dump_gtid_fields_at (binlog_dump_gtid p ++ rest) ≡ Ok (p, rest)
unfolding binlog_dump_gtid binlog_dump_gtid_fields_at binlog_dump_gtid_front_at binlog_dump_gtid_start_at
binlog_dump_gtid_fields_at-back p rest h =
    let bytes = block_bytes p.sids in
    let len = little_bytes 4 (min (length bytes) (2 ^ 32 - 1)) in
    let block = len ++ (bytes ++ rest) in
    let pos = little_bytes 8 p.pos ++ block in
    let name = u32_str p.filename ++ pos in
    let id = little_bytes 4 p.server_id ++ name in
    let flags = little_bytes 2 p.flags ++ id in
    let fields = little_bytes 1 (command_number COM_BINLOG_DUMP_GTID) ∷ little_bytes 2 p.flags ∷
    little_bytes 4 p.server_id ∷ u32_str p.filename ∷ little_bytes 8 p.pos ∷ len ∷ bytes ∷ [] in
    ap binlog_dump_gtid_fields_at (joined_before fields rest) ∙ rw (
      constant_at-back 1 (command_number COM_BINLOG_DUMP_GTID) flags (lit< tt),
      flags-back p.flags id h.flags h.named,
      fixed_number_at-back 4 p.server_id name h.server_id,
      long_text-back p.filename pos h.filename,
      fixed_number_at-back 8 p.pos block h.pos,
      block-back bytes rest h.sids.short,
      block_alone p h,
    ) refl

pub binlog_dump_gtid_at-back : (p : BinlogDumpGtid) (rest : List ℕ) → IsBinlogDumpGtid p →
    binlog_dump_gtid_at (binlog_dump_gtid p ++ rest) ≡ Ok (p, rest)
unfolding binlog_dump_gtid binlog_dump_gtid_at
binlog_dump_gtid_at-back p rest h =
    from_block-enough 7 binlog_dump_gtid_fields_at (binlog_dump_gtid p ++ rest) (omega arith) ∙
    binlog_dump_gtid_fields_at-back p rest h

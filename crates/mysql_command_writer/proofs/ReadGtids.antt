-- A request for the binary log by sets of transactions that was read may be put.
use Rattle.std.proofs.Common.{◌≡◌, ◌<◌, ◌^◌, ℕ, true, List, [], length, take, Option, Some, None, Ok, refl, sym, ap}
use Rattle.std.proofs.Common.{subst, arith}
use Rattle.std.proofs.lemmas.List.{length-take}
use Rattle.mysql_buf.specs.Bytes.{AreBytes}
use Rattle.mysql_buf.specs.FirstBytes.{first-some}
use Rattle.mysql_buf.specs.Reading as buffer
use Rattle.mysql_buf.specs.Reading.{little_at}
use Rattle.mysql_const.specs.BinlogDumpFlags.{binlog_dump_flags}
use Rattle.mysql_handshake_response.proofs.AttributesHeld.{taken_bytes}
use Rattle.mysql_field_constants.specs.Constants.{constant_at, named_at}
use Rattle.mysql_field_constants.specs.Flags.{are_named, binlog_dump_named}
use Rattle.mysql_fields.specs.Forms.{fixed_number_at}
use Rattle.mysql_fields.specs.Laws.{bind_ok, ok_same}
use Rattle.mysql_fields.specs.Texts.{u32_text_at}
use Rattle.mysql_fields.specs.Wire.{or_end}
use Rattle.mysql_replication.specs.Blocks.{block_at, block_bytes}
use Rattle.mysql_login.proofs.FieldsRead.{constant_read, left_bytes, number_read, stands}
use Rattle.mysql_replication.specs.Packets as replica
use Rattle.mysql_replication.specs.Packets.{BinlogDumpGtidStart, binlog_dump_gtid_at, binlog_dump_gtid_fields_at}
use Rattle.mysql_replication.specs.Packets.{binlog_dump_gtid_front_at, binlog_dump_gtid_start_at}
use Rattle.mysql_command_writer.proofs.GtidDumps.{HasGtidParts}
use Rattle.mysql_command_writer.proofs.ReadPackets.{flags_read, in_block}
use Rattle.mysql_command_writer.proofs.ReadSets.{block_read}

-- a text behind its length in four bytes
abbrev pub TextRead : List ℕ × List ℕ → Type 0
TextRead x = (length x.0 < 2 ^ 32) × AreBytes x.0 × AreBytes x.1

text_by : (bytes : List ℕ) (x : List ℕ × List ℕ) (r : Option (ℕ × List ℕ)) → AreBytes bytes → little_at 4 bytes ≡ r →
    buffer.then_at r buffer.bytes_at ≡ Some x → TextRead x
text_by bytes x None small e h = absurd cc
text_by bytes x (Some n) small e h =
    let read = number_read 4 bytes n small (ap or_end e) in
    let part = first-some n.0 (take n.0) n.1 x h in
    let low : n.0 < 256 ^ 4 = read.0 in
    subst TextRead (sym part.1)
    (omega (arith, length-take n.0 n.1), taken_bytes n.0 n.1 read.1, left_bytes n.0 n.1 read.1)

text_read : (bytes : List ℕ) (x : List ℕ × List ℕ) → AreBytes bytes → u32_text_at bytes ≡ Ok x → TextRead x
text_read bytes x small h =
    text_by bytes x (little_at 4 bytes) small refl (stands (buffer.then_at (little_at 4 bytes) buffer.bytes_at) x h)

-- its flags have names
abbrev pub FrontRead : (ℕ × ℕ) × List ℕ → Type 0
FrontRead x = (x.0.0 < 2 ^ 16) × (are_named binlog_dump_flags x.0.0 ≡ true) × (x.0.1 < 2 ^ 32) × AreBytes x.1

front_read : (bytes : List ℕ) (x : (ℕ × ℕ) × List ℕ) → AreBytes bytes →
    binlog_dump_gtid_front_at bytes ≡ Ok x → FrontRead x
unfolding binlog_dump_gtid_front_at
front_read bytes x small h =
    let header = bind_ok (constant_at 1 30 bytes) _ x h in
    let flags = bind_ok (named_at binlog_dump_named (fixed_number_at 2) header.0.1) _ x header.2 in
    let a = flags_read header.0.1 flags.0 (constant_read 1 30 bytes header.0 small header.1) flags.1 in
    let id = bind_ok (fixed_number_at 4 flags.0.1) _ x flags.2 in
    let b = number_read 4 flags.0.1 id.0 a.2 id.1 in
    let low : id.0.0 < 256 ^ 4 = b.0 in
    let made : (ℕ × ℕ) × List ℕ = ((flags.0.0.0, id.0.0), id.0.1) in
    subst FrontRead (ok_same made x id.2) (a.0, a.1, omega arith, b.1)

-- its name and its block fit their lengths
pub record StartRead (start : BinlogDumpGtidStart) : Type 0 where
  pub filename : length start.filename < 2 ^ 32
  pub pos : start.pos < 2 ^ 64
  pub block : length start.block < 2 ^ 32
  pub small : AreBytes start.block

start_read : (bytes : List ℕ) (x : BinlogDumpGtidStart × List ℕ) → AreBytes bytes →
    binlog_dump_gtid_start_at bytes ≡ Ok x →
    StartRead x.0
unfolding binlog_dump_gtid_start_at
start_read bytes x small h =
    let name = bind_ok (u32_text_at bytes) _ x h in
    let a = text_read bytes name.0 small name.1 in
    let pos = bind_ok (fixed_number_at 8 name.0.1) _ x name.2 in
    let b = number_read 8 name.0.1 pos.0 a.2 pos.1 in
    let block = bind_ok (u32_text_at pos.0.1) _ x pos.2 in
    let d = text_read pos.0.1 block.0 b.1 block.1 in
    let low : pos.0.0 < 256 ^ 8 = b.0 in
    let made : BinlogDumpGtidStart × List ℕ =
    (record { filename = name.0.0; pos = pos.0.0; block = block.0.0 }, block.0.1) in
    subst (λ (y : BinlogDumpGtidStart × List ℕ). StartRead y.0) (ok_same made x block.2)
    (record { filename = a.0; pos = omega arith; block = d.0; small = d.1 })

-- what has to be so of a request that is put
abbrev pub MayBePut : replica.BinlogDumpGtid → Type 0
MayBePut q = HasGtidParts q × (are_named binlog_dump_flags q.flags ≡ true) × (length q.filename < 2 ^ 32) ×
    (length (block_bytes q.sids) < 2 ^ 32)

fields_read : (payload : List ℕ) (x : replica.BinlogDumpGtid × List ℕ) → AreBytes payload →
    binlog_dump_gtid_fields_at payload ≡ Ok x → MayBePut x.0
unfolding binlog_dump_gtid_fields_at
fields_read payload x small h =
    let front = bind_ok (binlog_dump_gtid_front_at payload) _ x h in
    let a = front_read payload front.0 small front.1 in
    let start = bind_ok (binlog_dump_gtid_start_at front.0.1) _ x front.2 in
    let b = start_read front.0.1 start.0 a.3 start.1 in
    let sids = bind_ok (block_at start.0.0.block) _ x start.2 in
    let d = block_read start.0.0.block sids.0 b.small sids.1 in
    let made : replica.BinlogDumpGtid × List ℕ = (
      record {
        flags = front.0.0.0;
        server_id = front.0.0.1;
        filename = start.0.0.filename;
        pos = start.0.0.pos;
        sids = sids.0.0;
      },
      start.0.1,
    ) in
    subst (λ (y : replica.BinlogDumpGtid × List ℕ). MayBePut y.0) (ok_same made x sids.2) (
      record { flags = a.0; server_id = a.2; pos = b.pos; sids = d.0 },
      a.1,
      b.filename,
      omega (arith, d.1, b.block),
    )

pub gtid_read : (payload : List ℕ) (q : replica.BinlogDumpGtid) → AreBytes payload →
    binlog_dump_gtid_at payload ≡ Ok (q, []) →
    MayBePut q
unfolding binlog_dump_gtid_at
gtid_read payload q small h =
    fields_read payload (q, []) small (in_block 7 binlog_dump_gtid_fields_at payload (q, []) h)

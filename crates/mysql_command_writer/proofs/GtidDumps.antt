-- A request for the binary log by sets of transactions reads as it was put exactly where its flags have names, and its
-- file's name and its sets fit their lengths.
use Rattle.std.proofs.Common.{◌≡◌, ◌≤◌, ◌<◌, ℕ, ◌^◌, ◌-◌, List, [], ◌∷◌, ◌++◌, Ok, Err, Option, None, true}
use Rattle.std.proofs.Common.{false, length, take, drop, min, refl, sym, ap, ◌∙◌, append-nil, arith, lit<}
use Rattle.std.proofs.Common.{length-drop}
use Rattle.std.proofs.lemmas.Bool.Decides.{nat_tests}
use Rattle.std.proofs.lemmas.List.{take_all}
use Rattle.std.specs.List.{AllByRecursion, concat}
use Rattle.byteorder.specs.Endian.{little_bytes}
use Rattle.mysql_buf.specs.FirstBytes.{first-enough}
use Rattle.mysql_buf.specs.NumberLaws.{little-reads_back}
use Rattle.mysql_buf.specs.TextLaws.{front-bound}
use Rattle.mysql_buf.specs.Writing.{front, u32_str}
use Rattle.mysql_const.specs.BinlogDumpFlags.{binlog_dump_flags}
use Rattle.mysql_const.specs.declared.capabilities.Capabilities.{Capabilities}
use Rattle.mysql_executions.specs.InForce.{InForce}
use Rattle.mysql_field_constants.specs.ConstantLaws.{constant_at-back}
use Rattle.mysql_field_constants.specs.Flags.{are_named}
use Rattle.mysql_fields.specs.Laws.{fixed_number_at-back, from_block-enough}
use Rattle.mysql_fields.specs.TextLaws.{u32_text_at-back}
use Rattle.mysql_fields.specs.Texts.{u32_text_at}
use Rattle.mysql_fields.specs.Wire.{Reading, ◌>>=◌}
use Rattle.mysql_fields.specs.declared.error.WireError.{WireError}
use Rattle.mysql_fields.specs.declared.error.WireError.TheVariants.{UnknownValue}
use Rattle.mysql_replication.specs.Blocks.{IsSid, block_at, block_bytes}
use Rattle.mysql_replication.specs.Sids.{SidParts}
use Rattle.mysql_replication.specs.PacketLaws.{binlog_dump_gtid_at-back}
use Rattle.mysql_replication.specs.Packets as replica
use Rattle.mysql_replication.specs.Packets.{IsBinlogDumpGtid, binlog_dump_gtid, binlog_dump_gtid_at}
use Rattle.mysql_replication.specs.Packets.{binlog_dump_gtid_fields_at, binlog_dump_gtid_front_at}
use Rattle.mysql_replication.specs.Packets.{binlog_dump_gtid_start_at}
use Rattle.mysql_commands.specs.Commands.{BinlogDumpGtid, Other, all_of, command_at}
use Rattle.mysql_command_writer.specs.Refusals.{ReadsBack}
use Rattle.mysql_command_writer.specs.Written.{command_bytes}

-- its numbers fit their fields and its sets are such, as those of each do
pub record HasGtidParts (p : replica.BinlogDumpGtid) : Type 0 where
  pub flags : p.flags < 2 ^ 16
  pub server_id : p.server_id < 2 ^ 32
  pub pos : p.pos < 2 ^ 64
  pub sids : AllByRecursion IsSid p.sids

gtids_back : (capabilities : Capabilities) (parameters : Option InForce) (p q : replica.BinlogDumpGtid) →
    binlog_dump_gtid_at (binlog_dump_gtid p) ≡ Ok (q, []) →
    command_at capabilities parameters (command_bytes capabilities parameters (BinlogDumpGtid p)) ≡ BinlogDumpGtid q
unfolding binlog_dump_gtid
gtids_back capabilities parameters p q e = rw e refl

gtids_alone : (p : replica.BinlogDumpGtid) → IsBinlogDumpGtid p → binlog_dump_gtid_at (binlog_dump_gtid p) ≡ Ok (p, [])
gtids_alone p h = rw append-nil at (binlog_dump_gtid_at-back p [] h)

pub gtids_read : (capabilities : Capabilities) (parameters : Option InForce) (p : replica.BinlogDumpGtid) →
    HasGtidParts p → are_named binlog_dump_flags p.flags ≡ true → length p.filename < 2 ^ 32 →
    length (block_bytes p.sids) < 2 ^ 32 → ReadsBack capabilities parameters (BinlogDumpGtid p)
gtids_read capabilities parameters p n named name short =
    gtids_back capabilities parameters p p (gtids_alone p (record {
      flags = n.flags;
      named = named;
      server_id = n.server_id;
      filename = name;
      pos = n.pos;
      sids = record { sets = n.sids; short = short };
    }))

-- a name that is cut
cut_name : (name : List ℕ) → length (front name (2 ^ 32 - 1)) < 2 ^ 32
cut_name name = omega (arith, front-bound name (2 ^ 32 - 1))

cut_name_bytes : (name : List ℕ) → u32_str (front name (2 ^ 32 - 1)) ≡ u32_str name
unfolding front
cut_name_bytes name =
    let same : front (front name (2 ^ 32 - 1)) (2 ^ 32 - 1) ≡ front name (2 ^ 32 - 1) =
    take_all (2 ^ 32 - 1) (front name (2 ^ 32 - 1)) (front-bound name (2 ^ 32 - 1)) in
    ap (λ (n : List ℕ). little_bytes 4 (length n) ++ n) same

cut_gtid : replica.BinlogDumpGtid → replica.BinlogDumpGtid
cut_gtid p = record p { filename = front p.filename (2 ^ 32 - 1) }

-- its bytes by those of its name
abbrev of_name : replica.BinlogDumpGtid → List ℕ → List ℕ
of_name p name = concat (
    little_bytes 1 30 ∷ little_bytes 2 p.flags ∷ little_bytes 4 p.server_id ∷ name ∷ little_bytes 8 p.pos
    ∷ little_bytes 4 (min (length (block_bytes p.sids)) (2 ^ 32 - 1)) ∷ block_bytes p.sids ∷ []
    )

cut_gtid_bytes : (p : replica.BinlogDumpGtid) → binlog_dump_gtid (cut_gtid p) ≡ binlog_dump_gtid p
unfolding binlog_dump_gtid cut_gtid
cut_gtid_bytes p = ap (of_name p) (cut_name_bytes p.filename)

same_gtid : (p q : replica.BinlogDumpGtid) → BinlogDumpGtid p ≡ BinlogDumpGtid q → p ≡ q
same_gtid p q e = cc

-- a name that is too long is read cut
pub long_names : (capabilities : Capabilities) (parameters : Option InForce) (p : replica.BinlogDumpGtid) →
    HasGtidParts p → are_named binlog_dump_flags p.flags ≡ true → 2 ^ 32 ≤ length p.filename →
    length (block_bytes p.sids) < 2 ^ 32 → ReadsBack capabilities parameters (BinlogDumpGtid p) → ⊥
unfolding cut_gtid
long_names capabilities parameters p n named long short e =
    let is : IsBinlogDumpGtid (cut_gtid p) = record {
      flags = n.flags;
      named = named;
      server_id = n.server_id;
      filename = cut_name p.filename;
      pos = n.pos;
      sids = record { sets = n.sids; short = short };
    } in
    let cut = gtids_back capabilities parameters p (cut_gtid p)
    (ap binlog_dump_gtid_at (sym (cut_gtid_bytes p)) ∙ gtids_alone (cut_gtid p) is) in
    let same = ap (λ (q : replica.BinlogDumpGtid). q.filename) (same_gtid (cut_gtid p) p (sym cut ∙ e)) in
    omega (arith, cut_name p.filename, ap length same)

other_is_no_gtid : (p : replica.BinlogDumpGtid) (payload : List ℕ) → Other payload ≡ BinlogDumpGtid p → ⊥
other_is_no_gtid p payload e = cc

-- a request that isn't read whole is another payload
unread : (capabilities : Capabilities) (parameters : Option InForce) (p : replica.BinlogDumpGtid) →
    all_of (binlog_dump_gtid_at (binlog_dump_gtid p)) ≡ None →
    command_at capabilities parameters (command_bytes capabilities parameters (BinlogDumpGtid p)) ≡
    Other (binlog_dump_gtid p)
unfolding binlog_dump_gtid
unread capabilities parameters p h = rw h refl

-- FLAGS

nameless_front : (p : replica.BinlogDumpGtid) → HasGtidParts p → are_named binlog_dump_flags p.flags ≡ false →
    binlog_dump_gtid_fields_at (binlog_dump_gtid p) ≡ Err UnknownValue
unfolding binlog_dump_gtid binlog_dump_gtid_fields_at binlog_dump_gtid_front_at
nameless_front p n h =
    let bytes = block_bytes p.sids ++ [] in
    let block = little_bytes 4 (min (length (block_bytes p.sids)) (2 ^ 32 - 1)) ++ bytes in
    let pos = little_bytes 8 p.pos ++ block in
    let name = u32_str p.filename ++ pos in
    let id = little_bytes 4 p.server_id ++ name in
    let flags = little_bytes 2 p.flags ++ id in
    rw (constant_at-back 1 30 flags (lit< tt), fixed_number_at-back 2 p.flags id n.flags, h) refl

-- its first seven bytes are there
enough : (p : replica.BinlogDumpGtid) → binlog_dump_gtid_at (binlog_dump_gtid p) ≡
    binlog_dump_gtid_fields_at (binlog_dump_gtid p)
unfolding binlog_dump_gtid binlog_dump_gtid_at
enough p = from_block-enough 7 binlog_dump_gtid_fields_at (binlog_dump_gtid p) (omega arith)

refused : (r : Reading replica.BinlogDumpGtid) (e : WireError) → r ≡ Err e → all_of r ≡ None
refused r e h = rw h refl

pub nameless_gtids : (capabilities : Capabilities) (parameters : Option InForce) (p : replica.BinlogDumpGtid) →
    HasGtidParts p → are_named binlog_dump_flags p.flags ≡ false →
    ReadsBack capabilities parameters (BinlogDumpGtid p) → ⊥
nameless_gtids capabilities parameters p n h e =
    let none = refused (binlog_dump_gtid_at (binlog_dump_gtid p)) UnknownValue (enough p ∙ nameless_front p n h) in
    other_is_no_gtid p (binlog_dump_gtid p) (sym (unread capabilities parameters p none) ∙ e)

-- SETS

-- of a block that is too long its length says less
cut_block : (bytes : List ℕ) → 2 ^ 32 ≤ length bytes →
    u32_text_at (little_bytes 4 (min (length bytes) (2 ^ 32 - 1)) ++ (bytes ++ [])) ≡
    Ok (take (2 ^ 32 - 1) bytes, drop (2 ^ 32 - 1) bytes)
cut_block bytes h =
    let len : min (length bytes) (2 ^ 32 - 1) ≡ 2 ^ 32 - 1 = omega arith in
    rw (
      len,
      append-nil bytes,
      little-reads_back 4 (2 ^ 32 - 1) bytes (lit< tt),
      first-enough (2 ^ 32 - 1) (take (2 ^ 32 - 1)) bytes (omega arith),
    ) refl

-- a request with other sets, and the first bytes of its name
with_sids : replica.BinlogDumpGtid → List SidParts → replica.BinlogDumpGtid
with_sids p sids = record {
  flags = p.flags;
  server_id = p.server_id;
  filename = front p.filename (2 ^ 32 - 1);
  pos = p.pos;
  sids = sids;
}

-- what is read where the block is too long
long_fields : (p : replica.BinlogDumpGtid) → HasGtidParts p → are_named binlog_dump_flags p.flags ≡ true →
    2 ^ 32 ≤ length (block_bytes p.sids) → binlog_dump_gtid_fields_at (binlog_dump_gtid p) ≡
    (block_at (take (2 ^ 32 - 1) (block_bytes p.sids)) >>= λ sids. Ok (
      with_sids p sids.0,
      drop (2 ^ 32 - 1) (block_bytes p.sids),
    ))
unfolding binlog_dump_gtid binlog_dump_gtid_fields_at binlog_dump_gtid_front_at binlog_dump_gtid_start_at with_sids
long_fields p n named long =
    let bytes = block_bytes p.sids in
    let block = little_bytes 4 (min (length bytes) (2 ^ 32 - 1)) ++ (bytes ++ []) in
    let pos = little_bytes 8 p.pos ++ block in
    let name = u32_str p.filename ++ pos in
    let id = little_bytes 4 p.server_id ++ name in
    let flags = little_bytes 2 p.flags ++ id in
    rw (
      constant_at-back 1 30 flags (lit< tt),
      fixed_number_at-back 2 p.flags id n.flags,
      named,
      fixed_number_at-back 4 p.server_id name n.server_id,
      u32_text_at-back p.filename pos,
      fixed_number_at-back 8 p.pos block n.pos,
      cut_block bytes long,
    ) refl

-- where bytes are left, it isn't all
left_over : (r : Reading (List SidParts)) (f : List SidParts → replica.BinlogDumpGtid) (rest : List ℕ) →
    0 < length rest → all_of (r >>= λ sids. Ok (f sids.0, rest)) ≡ None
left_over (Err e) f rest h = refl
left_over (Ok sids) f rest h = grind (arith, nat_tests)

bytes_are_left : (bytes : List ℕ) → 2 ^ 32 ≤ length bytes → 0 < length (drop (2 ^ 32 - 1) bytes)
bytes_are_left bytes long = omega (arith, length-drop (2 ^ 32 - 1) bytes)

pub long_sids : (capabilities : Capabilities) (parameters : Option InForce) (p : replica.BinlogDumpGtid) →
    HasGtidParts p → are_named binlog_dump_flags p.flags ≡ true → 2 ^ 32 ≤ length (block_bytes p.sids) →
    ReadsBack capabilities parameters (BinlogDumpGtid p) → ⊥
long_sids capabilities parameters p n named long e =
    let bytes = block_bytes p.sids in
    let none = ap all_of (enough p ∙ long_fields p n named long)
    ∙ left_over (block_at (take (2 ^ 32 - 1) bytes)) (with_sids p) (drop (2 ^ 32 - 1) bytes)
    (bytes_are_left bytes long) in
    other_is_no_gtid p (binlog_dump_gtid p) (sym (unread capabilities parameters p none) ∙ e)

-- Packets of a replica that were read may be put.
use Rattle.std.proofs.Common.{◌≡◌, ◌<◌, ◌≤◌, ◌^◌, ℕ, Bool, true, false, if◌then◌else◌, List, []}
use Rattle.std.proofs.Common.{length, ◌&&◌, nat_le, Some, None, Ok, Err, refl, sym, ap, ◌∙◌, subst, arith}
use Rattle.std.proofs.lemmas.Bool.Decides.{nat_tests}
use Rattle.mysql_buf.specs.Bytes.{AreBytes}
use Rattle.mysql_const.specs.BinlogDumpFlags.{binlog_dump_flags}
use Rattle.mysql_const.specs.declared.binlog.BinlogDumpFlags.{BinlogDumpFlags}
use Rattle.mysql_field_constants.specs.Constants.{constant_at, named_at, or_unknown}
use Rattle.mysql_field_constants.specs.Flags.{are_named, binlog_dump_named}
use Rattle.mysql_fields.specs.Forms.{fixed_number_at}
use Rattle.mysql_fields.specs.Laws.{bind_ok, ok_same}
use Rattle.mysql_fields.specs.Texts.{u8_text_at}
use Rattle.mysql_fields.specs.Wire.{Reading, from_block, lacks, ◌>>=◌}
use Rattle.mysql_fields.specs.declared.error.WireError.TheVariants.{UnexpectedEof}
use Rattle.mysql_login.proofs.FieldsRead.{constant_read, number_read, text_read}
use Rattle.mysql_replication.specs.Packets as replica
use Rattle.mysql_replication.specs.Packets.{binlog_dump_at, binlog_dump_fields_at, register_slave_at}
use Rattle.mysql_replication.specs.Packets.{register_slave_fields_at, replica_names_at, replica_numbers_at}
use Rattle.mysql_replication.specs.Packets.{table_dump_at}
use Rattle.mysql_replication.specs.Packets.{whole_register_slave, whole_table_dump}
use Rattle.mysql_command_writer.proofs.ReadCommands.{ok_of}
use Rattle.mysql_command_writer.proofs.Replication.{HasDumpNumbers, HasReplicaNumbers}

block_by : {X : Type 0} (few : Bool) (reading : Reading X) (x : X × List ℕ) →
    (if few then Err UnexpectedEof else reading) ≡ Ok x → reading ≡ Ok x
block_by true reading x h = absurd cc
block_by false reading x h = h

-- what is read behind a block that is there
pub in_block : {X : Type 0} (n : ℕ) (read_at : List ℕ → Reading X) (bytes : List ℕ) (x : X × List ℕ) →
    from_block n read_at bytes ≡ Ok x → read_at bytes ≡ Ok x
in_block {X} n read_at bytes x h = block_by (lacks (Some n) (length bytes)) (read_at bytes) x h

-- A REQUEST FOR A TABLE

both_fit : (a b : ℕ) → a ≤ 255 → b ≤ 255 → nat_le a 255 && nat_le b 255 ≡ true
both_fit a b x y = grind (arith, nat_tests)

made_table : List ℕ → List ℕ → replica.TableDump
made_table database table = record { database = database; table = table }

pub table_read : (payload : List ℕ) (q : replica.TableDump) → AreBytes payload → table_dump_at payload ≡ Ok (q, []) →
    whole_table_dump q ≡ true
unfolding table_dump_at made_table
table_read payload q small h =
    let header = bind_ok (constant_at 1 19 payload) (λ header. u8_text_at header.1 >>= λ database.
    u8_text_at database.1 >>= λ table. ok_of (made_table database.0 table.0, table.1)) (q, []) h in
    let database = bind_ok (u8_text_at header.0.1) (λ database. u8_text_at database.1 >>= λ table.
    ok_of (made_table database.0 table.0, table.1)) (q, []) header.2 in
    let table = bind_ok (u8_text_at database.0.1) (λ table. ok_of (made_table database.0.0 table.0, table.1)) (q, [])
    database.2 in
    let first = text_read header.0.1 database.0 (constant_read 1 19 payload header.0 small header.1) database.1 in
    let second = text_read database.0.1 table.0 first.1 table.1 in
    let same = ap (λ (x : replica.TableDump × List ℕ). x.0)
    (ok_same (made_table database.0.0 table.0.0, table.0.1) (q, []) table.2) in
    subst (λ (p : replica.TableDump). whole_table_dump p ≡ true) same
    (both_fit (length database.0.0) (length table.0.0) first.0 second.0)

-- A REQUEST FOR THE BINARY LOG FROM A PLACE

made_flags : ℕ → BinlogDumpFlags
made_flags bits = record { 0 = bits }

-- flags that were read have names
flags_by : (bits : ℕ) (named : Bool) (rest : List ℕ) (x : BinlogDumpFlags × List ℕ) →
    or_unknown (if named then Some (made_flags bits) else None) rest ≡ ok_of x →
    (named ≡ true) × ((made_flags bits, rest) ≡ x)
flags_by bits true rest x h = (refl, ok_same (made_flags bits, rest) x h)
flags_by bits false rest x h = absurd cc

-- named flags in two bytes
pub flags_read : (bytes : List ℕ) (x : BinlogDumpFlags × List ℕ) → AreBytes bytes →
    named_at binlog_dump_named (fixed_number_at 2) bytes ≡ Ok x →
    (x.0.0 < 2 ^ 16) × (are_named binlog_dump_flags x.0.0 ≡ true) × AreBytes x.1
unfolding made_flags
flags_read bytes x small h =
    let number = bind_ok (fixed_number_at 2 bytes) (λ n. or_unknown (binlog_dump_named n.0) n.1) x h in
    let read = number_read 2 bytes number.0 small number.1 in
    let part = flags_by number.0.0 (are_named binlog_dump_flags number.0.0) number.0.1 x number.2 in
    let fits : number.0.0 < 256 ^ 2 = read.0 in
    let bits : x.0.0 ≡ number.0.0 = sym (ap (λ (y : BinlogDumpFlags × List ℕ). y.0.0) part.1) in (
      omega arith,
      ap (are_named binlog_dump_flags) bits ∙ part.0,
      subst (λ (y : BinlogDumpFlags × List ℕ). AreBytes y.1) part.1 read.1,
    )

made_dump : ℕ → ℕ → ℕ → List ℕ → replica.BinlogDump
made_dump pos flags server_id filename = record { pos = pos; flags = flags; server_id = server_id; filename = filename }

dump_fields : (payload : List ℕ) (q : replica.BinlogDump) → AreBytes payload →
    binlog_dump_fields_at payload ≡ Ok (q, []) →
    HasDumpNumbers q × (are_named binlog_dump_flags q.flags ≡ true)
unfolding binlog_dump_fields_at made_dump
dump_fields payload q small h =
    let header = bind_ok (constant_at 1 18 payload) (λ header. fixed_number_at 4 header.1 >>= λ pos.
    named_at binlog_dump_named (fixed_number_at 2) pos.1 >>= λ flags. fixed_number_at 4 flags.1 >>= λ id.
    ok_of (made_dump pos.0 flags.0.0 id.0 id.1, [])) (q, []) h in
    let pos = bind_ok (fixed_number_at 4 header.0.1) (λ pos. named_at binlog_dump_named (fixed_number_at 2) pos.1 >>=
    λ flags. fixed_number_at 4 flags.1 >>= λ id. ok_of (made_dump pos.0 flags.0.0 id.0 id.1, [])) (q, []) header.2 in
    let flags = bind_ok (named_at binlog_dump_named (fixed_number_at 2) pos.0.1) (λ flags. fixed_number_at 4 flags.1 >>=
    λ id. ok_of (made_dump pos.0.0 flags.0.0 id.0 id.1, [])) (q, []) pos.2 in
    let id = bind_ok (fixed_number_at 4 flags.0.1) (λ id. ok_of (made_dump pos.0.0 flags.0.0.0 id.0 id.1, [])) (q, [])
    flags.2 in
    let a = number_read 4 header.0.1 pos.0 (constant_read 1 18 payload header.0 small header.1) pos.1 in
    let b = flags_read pos.0.1 flags.0 a.1 flags.1 in
    let d = number_read 4 flags.0.1 id.0 b.2 id.1 in
    let same = ap (λ (x : replica.BinlogDump × List ℕ). x.0)
    (ok_same (made_dump pos.0.0 flags.0.0.0 id.0.0 id.0.1, []) (q, []) id.2) in
    let low : pos.0.0 < 256 ^ 4 = a.0 in
    let server : id.0.0 < 256 ^ 4 = d.0 in
    subst (λ (p : replica.BinlogDump). HasDumpNumbers p × (are_named binlog_dump_flags p.flags ≡ true)) same
    (record { pos = low; flags = b.0; server_id = server }, b.1)

pub dump_read : (payload : List ℕ) (q : replica.BinlogDump) → AreBytes payload → binlog_dump_at payload ≡ Ok (q, []) →
    HasDumpNumbers q × (are_named binlog_dump_flags q.flags ≡ true)
unfolding binlog_dump_at
dump_read payload q small h = dump_fields payload q small (in_block 11 binlog_dump_fields_at payload (q, []) h)

-- WHAT A REPLICA SAYS OF ITSELF

three_are_short : (a b c : ℕ) → a ≤ 255 → b ≤ 255 → c ≤ 255 → nat_le a 255 && nat_le b 255 && nat_le c 255 ≡ true
three_are_short a b c x y z = grind (arith, nat_tests)

made_names : List ℕ → List ℕ → List ℕ → replica.ReplicaNames
made_names hostname user password = record { hostname = hostname; user = user; password = password }

-- three names that are short
pub record AreShort (names : replica.ReplicaNames) : Type 0 where
  pub hostname : length names.hostname ≤ 255
  pub user : length names.user ≤ 255
  pub password : length names.password ≤ 255

names_read : (bytes : List ℕ) (x : replica.ReplicaNames × List ℕ) → AreBytes bytes → replica_names_at bytes ≡ Ok x →
    AreShort x.0 × AreBytes x.1
unfolding replica_names_at made_names
names_read bytes x small h =
    let host = bind_ok (u8_text_at bytes) (λ host. u8_text_at host.1 >>= λ user. u8_text_at user.1 >>= λ word.
    ok_of (made_names host.0 user.0 word.0, word.1)) x h in
    let user = bind_ok (u8_text_at host.0.1) (λ user. u8_text_at user.1 >>= λ word.
    ok_of (made_names host.0.0 user.0 word.0, word.1)) x host.2 in
    let word = bind_ok (u8_text_at user.0.1) (λ word. ok_of (made_names host.0.0 user.0.0 word.0, word.1)) x user.2 in
    let a = text_read bytes host.0 small host.1 in
    let b = text_read host.0.1 user.0 a.1 user.1 in
    let d = text_read user.0.1 word.0 b.1 word.1 in
    subst (λ (y : replica.ReplicaNames × List ℕ). AreShort y.0 × AreBytes y.1)
    (ok_same (made_names host.0.0 user.0.0 word.0.0, word.0.1) x word.2)
    (record { hostname = a.0; user = b.0; password = d.0 }, d.1)

made_numbers : ℕ → ℕ → ℕ → replica.ReplicaNumbers
made_numbers port rank master = record { port = port; replication_rank = rank; master_id = master }

pub record AreNumbers (numbers : replica.ReplicaNumbers) : Type 0 where
  pub port : numbers.port < 256 ^ 2
  pub replication_rank : numbers.replication_rank < 256 ^ 4
  pub master_id : numbers.master_id < 256 ^ 4

numbers_read : (bytes : List ℕ) (x : replica.ReplicaNumbers × List ℕ) → AreBytes bytes →
    replica_numbers_at bytes ≡ Ok x → AreNumbers x.0
unfolding replica_numbers_at made_numbers
numbers_read bytes x small h =
    let port = bind_ok (fixed_number_at 2 bytes) (λ port. fixed_number_at 4 port.1 >>= λ rank.
    fixed_number_at 4 rank.1 >>= λ master. ok_of (made_numbers port.0 rank.0 master.0, master.1)) x h in
    let rank = bind_ok (fixed_number_at 4 port.0.1) (λ rank. fixed_number_at 4 rank.1 >>= λ master.
    ok_of (made_numbers port.0.0 rank.0 master.0, master.1)) x port.2 in
    let master = bind_ok (fixed_number_at 4 rank.0.1) (λ master.
    ok_of (made_numbers port.0.0 rank.0.0 master.0, master.1)) x rank.2 in
    let a = number_read 2 bytes port.0 small port.1 in
    let b = number_read 4 port.0.1 rank.0 a.1 rank.1 in
    let d = number_read 4 rank.0.1 master.0 b.1 master.1 in
    subst (λ (y : replica.ReplicaNumbers × List ℕ). AreNumbers y.0)
    (ok_same (made_numbers port.0.0 rank.0.0 master.0.0, master.0.1) x master.2)
    (record { port = a.0; replication_rank = b.0; master_id = d.0 })

made_replica : ℕ → replica.ReplicaNames → replica.ReplicaNumbers → replica.RegisterSlave
made_replica id names numbers = record {
  server_id = id;
  hostname = names.hostname;
  user = names.user;
  password = names.password;
  port = numbers.port;
  replication_rank = numbers.replication_rank;
  master_id = numbers.master_id;
}

replica_fields : (payload : List ℕ) (q : replica.RegisterSlave) → AreBytes payload →
    register_slave_fields_at payload ≡ Ok (q, []) → HasReplicaNumbers q × (whole_register_slave q ≡ true)
unfolding register_slave_fields_at made_replica
replica_fields payload q small h =
    let header = bind_ok (constant_at 1 21 payload) (λ header. fixed_number_at 4 header.1 >>= λ id.
    replica_names_at id.1 >>= λ names. replica_numbers_at names.1 >>= λ numbers.
    ok_of (made_replica id.0 names.0 numbers.0, numbers.1)) (q, []) h in
    let id = bind_ok (fixed_number_at 4 header.0.1) (λ id. replica_names_at id.1 >>= λ names.
    replica_numbers_at names.1 >>= λ numbers. ok_of (made_replica id.0 names.0 numbers.0, numbers.1)) (q, [])
    header.2 in
    let names = bind_ok (replica_names_at id.0.1) (λ names. replica_numbers_at names.1 >>= λ numbers.
    ok_of (made_replica id.0.0 names.0 numbers.0, numbers.1)) (q, []) id.2 in
    let numbers = bind_ok (replica_numbers_at names.0.1) (λ numbers.
    ok_of (made_replica id.0.0 names.0.0 numbers.0, numbers.1)) (q, []) names.2 in
    let a = number_read 4 header.0.1 id.0 (constant_read 1 21 payload header.0 small header.1) id.1 in
    let b = names_read id.0.1 names.0 a.1 names.1 in
    let d = numbers_read names.0.1 numbers.0 b.1 numbers.1 in
    let same = ap (λ (x : replica.RegisterSlave × List ℕ). x.0)
    (ok_same (made_replica id.0.0 names.0.0 numbers.0.0, numbers.0.1) (q, []) numbers.2) in
    let server : id.0.0 < 256 ^ 4 = a.0 in
    subst (λ (p : replica.RegisterSlave). HasReplicaNumbers p × (whole_register_slave p ≡ true)) same (
      record {
        server_id = server;
        port = d.port;
        replication_rank = d.replication_rank;
        master_id = d.master_id;
      },
      three_are_short (length names.0.0.hostname) (length names.0.0.user) (length names.0.0.password) b.0.hostname
          b.0.user b.0.password,
    )

pub replica_read : (payload : List ℕ) (q : replica.RegisterSlave) → AreBytes payload →
    register_slave_at payload ≡ Ok (q, []) → HasReplicaNumbers q × (whole_register_slave q ≡ true)
unfolding register_slave_at
replica_read payload q small h = replica_fields payload q small (in_block 5 register_slave_fields_at payload (q, []) h)

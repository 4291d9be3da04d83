-- Packets of a replica read as they were put exactly where their texts fit their lengths and their flags have names.
use Rattle.std.proofs.Common.{◌≡◌, ◌≤◌, ◌<◌, ℕ, ◌^◌, List, [], ◌∷◌, ◌++◌, Ok, Err, Option, true, false, length}
use Rattle.std.proofs.Common.{refl, sym, ap, ◌∙◌, append-nil, arith, lit<, ◌&&◌, nat_le}
use Rattle.std.proofs.lemmas.List.{take_all}
use Rattle.std.proofs.lemmas.Bool.Decides.{nat_tests}
use Rattle.std.specs.List.{concat}
use Rattle.byteorder.specs.Endian.{little_bytes}
use Rattle.mysql_buf.specs.TextLaws.{front-bound}
use Rattle.mysql_buf.specs.Writing.{front, u8_str}
use Rattle.mysql_const.specs.BinlogDumpFlags.{binlog_dump_flags}
use Rattle.mysql_executions.specs.InForce.{InForce}
use Rattle.mysql_const.specs.declared.capabilities.Capabilities.{Capabilities}
use Rattle.mysql_field_constants.specs.ConstantLaws.{constant_at-back}
use Rattle.mysql_field_constants.specs.Flags.{are_named}
use Rattle.mysql_fields.specs.Laws.{fixed_number_at-back, from_block-enough}
use Rattle.mysql_fields.specs.declared.error.WireError.{WireError}
use Rattle.mysql_fields.specs.declared.error.WireError.TheVariants.{UnknownValue}
use Rattle.mysql_replication.specs.PacketLaws.{binlog_dump_at-back, register_slave_at-back, table_dump_at-back}
use Rattle.mysql_replication.specs.Packets as replica
use Rattle.mysql_replication.specs.Packets.{IsBinlogDump, IsRegisterSlave, IsTableDump, binlog_dump, binlog_dump_at}
use Rattle.mysql_replication.specs.Packets.{binlog_dump_fields_at}
use Rattle.mysql_replication.specs.Packets.{register_slave, register_slave_at, table_dump, table_dump_at}
use Rattle.mysql_replication.specs.Packets.{whole_register_slave, whole_table_dump}
use Rattle.mysql_commands.specs.Commands.{BinlogDump, Other, RegisterSlave, TableDump, command_at}
use Rattle.mysql_command_writer.specs.Refusals.{ReadsBack}
use Rattle.mysql_command_writer.specs.Written.{command_bytes}

-- NAMES

-- a name that is cut is short
cut_is_short : (name : List ℕ) → length (front name 255) ≤ 255
cut_is_short name = front-bound name 255

-- it is written as the whole is
cut_is_same : (name : List ℕ) → u8_str (front name 255) ≡ u8_str name
unfolding front
cut_is_same name =
    let same : front (front name 255) 255 ≡ front name 255 =
    take_all 255 (front name 255) (cut_is_short name) in
    ap (λ (n : List ℕ). length n ∷ n) same

-- a name that isn't changed by the cut is short
uncut_is_short : (name : List ℕ) → front name 255 ≡ name → length name ≤ 255
uncut_is_short name e = omega (arith, cut_is_short name, ap length e)

two_fit : (a b : ℕ) → nat_le a 255 && nat_le b 255 ≡ true → (a ≤ 255) × (b ≤ 255)
two_fit a b h = (grind (arith, nat_tests), grind (arith, nat_tests))

two_fail : (a b : ℕ) → a ≤ 255 → b ≤ 255 → nat_le a 255 && nat_le b 255 ≡ false → ⊥
two_fail a b x y h = grind (arith, nat_tests)

three_fit : (a b c : ℕ) → nat_le a 255 && nat_le b 255 && nat_le c 255 ≡ true → (a ≤ 255) × (b ≤ 255) × (c ≤ 255)
three_fit a b c h = (grind (arith, nat_tests), grind (arith, nat_tests), grind (arith, nat_tests))

three_fail : (a b c : ℕ) → a ≤ 255 → b ≤ 255 → c ≤ 255 → nat_le a 255 && nat_le b 255 && nat_le c 255 ≡ false → ⊥
three_fail a b c x y z h = grind (arith, nat_tests)

-- REQUESTS FOR A TABLE

-- a request that is read of what was put
tables_back : (capabilities : Capabilities) (parameters : Option InForce)
    (p q : replica.TableDump) → table_dump_at (table_dump p) ≡ Ok (q, []) →
    command_at capabilities parameters (command_bytes capabilities parameters (TableDump p)) ≡ TableDump q
unfolding table_dump
tables_back capabilities parameters p q e = rw e refl

tables_alone : (p : replica.TableDump) → IsTableDump p → table_dump_at (table_dump p) ≡ Ok (p, [])
tables_alone p h = rw append-nil at (table_dump_at-back p [] h)

pub tables_read : (capabilities : Capabilities) (parameters : Option InForce)
    (p : replica.TableDump) → whole_table_dump p ≡ true →
    ReadsBack capabilities parameters (TableDump p)
tables_read capabilities parameters p h =
    let fit = two_fit (length p.database) (length p.table) h in
    tables_back capabilities parameters p p (tables_alone p (record { database = fit.0; table = fit.1 }))

-- with names that are cut
cut_table : replica.TableDump → replica.TableDump
cut_table p = record { database = front p.database 255; table = front p.table 255 }

cut_table_bytes : (p : replica.TableDump) → table_dump (cut_table p) ≡ table_dump p
unfolding table_dump cut_table
cut_table_bytes p =
    ap (λ (name : List ℕ). concat (little_bytes 1 19 ∷ name ∷ u8_str (front p.table 255) ∷ [])) (cut_is_same p.database)
    ∙ ap (λ (name : List ℕ). concat (little_bytes 1 19 ∷ u8_str p.database ∷ name ∷ [])) (cut_is_same p.table)

cut_table_reads : (capabilities : Capabilities) (parameters : Option InForce) (p : replica.TableDump) →
    command_at capabilities parameters (command_bytes capabilities parameters (TableDump p)) ≡ TableDump (cut_table p)
unfolding cut_table
cut_table_reads capabilities parameters p =
    let short : IsTableDump (cut_table p) =
    record { database = cut_is_short p.database; table = cut_is_short p.table } in
    tables_back capabilities parameters p (cut_table p)
    (ap table_dump_at (sym (cut_table_bytes p)) ∙ tables_alone (cut_table p) short)

same_table : (p q : replica.TableDump) → TableDump p ≡ TableDump q → p ≡ q
same_table p q e = cc

pub cut_tables : (capabilities : Capabilities) (parameters : Option InForce)
    (p : replica.TableDump) → whole_table_dump p ≡ false →
    ReadsBack capabilities parameters (TableDump p) → ⊥
unfolding cut_table
cut_tables capabilities parameters p h e =
    let same = same_table (cut_table p) p (sym (cut_table_reads capabilities parameters p) ∙ e) in
    let database = ap (λ (q : replica.TableDump). q.database) same in
    let table = ap (λ (q : replica.TableDump). q.table) same in
    two_fail (length p.database) (length p.table) (uncut_is_short p.database database)
    (uncut_is_short p.table table) h

-- WHAT A REPLICA SAYS OF ITSELF

replicas_back : (capabilities : Capabilities) (parameters : Option InForce) (p q : replica.RegisterSlave) →
    register_slave_at (register_slave p) ≡ Ok (q, []) →
    command_at capabilities parameters (command_bytes capabilities parameters (RegisterSlave p)) ≡ RegisterSlave q
unfolding register_slave
replicas_back capabilities parameters p q e = rw e refl

replicas_alone : (p : replica.RegisterSlave) → IsRegisterSlave p → register_slave_at (register_slave p) ≡ Ok (p, [])
replicas_alone p h = rw append-nil at (register_slave_at-back p [] h)

-- its numbers fit their fields, as those of each do
pub record HasReplicaNumbers (p : replica.RegisterSlave) : Type 0 where
  pub server_id : p.server_id < 2 ^ 32
  pub port : p.port < 2 ^ 16
  pub replication_rank : p.replication_rank < 2 ^ 32
  pub master_id : p.master_id < 2 ^ 32

pub replicas_read : (capabilities : Capabilities) (parameters : Option InForce)
    (p : replica.RegisterSlave) → HasReplicaNumbers p →
    whole_register_slave p ≡ true → ReadsBack capabilities parameters (RegisterSlave p)
replicas_read capabilities parameters p n h =
    let fit = three_fit (length p.hostname) (length p.user) (length p.password) h in
    replicas_back capabilities parameters p p (replicas_alone p (record {
      server_id = n.server_id;
      hostname = fit.0;
      user = fit.1;
      password = fit.2;
      port = n.port;
      replication_rank = n.replication_rank;
      master_id = n.master_id;
    }))

cut_replica : replica.RegisterSlave → replica.RegisterSlave
cut_replica p = record p {
  hostname = front p.hostname 255;
  user = front p.user 255;
  password = front p.password 255;
}

-- its bytes by those of its names
abbrev of_names : replica.RegisterSlave → List ℕ → List ℕ → List ℕ → List ℕ
of_names p hostname user password = concat (
    little_bytes 1 21 ∷ little_bytes 4 p.server_id ∷ hostname ∷ user ∷ password
    ∷ little_bytes 2 p.port ∷ little_bytes 4 p.replication_rank ∷ little_bytes 4 p.master_id ∷ []
    )

cut_replica_bytes : (p : replica.RegisterSlave) → register_slave (cut_replica p) ≡ register_slave p
unfolding register_slave cut_replica
cut_replica_bytes p =
    ap (λ (name : List ℕ). of_names p name (u8_str (front p.user 255)) (u8_str (front p.password 255)))
    (cut_is_same p.hostname)
    ∙ ap (λ (name : List ℕ). of_names p (u8_str p.hostname) name (u8_str (front p.password 255))) (cut_is_same p.user)
    ∙ ap (λ (name : List ℕ). of_names p (u8_str p.hostname) (u8_str p.user) name) (cut_is_same p.password)

cut_replica_reads : (capabilities : Capabilities) (parameters : Option InForce)
    (p : replica.RegisterSlave) → HasReplicaNumbers p →
    command_at capabilities parameters (command_bytes capabilities parameters (RegisterSlave p)) ≡
    RegisterSlave (cut_replica p)
unfolding cut_replica
cut_replica_reads capabilities parameters p n =
    let short : IsRegisterSlave (cut_replica p) = record {
      server_id = n.server_id;
      hostname = cut_is_short p.hostname;
      user = cut_is_short p.user;
      password = cut_is_short p.password;
      port = n.port;
      replication_rank = n.replication_rank;
      master_id = n.master_id;
    } in
    replicas_back capabilities parameters p (cut_replica p)
    (ap register_slave_at (sym (cut_replica_bytes p)) ∙ replicas_alone (cut_replica p) short)

same_replica : (p q : replica.RegisterSlave) → RegisterSlave p ≡ RegisterSlave q → p ≡ q
same_replica p q e = cc

pub cut_replicas : (capabilities : Capabilities) (parameters : Option InForce)
    (p : replica.RegisterSlave) → HasReplicaNumbers p →
    whole_register_slave p ≡ false → ReadsBack capabilities parameters (RegisterSlave p) → ⊥
unfolding cut_replica
cut_replicas capabilities parameters p n h e =
    let same = same_replica (cut_replica p) p (sym (cut_replica_reads capabilities parameters p n) ∙ e) in
    let hostname = ap (λ (q : replica.RegisterSlave). q.hostname) same in
    let user = ap (λ (q : replica.RegisterSlave). q.user) same in
    let password = ap (λ (q : replica.RegisterSlave). q.password) same in
    three_fail (length p.hostname) (length p.user) (length p.password) (uncut_is_short p.hostname hostname)
    (uncut_is_short p.user user) (uncut_is_short p.password password) h

-- REQUESTS FOR THE BINARY LOG FROM A PLACE

dumps_back : (capabilities : Capabilities) (parameters : Option InForce)
    (p q : replica.BinlogDump) → binlog_dump_at (binlog_dump p) ≡ Ok (q, []) →
    command_at capabilities parameters (command_bytes capabilities parameters (BinlogDump p)) ≡ BinlogDump q
unfolding binlog_dump
dumps_back capabilities parameters p q e = rw e refl

-- its numbers fit their fields, as those of each do
pub record HasDumpNumbers (p : replica.BinlogDump) : Type 0 where
  pub pos : p.pos < 2 ^ 32
  pub flags : p.flags < 2 ^ 16
  pub server_id : p.server_id < 2 ^ 32

pub dumps_read : (capabilities : Capabilities) (parameters : Option InForce)
    (p : replica.BinlogDump) → HasDumpNumbers p →
    are_named binlog_dump_flags p.flags ≡ true → ReadsBack capabilities parameters (BinlogDump p)
dumps_read capabilities parameters p n h =
    let is : IsBinlogDump p =
    record { pos = n.pos; flags = n.flags; named = h; server_id = n.server_id } in
    dumps_back capabilities parameters p p (rw append-nil at (binlog_dump_at-back p [] is refl))

-- flags without names are refused
nameless_fields : (p : replica.BinlogDump) → HasDumpNumbers p → are_named binlog_dump_flags p.flags ≡ false →
    binlog_dump_fields_at (binlog_dump p) ≡ Err UnknownValue
unfolding binlog_dump binlog_dump_fields_at
nameless_fields p n h =
    let name = p.filename ++ [] in
    let id = little_bytes 4 p.server_id ++ name in
    let flags = little_bytes 2 p.flags ++ id in
    let pos = little_bytes 4 p.pos ++ flags in
    rw (
      constant_at-back 1 18 pos (lit< tt),
      fixed_number_at-back 4 p.pos flags n.pos,
      fixed_number_at-back 2 p.flags id n.flags,
      h,
    ) refl

nameless_at : (p : replica.BinlogDump) → HasDumpNumbers p → are_named binlog_dump_flags p.flags ≡ false →
    binlog_dump_at (binlog_dump p) ≡ Err UnknownValue
unfolding binlog_dump binlog_dump_at
nameless_at p n h =
    from_block-enough 11 binlog_dump_fields_at (binlog_dump p) (omega arith) ∙ nameless_fields p n h

nameless_is_other : (capabilities : Capabilities) (parameters : Option InForce)
    (p : replica.BinlogDump) (e : WireError) →
    binlog_dump_at (binlog_dump p) ≡ Err e →
    command_at capabilities parameters (command_bytes capabilities parameters (BinlogDump p)) ≡ Other (binlog_dump p)
unfolding binlog_dump
nameless_is_other capabilities parameters p e h = rw h refl

other_is_no_dump : (p : replica.BinlogDump) (payload : List ℕ) → Other payload ≡ BinlogDump p → ⊥
other_is_no_dump p payload e = cc

pub nameless_dumps : (capabilities : Capabilities) (parameters : Option InForce)
    (p : replica.BinlogDump) → HasDumpNumbers p →
    are_named binlog_dump_flags p.flags ≡ false → ReadsBack capabilities parameters (BinlogDump p) → ⊥
nameless_dumps capabilities parameters p n h e = other_is_no_dump p (binlog_dump p)
    (sym (nameless_is_other capabilities parameters p UnknownValue (nameless_at p n h)) ∙ e)

-- Each row of the table of commands: what is read by it may be put, and is read again as it is.
use Rattle.std.proofs.Common.{◌≡◌, ◌<◌, ◌^◌, ℕ, List, ◌∷◌, Option, Some, refl, subst, ap}
use Rattle.std.specs.Option.{option_map}
use Rattle.std.specs.List.{AllByRecursion}
use Rattle.mysql_buf.specs.Bytes.{AreBytes}
use Rattle.mysql_const.specs.declared.capabilities.Capabilities.{Capabilities}
use Rattle.mysql_execution_writer.specs.Laws.{ReadAttributesAreWritten, ReadBulksAreWritten, ReadExecutionsAreWritten}
use Rattle.mysql_executions.specs.InForce.{InForce}
use Rattle.mysql_login.specs.ChangedUserStatements.{ChangedUsersReadAgain}
use Rattle.mysql_login.specs.ChangedUsers.{change_in_force_at}
use Rattle.mysql_replication.specs.Packets.{binlog_dump_at, binlog_dump_gtid_at, register_slave_at, table_dump_at}
use Rattle.mysql_commands.specs.Commands.{Command, fields, first_of, layouts}
use Rattle.mysql_commands.specs.Commands.{Quit, InitDb, CreateDb, DropDb, Refresh}
use Rattle.mysql_commands.specs.Commands.{Statistics, ProcessInfo, ProcessKill, Debug, Ping, Prepare, Close}
use Rattle.mysql_commands.specs.Commands.{ResetStatement, SetOption, ResetConnection, Clone}
use Rattle.mysql_commands.specs.Commands.{BinlogDump, BinlogDumpGtid, ChangeUser, RegisterSlave, TableDump}
use Rattle.mysql_command_writer.proofs.GtidDumps.{gtids_read}
use Rattle.mysql_command_writer.proofs.Logins.{logins_read}
use Rattle.mysql_command_writer.proofs.ReadAgain.{last_number-back}
use Rattle.mysql_command_writer.proofs.ReadCommands.{RowIsOwn, all_read, alone_own, bulk_own, execute_own, fetch_own}
use Rattle.mysql_command_writer.proofs.ReadCommands.{first_read}
use Rattle.mysql_command_writer.proofs.ReadCommands.{field_list_own, long_data_own, number_own, query_own, read_own}
use Rattle.mysql_command_writer.proofs.ReadCommands.{shutdown_own, some_own, tail_bytes}
use Rattle.mysql_command_writer.proofs.ReadGtids.{gtid_read}
use Rattle.mysql_command_writer.proofs.ReadPackets.{dump_read, replica_read, table_read}
use Rattle.mysql_command_writer.proofs.Replication.{dumps_read, replicas_read, tables_read}
use Rattle.mysql_command_writer.specs.Laws.{IsOwn, ReadCommandsArePut}

-- a change of user, by the law of its reading
login_own : ChangedUsersReadAgain →
    (capabilities : Capabilities) (parameters : Option InForce) (payload : List ℕ) (c : Command) →
    AreBytes payload → option_map ChangeUser (first_of (change_in_force_at capabilities.protocol.0 payload)) ≡ Some c →
    IsOwn capabilities parameters c
login_own law capabilities parameters payload c small h =
    let read = first_read (change_in_force_at capabilities.protocol.0 payload) ChangeUser c h in
    let again = law capabilities.protocol.0 payload read.0.1 read.0.0 small read.1 in
    subst (IsOwn capabilities parameters) read.2
    (logins_read capabilities parameters read.0.0 (ap first_of again), refl)

dump_own : (capabilities : Capabilities) (parameters : Option InForce) (payload : List ℕ) (c : Command) →
    AreBytes payload → fields BinlogDump binlog_dump_at payload ≡ Some c → IsOwn capabilities parameters c
dump_own capabilities parameters payload c small h =
    let read = all_read (binlog_dump_at payload) BinlogDump c h in
    let part = dump_read payload read.0 small read.1 in
    subst (IsOwn capabilities parameters) read.2 (dumps_read capabilities parameters read.0 part.0 part.1, refl)

table_own : (capabilities : Capabilities) (parameters : Option InForce) (payload : List ℕ) (c : Command) →
    AreBytes payload → fields TableDump table_dump_at payload ≡ Some c → IsOwn capabilities parameters c
table_own capabilities parameters payload c small h =
    let read = all_read (table_dump_at payload) TableDump c h in
    subst (IsOwn capabilities parameters) read.2
    (tables_read capabilities parameters read.0 (table_read payload read.0 small read.1), refl)

replica_own : (capabilities : Capabilities) (parameters : Option InForce) (payload : List ℕ) (c : Command) →
    AreBytes payload → fields RegisterSlave register_slave_at payload ≡ Some c → IsOwn capabilities parameters c
replica_own capabilities parameters payload c small h =
    let read = all_read (register_slave_at payload) RegisterSlave c h in
    let part = replica_read payload read.0 small read.1 in
    subst (IsOwn capabilities parameters) read.2 (replicas_read capabilities parameters read.0 part.0 part.1, refl)

gtid_own : (capabilities : Capabilities) (parameters : Option InForce) (payload : List ℕ) (c : Command) →
    AreBytes payload → fields BinlogDumpGtid binlog_dump_gtid_at payload ≡ Some c → IsOwn capabilities parameters c
gtid_own capabilities parameters payload c small h =
    let read = all_read (binlog_dump_gtid_at payload) BinlogDumpGtid c h in
    let part = gtid_read payload read.0 small read.1 in
    subst (IsOwn capabilities parameters) read.2
    (gtids_read capabilities parameters read.0 part.0 part.1 part.2 part.3, refl)

-- numbers
refresh_own : (capabilities : Capabilities) (parameters : Option InForce) (x : ℕ) → x < 256 ^ 1 →
    IsOwn capabilities parameters (Refresh x)
refresh_own capabilities parameters x h = (rw (last_number-back 1 x h) refl, refl)

kill_own : (capabilities : Capabilities) (parameters : Option InForce) (x : ℕ) → x < 256 ^ 4 →
    IsOwn capabilities parameters (ProcessKill x)
kill_own capabilities parameters x h = (rw (last_number-back 4 x h) refl, refl)

close_own : (capabilities : Capabilities) (parameters : Option InForce) (x : ℕ) → x < 256 ^ 4 →
    IsOwn capabilities parameters (Close x)
close_own capabilities parameters x h = (rw (last_number-back 4 x h) refl, refl)

reset_own : (capabilities : Capabilities) (parameters : Option InForce) (x : ℕ) → x < 256 ^ 4 →
    IsOwn capabilities parameters (ResetStatement x)
reset_own capabilities parameters x h = (rw (last_number-back 4 x h) refl, refl)

option_own : (capabilities : Capabilities) (parameters : Option InForce) (x : ℕ) → x < 256 ^ 2 →
    IsOwn capabilities parameters (SetOption x)
option_own capabilities parameters x h = (rw (last_number-back 2 x h) refl, refl)

-- all rows
rows_own : ReadAttributesAreWritten → ReadExecutionsAreWritten → ReadBulksAreWritten → ChangedUsersReadAgain →
    (capabilities : Capabilities) (parameters : Option InForce) →
    AllByRecursion (RowIsOwn capabilities parameters) (layouts capabilities parameters)
rows_own attributes executions bulks logins i p =
    let P = IsOwn i p in (
      λ b c s h. alone_own P Quit c b (refl, refl) h,
      (
        λ b c s h. some_own P (InitDb b) c (refl, refl) h,
        (
          λ b c s h. query_own attributes i p b c (tail_bytes 3 b s) h,
          (
            λ b c s h. field_list_own i p b c h,
            (
              λ b c s h. some_own P (CreateDb b) c (refl, refl) h,
              (
                λ b c s h. some_own P (DropDb b) c (refl, refl) h,
                (
                  λ b c s h. number_own P 1 Refresh b c (tail_bytes 7 b s) (refresh_own i p) h,
                  (
                    λ b c s h. shutdown_own i p b c s h,
                    (
                      λ b c s h. alone_own P Statistics c b (refl, refl) h,
                      (
                        λ b c s h. alone_own P ProcessInfo c b (refl, refl) h,
                        (
                          λ b c s h. number_own P 4 ProcessKill b c (tail_bytes 12 b s) (kill_own i p) h,
                          (
                            λ b c s h. alone_own P Debug c b (refl, refl) h,
                            (
                              λ b c s h. alone_own P Ping c b (refl, refl) h,
                              (
                                λ b c s h. login_own logins i p (17 ∷ b) c s h,
                                (
                                  λ b c s h. dump_own i p (18 ∷ b) c s h,
                                  (
                                    λ b c s h. table_own i p (19 ∷ b) c s h,
                                    (
                                      λ b c s h. replica_own i p (21 ∷ b) c s h,
                                      (
                                        λ b c s h. some_own P (Prepare b) c (refl, refl) h,
                                        (
                                          λ b c s h. execute_own executions i p b c (tail_bytes 23 b s) h,
                                          (
                                            λ b c s h. long_data_own i p b c (tail_bytes 24 b s) h,
                                            (
                                              λ b c s h. number_own P 4 Close b c (tail_bytes 25 b s) (close_own i p) h,
                                              (
                                                λ b c s h. number_own P 4 ResetStatement b c
                                                    (tail_bytes 26 b s) (reset_own i p) h,
                                                (
                                                  λ b c s h. number_own P 2 SetOption b c
                                                      (tail_bytes 27 b s) (option_own i p) h,
                                                  (
                                                    λ b c s h. fetch_own i p b c (tail_bytes 28 b s) h,
                                                    (
                                                      λ b c s h. gtid_own i p (30 ∷ b) c s h,
                                                      (
                                                        λ b c s h. alone_own P ResetConnection c b (refl, refl) h,
                                                        (
                                                          λ b c s h. some_own P (Clone b) c (refl, refl) h,
                                                          (
                                                            λ b c s h. bulk_own bulks i p b c (tail_bytes 250 b s) h,
                                                            tt,
                                                          ),
                                                        ),
                                                      ),
                                                    ),
                                                  ),
                                                ),
                                              ),
                                            ),
                                          ),
                                        ),
                                      ),
                                    ),
                                  ),
                                ),
                              ),
                            ),
                          ),
                        ),
                      ),
                    ),
                  ),
                ),
              ),
            ),
          ),
        ),
      ),
    )

pub commands_are_put : ReadAttributesAreWritten → ReadExecutionsAreWritten → ReadBulksAreWritten →
    ChangedUsersReadAgain →
    ReadCommandsArePut
commands_are_put attributes executions bulks logins capabilities parameters payload small =
    read_own capabilities parameters (rows_own attributes executions bulks logins capabilities parameters) payload small

-- A command's payload is about the statement that it names itself.
use Rattle.std.proofs.Common.{◌≡◌, ◌<◌, ◌^◌, ℕ, Bool, true, false, List, [], ◌++◌, Option, Some, None, refl, sym, ap}
use Rattle.std.proofs.Common.{◌∙◌, subst, append-nil}
use Rattle.byteorder.specs.Endian.{little_bytes}
use Rattle.mysql_buf.specs.NumberLaws.{little-reads_back}
use Rattle.mysql_const.specs.declared.capabilities.Capabilities.{Capabilities}
use Rattle.mysql_execution_writer.specs.Bulks.{bulk_bytes}
use Rattle.mysql_execution_writer.specs.Written.{execution_bytes}
use Rattle.mysql_executions.specs.Bulks.{BulkExecution}
use Rattle.mysql_executions.specs.Executions.{Execution}
use Rattle.mysql_executions.specs.InForce.{InForce}
use Rattle.mysql_login.specs.ChangedUsers.{change_in_force}
use Rattle.mysql_replication.specs.Packets.{binlog_dump, binlog_dump_gtid, register_slave, table_dump}
use Rattle.mysql_commands.specs.Commands.{BulkExecute, Close, Command, Execute}
use Rattle.mysql_commands.specs.Commands.{Fetch, LongData, Query, ResetStatement, Shutdown}
use Rattle.mysql_commands.specs.Replies.{id_at, statement_of}
use Rattle.mysql_command_writer.specs.Refusals.{can_execute, can_execute_bulk, can_have_attributes}
use Rattle.mysql_command_writer.specs.Written.{command_bytes}
use Rattle.mysql_connection_writer.proofs.Lifting.{some_same}
use Rattle.mysql_connection_writer.specs.Commands.{command_payload, payload_if, statement_named}
use Rattle.mysql_connection_writer.specs.Fits.{IdFits}

-- a payload that is there if something can be
pub if_can : (can : Bool) (bytes p : List ℕ) → payload_if can bytes ≡ Some p → (can ≡ true) × (bytes ≡ p)
if_can true bytes p e = (refl, some_same bytes p e)
if_can false bytes p e = absurd cc

id_first : (id : ℕ) (rest : List ℕ) → id < 2 ^ 32 → id_at (little_bytes 4 id ++ rest) ≡ Some id
id_first id rest fits = rw (little-reads_back 4 id rest fits) refl

id_alone : (id : ℕ) → id < 2 ^ 32 → id_at (little_bytes 4 id) ≡ Some id
id_alone id fits = subst (λ (bytes : List ℕ). id_at bytes ≡ Some id) (append-nil (little_bytes 4 id))
    (id_first id [] fits)

of_execution : (capabilities : Capabilities) (s : InForce) (e : Execution) → e.statement < 2 ^ 32 →
    statement_of (command_bytes capabilities (Some s) (Execute e)) ≡ Some e.statement
unfolding execution_bytes
of_execution capabilities s e fits = id_first e.statement _ fits

of_bulk : (capabilities : Capabilities) (s : InForce) (e : BulkExecution) → e.statement < 2 ^ 32 →
    statement_of (command_bytes capabilities (Some s) (BulkExecute e)) ≡ Some e.statement
unfolding bulk_bytes
of_bulk capabilities s e fits = id_first e.statement _ fits

of_bytes : (capabilities : Capabilities) (parameters : Option InForce) (c : Command) → IdFits c →
    command_payload capabilities parameters c ≡ Some (command_bytes capabilities parameters c) →
    statement_of (command_bytes capabilities parameters c) ≡ statement_named c
unfolding change_in_force binlog_dump table_dump register_slave binlog_dump_gtid
of_bytes capabilities None (Execute e) fits there = absurd cc
of_bytes capabilities (Some s) (Execute e) fits there = of_execution capabilities s e fits
of_bytes capabilities None (BulkExecute e) fits there = absurd cc
of_bytes capabilities (Some s) (BulkExecute e) fits there = of_bulk capabilities s e fits
of_bytes capabilities parameters (LongData id place bytes) fits there =
    id_first id (little_bytes 2 place ++ bytes) fits
of_bytes capabilities parameters (Close id) fits there = id_alone id fits
of_bytes capabilities parameters (ResetStatement id) fits there = id_alone id fits
of_bytes capabilities parameters (Fetch id rows) fits there = id_first id (little_bytes 4 rows) fits
of_bytes capabilities parameters (Shutdown None) fits there = refl
of_bytes capabilities parameters (Shutdown (Some level)) fits there = refl
of_bytes capabilities parameters command fits there = refl

-- the payload of a command, where it has one, is its bytes
pub is_bytes : (capabilities : Capabilities) (parameters : Option InForce) (c : Command) (p : List ℕ) →
    command_payload capabilities parameters c ≡ Some p → p ≡ command_bytes capabilities parameters c
is_bytes capabilities parameters (Query attributes sql) p e =
    sym (if_can (can_have_attributes capabilities attributes)
    (command_bytes capabilities parameters (Query attributes sql)) p e).1
is_bytes capabilities parameters (Execute x) p e =
    sym (if_can (can_execute capabilities parameters x) (command_bytes capabilities parameters (Execute x)) p e).1
is_bytes capabilities parameters (BulkExecute x) p e =
    sym (if_can (can_execute_bulk capabilities parameters x)
    (command_bytes capabilities parameters (BulkExecute x)) p e).1
is_bytes capabilities parameters c p e = sym (some_same (command_bytes capabilities parameters c) p e)

pub named : (capabilities : Capabilities) (parameters : Option InForce) (c : Command) (p : List ℕ) → IdFits c →
    command_payload capabilities parameters c ≡ Some p → statement_of p ≡ statement_named c
named capabilities parameters c p fits there =
    let same : p ≡ command_bytes capabilities parameters c = is_bytes capabilities parameters c p there in
    let its : command_payload capabilities parameters c ≡ Some (command_bytes capabilities parameters c) =
    there ∙ ap (λ (q : List ℕ). Some q) same in
    ap statement_of same ∙ of_bytes capabilities parameters c fits its

-- What holds of executions that were read. MySQL: Client/Server Protocol, "COM_STMT_EXECUTE";
-- MariaDB: "COM_STMT_BULK_EXECUTE".
use Rattle.std.specs.Prelude.{◌≡◌, ℕ, List, [], Some, unwrap_or}
use Rattle.mysql_const.specs.declared.capabilities.Capabilities.{Capabilities}
use Rattle.mysql_executions.specs.After.{bulk_types, execution_types}
use Rattle.mysql_executions.specs.Bulks.{BulkExecution, bulk_execution_at}
use Rattle.mysql_executions.specs.Executions.{Execution, execution_at}
use Rattle.mysql_executions.specs.InForce.{InForce}

-- The types of an execution that was read are those that its body carries, so that what is in force
-- behind it is decided by the execution alone.
abbrev pub ReadTypesAreCarried : Type 0
ReadTypesAreCarried =
    (capabilities : Capabilities) (s : InForce) (body : List ℕ) (e : Execution) →
    execution_at capabilities s body ≡ Some e
    → execution_types capabilities s.count body ≡ unwrap_or e.types []

-- So are those of a bulk execution.
abbrev pub ReadBulkTypesAreCarried : Type 0
ReadBulkTypesAreCarried =
    (capabilities : Capabilities) (s : InForce) (body : List ℕ) (e : BulkExecution) →
    bulk_execution_at capabilities s body ≡ Some e → bulk_types s.count body ≡ unwrap_or e.types []

-- What holds of executions and attributes that are written: they are read again. MySQL:
-- Client/Server Protocol, "COM_STMT_EXECUTE", "COM_QUERY"; MariaDB: "COM_STMT_BULK_EXECUTE".
use Rattle.std.specs.Prelude.{◌≡◌, ℕ, ◌^◌, ◌<◌, true, List, [], ◌++◌, length, Some, unwrap_or}
use Rattle.std.specs.List.{AllByRecursion}
use Rattle.mysql_buf.specs.Bytes.{AreBytes}
use Rattle.mysql_const.specs.declared.capabilities.Capabilities.{Capabilities}
use Rattle.mysql_cells.specs.Values.{FitsFields}
use Rattle.mysql_executions.specs.Attributes.{query_attributes_at}
use Rattle.mysql_executions.specs.Bulks.{BulkExecution, bulk_execution_at}
use Rattle.mysql_executions.specs.Executions.{Execution, execution_at}
use Rattle.mysql_executions.specs.declared.bulk.BulkValue.{BulkValue}
use Rattle.mysql_executions.specs.declared.bulk.BulkValue.TheVariants as bulk
use Rattle.mysql_executions.specs.InForce.{InForce}
use Rattle.mysql_executions.specs.declared.types.Attribute.{Attribute}
use Rattle.mysql_executions.specs.declared.types.BoundType.{BoundType}
use Rattle.mysql_execution_writer.specs.Bulks.{bulk_as_read, bulk_bytes, can_put_bulk}
use Rattle.mysql_execution_writer.specs.Cells.{are_attributes}
use Rattle.mysql_execution_writer.specs.Written.{all_values, attributes_as_read, can_be_put, execution_as_read}
use Rattle.mysql_execution_writer.specs.Written.{execution_bytes, query_attributes_bytes, types_of_attributes}
use Rattle.mysql_execution_writer.specs.Written.{values_of}

-- names are no longer than a length can say
abbrev pub HaveLengths : List BoundType → Type 0
HaveLengths types = AllByRecursion (λ t. length t.name < 2 ^ 64) types

-- each number of an execution fits its field
pub record FitsExecution (e : Execution) : Type 0 where
  pub statement : e.statement < 2 ^ 32
  pub flags : e.nameless_flags < 256
  pub iterations : e.iterations < 2 ^ 32
  pub count : length (all_values e) < 2 ^ 64
  pub parameters : AllByRecursion (λ value. FitsFields value) e.parameters
  pub attributes : AllByRecursion (λ value. FitsFields value) (values_of e.attributes)
  pub names : HaveLengths (unwrap_or e.types [])
  pub attribute_names : HaveLengths (types_of_attributes e.attributes)

-- An execution that can be written is read again: each value as itself, but an unsigned number below 2 ^ 63 as Int.
abbrev pub ExecutionsReadBack : Type 0
ExecutionsReadBack =
    (capabilities : Capabilities) (s : InForce) (e : Execution) → FitsExecution e →
    can_be_put capabilities s e ≡ true
    → execution_at capabilities s (execution_bytes capabilities s e) ≡ Some (execution_as_read e)

-- each number of attributes fits its field
pub record FitsAttributes (attributes : List Attribute) : Type 0 where
  pub count : length attributes < 2 ^ 64
  pub values : AllByRecursion (λ value. FitsFields value) (values_of attributes)
  pub names : HaveLengths (types_of_attributes attributes)

-- Attributes that all have a cell are read again, whatever text follows.
abbrev pub AttributesReadBack : Type 0
AttributesReadBack =
    (attributes : List Attribute) (text : List ℕ) → FitsAttributes attributes →
    are_attributes true attributes ≡ true
    → query_attributes_at (query_attributes_bytes attributes ++ text) ≡ Some (attributes_as_read attributes, text)

-- each number of what a parameter holds in a row fits its field
abbrev pub FitsBulkValue : BulkValue → Type 0
FitsBulkValue (bulk.Value value) = FitsFields value
FitsBulkValue bulk.Default = Unit {0}
FitsBulkValue bulk.Ignore = Unit {0}

-- each number of a bulk execution fits its field
pub record FitsBulk (e : BulkExecution) : Type 0 where
  pub statement : e.statement < 2 ^ 32
  pub names : HaveLengths (unwrap_or e.types [])
  pub rows : AllByRecursion (λ row. AllByRecursion (λ value. FitsBulkValue value) row) e.rows

-- A bulk execution that can be written is read again: each value as itself, but an unsigned number
-- below 2 ^ 63 as Int.
abbrev pub BulksReadBack : Type 0
BulksReadBack =
    (capabilities : Capabilities) (s : InForce) (e : BulkExecution) → FitsBulk e →
    can_put_bulk capabilities s e ≡ true
    → bulk_execution_at capabilities s (bulk_bytes s e) ≡ Some (bulk_as_read e)

-- WHAT WAS READ

-- An execution that was read can be written by what was in force, and is read again as it is.
abbrev pub ReadExecutionsAreWritten : Type 0
ReadExecutionsAreWritten =
    (capabilities : Capabilities) (s : InForce) (body : List ℕ) (e : Execution) → AreBytes body →
    execution_at capabilities s body ≡ Some e
    → (can_be_put capabilities s e ≡ true) × (execution_as_read e ≡ e)

-- Attributes that were read can be written, and are read again as they are.
abbrev pub ReadAttributesAreWritten : Type 0
ReadAttributesAreWritten =
    (bytes text : List ℕ) (attributes : List Attribute) → AreBytes bytes →
    query_attributes_at bytes ≡ Some (attributes, text)
    → (are_attributes true attributes ≡ true) × (attributes_as_read attributes ≡ attributes)

-- A bulk execution that was read can be written by what was in force, and is read again as it is.
abbrev pub ReadBulksAreWritten : Type 0
ReadBulksAreWritten =
    (capabilities : Capabilities) (s : InForce) (body : List ℕ) (e : BulkExecution) → AreBytes body →
    bulk_execution_at capabilities s body ≡ Some e
    → (can_put_bulk capabilities s e ≡ true) × (bulk_as_read e ≡ e)

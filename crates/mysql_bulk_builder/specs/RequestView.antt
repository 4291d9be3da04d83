-- A request as it is sent.
-- MariaDB: Client/Server Protocol, "COM_STMT_BULK_EXECUTE".
use Rattle.std.specs.Prelude.{ℕ, Bool, true, false, if◌then◌else◌, [], length, map}
use Rattle.mysql_bulk_builder.specs.Bulk.{BulkExecution, all_values, column_types_of, param_value_of}
use Rattle.mysql_bulk_builder.specs.Builder.{Request, columns_of}

-- 64 asks for the result of each row, 128 says that types are sent
abbrev pub bulk_flags : Bool → Bool → ℕ
bulk_flags false false = 0
bulk_flags false true = 0x80
bulk_flags true false = 0x40
bulk_flags true true = 0xc0

-- the types of its columns where it carries them, and the values of its rows
abbrev pub execution_of : Request → BulkExecution
execution_of request = record {
  stmt_id = request.id;
  flags = bulk_flags request.results request.typed;
  types = if request.typed then column_types_of (columns_of request.rows) (length request.rows)
      (all_values request.rows) else [];
  values = map param_value_of (all_values request.rows);
}

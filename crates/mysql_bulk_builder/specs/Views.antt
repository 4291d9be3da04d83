-- What a bulk execution is, apart from where its parts lie.
use Rattle.mysql_bulk_builder.specs.Bulk.{BulkExecution}
use Rattle.mysql_bulk_builder.specs.declared.request.ComStmtBulkExecuteRequest.{ComStmtBulkExecuteRequest}

abbrev pub bulk_view : ComStmtBulkExecuteRequest → BulkExecution
bulk_view r = record {
  stmt_id = r.stmt_id;
  flags = r.bulk_flags.0;
  types = r.types.items;
  values =
      r.values.values.items;
}

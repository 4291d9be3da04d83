-- What the commands are, apart from where their parts lie.
use Rattle.std.specs.Prelude.{map}
use Rattle.std.specs.Cow.{cow_slice_items}
use Rattle.mysql_stmt.specs.Commands.{LongData}
use Rattle.mysql_stmt.specs.Executions.{Execution}
use Rattle.mysql_stmt.specs.declared.execute.ComStmtExecuteRequest.{ComStmtExecuteRequest}
use Rattle.mysql_stmt.specs.declared.long_data.ComStmtSendLongData.{ComStmtSendLongData}

abbrev pub long_data_view : ComStmtSendLongData → LongData
long_data_view p = record { stmt_id = p.stmt_id; place = p.param_index; bytes = cow_slice_items p.bytes }

abbrev pub execution_view : ComStmtExecuteRequest → Execution
execution_view r = record {
  stmt_id = r.stmt_id;
  bitmap = r.bitmap.items;
  values =
      map (λ value. value.now) r.params.items;
  apart = r.as_long_data;
}

-- What a builder's fields stand for, and what they keep.
use Rattle.std.specs.Prelude.{◌≡◌, ◌*◌, List, length, map, option_copied, sum_by, unwrap_or}
use Rattle.mysql_bulk_builder.specs.Bulk.{param_value_of}
use Rattle.mysql_bulk_builder.specs.declared.param_value.StmtBulkExecuteParamValue.{StmtBulkExecuteParamValue}
use Rattle.mysql_cells.specs.declared.value.Value.{Value}
use Rattle.mysql_values.specs.Params.{names_given}
use Rattle.mysql_bulk_builder.specs.declared.builder.ComStmtBulkExecuteRequestBuilder.TheInside.{Inside}
use Rattle.mysql_bulk_builder.specs.Builder.{Builder, IsFilled}
use Rattle.mysql_bulk_builder.specs.Cut.{row_size}
use Rattle.mysql_bulk_builder.specs.FlatRows.{rows_from}

-- the values, without what stands before them
abbrev pub values_in : List StmtBulkExecuteParamValue → List Value
values_in values = map (λ value. value.value) values

abbrev pub builder_of : Inside → Builder
builder_of b = record {
  id = b.stmt_id;
  room = b.room;
  names = names_given (option_copied b.named_params);
  results = b.with_results;
  typed = b.with_types;
  arity = b.arity;
  rows = rows_from b.count (unwrap_or b.arity 0) (values_in b.values.items);
}

-- the list has the values of each row as they are sent, their bytes are counted, and they fit one request
pub record IsBuilder (b : Inside) : Type 0 where
  pub len : length (values_in b.values.items) ≡ b.count * unwrap_or b.arity 0
  pub sent : b.values.items ≡ map param_value_of (values_in b.values.items)
  pub bytes : b.held ≡ sum_by row_size (rows_from b.count (unwrap_or b.arity 0) (values_in b.values.items))
  pub filled : IsFilled (builder_of b)

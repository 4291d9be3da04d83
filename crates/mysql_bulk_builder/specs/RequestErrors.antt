-- Refusals of bulk executions, apart from where their parts lie.
use Rattle.std.specs.Prelude.{ℕ, List, []}
use Rattle.mysql_cells.specs.declared.value.Value.{Value}
use Rattle.mysql_bulk_builder.specs.declared.request_error.BulkExecuteRequestError.{BulkExecuteRequestError}
use Rattle.mysql_bulk_builder.specs.declared.request_error.BulkExecuteRequestError.TheVariants.{NoParams, MixedArity}
use Rattle.mysql_bulk_builder.specs.declared.request_error.BulkExecuteRequestError.TheVariants.{RowTooLarge}
use Rattle.mysql_bulk_builder.specs.declared.request_error.BulkExecuteRequestError.TheVariants.{Memory}

-- which refusal it is, counted from 1, and the row that it carries
abbrev pub refusal_parts : BulkExecuteRequestError → ℕ × List Value
refusal_parts NoParams = (1, [])
refusal_parts MixedArity = (2, [])
refusal_parts (RowTooLarge row) = (3, row.items)
refusal_parts Memory = (4, [])

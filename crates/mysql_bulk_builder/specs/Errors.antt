-- Errors within errors: want of memory is that of the whole.
use Rattle.std.specs.Prelude.{◌≡◌}
use Rattle.mysql_bulk_builder.specs.RequestErrors.{refusal_parts}
use Rattle.mysql_values.specs.declared.params.ParamsError.{ParamsError}
use Rattle.mysql_values.specs.declared.params.ParamsError.TheVariants.{Missing, Confusion, Memory}
use Rattle.mysql_bulk_builder.specs.declared.request_error.BulkExecuteRequestError.{BulkExecuteRequestError}
use Rattle.mysql_bulk_builder.specs.declared.request_error.BulkExecuteRequestError.TheVariants as request_error
use Rattle.mysql_bulk_builder.specs.declared.error.BulkExecuteRequestBuilderError.{BulkExecuteRequestBuilderError}
use Rattle.mysql_bulk_builder.specs.declared.error.BulkExecuteRequestBuilderError.TheVariants as builder_error

-- the error for a set that gives no values
abbrev pub error_of_params : ParamsError → BulkExecuteRequestBuilderError
error_of_params (Missing name) = builder_error.Params (Missing name)
error_of_params (Confusion confusion) = builder_error.Params (Confusion confusion)
error_of_params Memory = builder_error.Memory

-- the error for rows of which no request is built
abbrev pub error_of_request : BulkExecuteRequestError → BulkExecuteRequestBuilderError
error_of_request request_error.NoParams = builder_error.Request request_error.NoParams
error_of_request request_error.MixedArity = builder_error.Request request_error.MixedArity
error_of_request (request_error.RowTooLarge row) = builder_error.Request (request_error.RowTooLarge row)
error_of_request request_error.Memory = builder_error.Memory

-- the same error, wherever the values of its row lie
abbrev pub IsSameError : BulkExecuteRequestBuilderError → BulkExecuteRequestBuilderError → Type 0
IsSameError (builder_error.Request a) (builder_error.Request b) = refusal_parts a ≡ refusal_parts b
IsSameError (builder_error.Params a) (builder_error.Params b) = a ≡ b
IsSameError builder_error.Memory builder_error.Memory = Unit {0}
IsSameError _ _ = ⊥

-- What adding a row to a builder does, by the answer.
use Rattle.std.specs.Prelude.{◌≡◌, ◌≢◌, [], Option, Some, None, Result, Ok, Err, ◌⊎◌, Vec}
use Rattle.std.specs.declared.alloc.Global.{Global}
use Rattle.mysql_cells.specs.declared.value.Value.{Value}
use Rattle.mysql_values.specs.declared.params.ParamsError.{ParamsError}
use Rattle.mysql_bulk_builder.specs.declared.request_error.BulkExecuteRequestError.TheVariants as request_error
use Rattle.mysql_bulk_builder.specs.declared.request_error.BulkExecuteRequestError.{BulkExecuteRequestError}
use Rattle.mysql_bulk_builder.specs.declared.error.BulkExecuteRequestBuilderError.{BulkExecuteRequestBuilderError}
use Rattle.mysql_bulk_builder.specs.declared.error.BulkExecuteRequestBuilderError.TheVariants.{Request, Params, Memory}
use Rattle.mysql_bulk_builder.specs.Errors.{error_of_params}
use Rattle.mysql_bulk_builder.specs.Cut.{Row}
use Rattle.mysql_bulk_builder.specs.Builder.{Builder, HasArity, HasRoom, LacksRoom, with_row}

-- what an added row answers
abbrev pub Answer : Type 0
Answer = Result (Option (Vec Value Global)) BulkExecuteRequestBuilderError

-- refused: too large for a request of its own, or of another arity
abbrev pub IsRefused : Builder → Row → BulkExecuteRequestError → Type 0
IsRefused builder row (request_error.RowTooLarge back) = HasArity builder row ×
    LacksRoom builder row × (builder.rows ≡ []) × (back.items ≡ row)
IsRefused builder row request_error.MixedArity = HasArity builder row → ⊥
IsRefused builder row request_error.NoParams = ⊥
IsRefused builder row request_error.Memory = ⊥

-- Taken where it has the arity and there is room. Given back where rows are held and there is none.
-- Else refused, which changes nothing.
abbrev pub Adds : Builder → Row → Builder → Answer → Type 0
Adds old row new (Ok None) = HasArity old row × HasRoom old row × (new ≡ with_row old row)
Adds old row new (Ok (Some back)) = HasArity old row × LacksRoom old row × (old.rows ≢ []) ×
    (back.items ≡ row) × (new ≡ old)
Adds old row new (Err (Request error)) = IsRefused old row error × (new ≡ old)
Adds old row new (Err (Params error)) = ⊥
Adds old row new (Err Memory) = new ≡ old

-- a row that comes back is the one handed in
abbrev pub GivesBack : Vec Value Global → Answer → Type 0
GivesBack row (Ok (Some back)) = back ≡ row
GivesBack row (Err (Request (request_error.RowTooLarge back))) = back ≡ row
GivesBack row _ = Unit {0}

-- adding what a set gives: its values, or the error for which it gives none
abbrev pub AddsGiven : Builder → Result Row ParamsError → Builder → Answer → Type 0
AddsGiven old (Ok row) new answer = Adds old row new answer
AddsGiven old (Err error) new answer = (new ≡ old) × ((answer ≡ Err (error_of_params error)) ⊎ (answer ≡ Err Memory))

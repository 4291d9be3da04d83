-- What an iterator of bulk requests gives.
-- MariaDB: "COM_STMT_BULK_EXECUTE".
use Rattle.std.specs.Prelude.{◌≡◌, ◌≢◌, ℕ, ◌+◌, ◌⊎◌, Bool, true, false, if◌then◌else◌, List, [], ◌∷◌, ◌++◌, length, map}
use Rattle.std.specs.Prelude.{Option, Some, None, Result, Ok, Err, Vec}
use Rattle.std.specs.declared.alloc.Global.{Global}
use Rattle.mysql_cells.specs.declared.value.Value.{Value}
use Rattle.mysql_bulk_builder.specs.declared.error.BulkExecuteRequestBuilderError.{BulkExecuteRequestBuilderError}
use Rattle.mysql_bulk_builder.specs.declared.error.BulkExecuteRequestBuilderError.TheVariants as builder_error
use Rattle.mysql_bulk_builder.specs.Views.{bulk_view}
use Rattle.mysql_bulk_builder.specs.declared.request.ComStmtBulkExecuteRequest.{ComStmtBulkExecuteRequest}
use Rattle.mysql_bulk_builder.specs.Adds.{IsRefused}
use Rattle.mysql_bulk_builder.specs.Builder.{Builder, Request, HasArity, LacksRoom, IsFilled, after_build, request_of}
use Rattle.mysql_bulk_builder.specs.Cut.{Row}
use Rattle.mysql_bulk_builder.specs.Errors.{error_of_params}
use Rattle.mysql_bulk_builder.specs.Given.{Giving}
use Rattle.mysql_bulk_builder.specs.RequestView.{execution_of}

-- the arity after rows were taken: that of the last one
abbrev pub arity_after : Option ℕ → List Row → Option ℕ
arity_after arity [] = arity
arity_after arity (row ∷ rows) = arity_after (Some (length row)) rows

-- the builder with more rows
abbrev pub with_rows : Builder → List Row → Builder
with_rows builder rows = record builder { arity = arity_after builder.arity rows; rows = builder.rows ++ rows }

-- a builder took rows from the front of what is given
abbrev pub Took : Builder → Giving → Builder → Giving → Type 0
Took old given new rest = (rows : List Row) × (given ≡ map (λ row. Ok row) rows ++ rest) × (new ≡ with_rows old rows)

-- nothing is left, or a row for which there is no room
abbrev pub IsFull : Builder → Giving → Type 0
IsFull builder [] = Unit {0}
IsFull builder (Ok row ∷ rest) = HasArity builder row × LacksRoom builder row × (builder.rows ≢ [])
IsFull builder (Err error ∷ rest) = ⊥

-- why there is no next request: the builder refuses the next row, or its set gives no values, or there is no memory
abbrev pub IsCause : Builder → Giving → BulkExecuteRequestBuilderError → Type 0
IsCause builder [] error = (builder.rows ≢ []) × (error ≡ builder_error.Memory)
IsCause builder (Ok row ∷ rest) (builder_error.Request error) = IsRefused builder row error
IsCause builder (Ok row ∷ rest) (builder_error.Params error) = ⊥
IsCause builder (Ok row ∷ rest) builder_error.Memory = Unit {0}
IsCause builder (Err error ∷ rest) answer = (answer ≡ error_of_params error) ⊎ (answer ≡ builder_error.Memory)

-- filling a builder
abbrev pub Fills : Builder → Giving → Builder → Giving → Result (Unit {0}) BulkExecuteRequestBuilderError → Type 0
Fills old given new rest (Ok _) = Took old given new rest × IsFull new rest
Fills old given new rest (Err error) = (at : Giving) × Took old given new at × IsCause new at error

-- taking what stands first
abbrev pub TakesFirst : Giving → Result (Option (Vec Value Global)) BulkExecuteRequestBuilderError → Giving → Type 0
TakesFirst old (Ok None) new = (old ≡ []) × (new ≡ [])
TakesFirst old (Ok (Some row)) new = old ≡ Ok row.items ∷ new
TakesFirst old (Err error) new = (builder : Builder) → IsCause builder old error

-- an iterator: its builder, what is still given, and whether it has ended
pub record Iteration : Type 0 where
  pub builder : Builder
  pub given : Giving
  pub ended : Bool

-- A request is that of the rows held and of as many of those given as there is room for.
pub record GivesRequest (old : Iteration) (request : Request) (new : Iteration) : Type 0 where
  pub begins : old.ended ≡ false
  pub goes_on : new.ended ≡ false
  pub filled : Builder
  pub took : Took old.builder old.given filled new.given
  pub fits : IsFilled filled
  pub full : IsFull filled new.given
  pub some : filled.rows ≢ []
  pub request_is : request ≡ request_of filled
  pub builder_is : new.builder ≡ after_build filled

-- An error is the last item; the rows before the one that it speaks of are held.
pub record GivesError (old : Iteration) (error : BulkExecuteRequestBuilderError) (new : Iteration) : Type 0 where
  pub begins : old.ended ≡ false
  pub ends : new.ended ≡ true
  pub at : Giving
  pub took : Took old.builder old.given new.builder at
  pub cause : IsCause new.builder at error

-- There is no item where it has ended, or where no row is held or given.
abbrev pub Gives : Iteration →
    Option (Result ComStmtBulkExecuteRequest BulkExecuteRequestBuilderError) → Iteration → Type 0
Gives old None new = (new.ended ≡ true) × (new.builder ≡ old.builder) ×
    ((old.ended ≡ true) ⊎ ((old.builder.rows ≡ []) × (old.given ≡ [])))
Gives old (Some (Ok execution)) new = (request : Request) ×
    (bulk_view execution ≡ execution_of request) × GivesRequest old request new
Gives old (Some (Err error)) new = GivesError old error new

-- one where there are rows
abbrev pub one_if_some : List Row → ℕ
one_if_some [] = 0
one_if_some (row ∷ rows) = 1

-- the most items that can come: as many as are given, and one more where rows are held
abbrev pub items_left : Iteration → ℕ
items_left it = if it.ended then 0 else length it.given + one_if_some it.builder.rows

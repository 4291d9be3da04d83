-- A builder of bulk execute requests, as callers see it.
-- MariaDB: "COM_STMT_BULK_EXECUTE".
use Rattle.std.specs.Prelude.{◌≡◌, ◌≢◌, ℕ, ◌+◌, ◌*◌, ◌<◌, ◌≤◌, ◌⊎◌, Bool, false, if◌then◌else◌, List, [], ◌∷◌, ◌++◌}
use Rattle.std.specs.Prelude.{length, Option, Some, IfSome, MatchOption, sum_by}
use Rattle.std.specs.List.{AllByRecursion}
use Rattle.mysql_bulk_builder.specs.Cut.{Row, row_size}

-- a request: its statement, whether it asks for the result of each row, whether it carries types, and its rows
pub record Request : Type 0 where
  pub id : ℕ
  pub results : Bool
  pub typed : Bool
  pub rows : List Row

-- the statement, the most bytes of a request, the names of the query's places, whether requests ask
-- for the result of each row, whether the next request carries types, how many values a row has
-- once one was taken, and the rows held
pub record Builder : Type 0 where
  pub id : ℕ
  pub room : ℕ
  pub names : List (List ℕ)
  pub results : Bool
  pub typed : Bool
  pub arity : Option ℕ
  pub rows : List Row

-- how many values each row has, by the first
abbrev pub columns_of : List Row → ℕ
columns_of [] = 0
columns_of (row ∷ rows) = length row

-- what a request takes: its head, its types and its rows
abbrev pub request_size : Bool → ℕ → List Row → ℕ
request_size typed columns rows = 7 + (if typed then 2 * columns else 0) + sum_by row_size rows

-- the rows held and one more
abbrev pub rows_with : Builder → Row → List Row
rows_with builder row = builder.rows ++ row ∷ []

-- the most rows that a request holds, which rows without values alone can reach
abbrev pub most_rows : ℕ
most_rows = 0xffff_ffff_ffff_ffff

-- the next request has room for one more row
abbrev pub HasRoom : Builder → Row → Type 0
HasRoom builder row = (length builder.rows < most_rows) ×
    (request_size builder.typed (length row) (rows_with builder row) ≤ builder.room)

abbrev pub LacksRoom : Builder → Row → Type 0
LacksRoom builder row = (most_rows ≤ length builder.rows) ⊎
    (builder.room < request_size builder.typed (length row) (rows_with builder row))

-- the row has as many values as the rows before
abbrev pub HasArity : Builder → Row → Type 0
HasArity builder row = IfSome builder.arity (λ n. length row ≡ n)

-- the builder with one more row
abbrev pub with_row : Builder → Row → Builder
with_row builder row = record builder { arity = Some (length row); rows = rows_with builder row }

-- the builder after a request was built
abbrev pub after_build : Builder → Builder
after_build builder = record builder { typed = false; rows = [] }

-- the request of the rows held
abbrev pub request_of : Builder → Request
request_of builder = record { id = builder.id; results = builder.results; typed = builder.typed; rows = builder.rows }

-- the rows held have one arity, and a request has room for them
abbrev pub IsFilled : Builder → Type 0
IsFilled builder = MatchOption builder.arity (builder.rows ≡ [])
    (λ n. AllByRecursion (λ row. length row ≡ n) builder.rows ×
    (builder.rows ≢ [] → request_size builder.typed n builder.rows ≤ builder.room))

-- what the rows held and one more take, and how many they are; or nothing where the next request has no room for it
abbrev pub HasOneMore : Builder → Row → Option (ℕ × ℕ) → Type 0
HasOneMore builder row more = MatchOption more (LacksRoom builder row)
    (λ p. (p.0 ≡ sum_by row_size (rows_with builder row)) × (p.1 ≡ length builder.rows + 1) × HasRoom builder row)

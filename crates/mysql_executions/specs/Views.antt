-- What the crate's types hold, as values, and what its functions answer.
use Rattle.std.specs.Prelude.{◌≡◌, ℕ, ◌+◌, ◌++◌, length, Bool, true, false, List, Option, Some, None, Result, Ok, Err}
use Rattle.std.specs.Prelude.{map}
use Rattle.std.specs.Global.{Vec}
use Rattle.std.specs.Option.{option_map}
use Rattle.mysql_executions.specs.declared.bulk.BulkExecution.{BulkExecution as CodeBulk}
use Rattle.mysql_executions.specs.declared.bulk.BulkValue.{BulkValue}
use Rattle.mysql_executions.specs.declared.types.BoundType.{BoundType}
use Rattle.mysql_executions.specs.declared.types.Execution.{Execution as CodeExecution}
use Rattle.mysql_executions.specs.declared.type_reading.TypesRead.{TypesRead as CodeTypesRead}
use Rattle.mysql_executions.specs.declared.not_read.NotRead.{NotRead}
use Rattle.mysql_executions.specs.declared.not_read.NotRead.TheVariants.{Other, Memory}
use Rattle.mysql_executions.specs.declared.bulk_reading.BulkHead.{BulkHead as CodeBulkHead}
use Rattle.mysql_executions.specs.declared.bulk_reading.RowsRead.{RowsRead as CodeRowsRead}
use Rattle.mysql_executions.specs.Bulks.{BulkExecution, BulkHead}
use Rattle.mysql_executions.specs.declared.execution_reading.Binding.{Binding as CodeBinding}
use Rattle.mysql_executions.specs.declared.execution_reading.ExecutionHead.{ExecutionHead as CodeHead}
use Rattle.mysql_executions.specs.declared.types.ParameterType.{ParameterType}
use Rattle.mysql_executions.specs.Executions.{Binding, Execution, ExecutionHead}
use Rattle.mysql_executions.specs.Types.{TypesRead, unnamed}
use Rattle.mysql_executions.specs.Unclear.{UnclearValues, first_unclear}
use Rattle.mysql_executions.specs.declared.unclear.Looked.{Looked}
use Rattle.mysql_executions.specs.declared.unclear.Looked.TheVariants as looked
use Rattle.mysql_executions.specs.declared.unclear.UnclearCells.{UnclearCells as CodeCells}
use Rattle.mysql_executions.specs.declared.unclear.UnclearValues.{UnclearValues as CodeUnclear}

-- types where a command carries them
abbrev pub types_of : Option (Vec BoundType) → Option (List BoundType)
types_of types = option_map (λ types. types.items) types

abbrev pub execution_of : CodeExecution → Execution
execution_of e = record {
  statement = e.statement;
  cursor = e.cursor;
  count_available = e.count_available;
  nameless_flags = e.nameless_flags;
  iterations = e.iterations;
  types = types_of e.types;
  parameters = e.parameters.items;
  attributes = e.attributes.items;
  rest = e.rest;
}

abbrev pub cells_of : Option CodeCells → Option (ℕ × List ℕ)
cells_of cells = option_map (λ cells. (cells.first, cells.bytes)) cells

abbrev pub unclear_of : CodeUnclear → UnclearValues
unclear_of u = record { cells = cells_of u.cells; long_data = u.long_data.items }

abbrev pub rows_of : List (Vec BulkValue) → List (List BulkValue)
rows_of rows = map (λ row. row.items) rows

abbrev pub bulk_of : CodeBulk → BulkExecution
bulk_of e = record {
  statement = e.statement;
  unit_results = e.unit_results;
  types = types_of e.types;
  rows = rows_of e.rows.items;
  rest = e.rest;
}

-- what a call gave, seen by a view, is what reading finds, unless memory ran out
abbrev pub Gives : {X Y : Type 0} → (X → Y) → Result X NotRead → Option Y → Type 0
Gives view (Ok x) found = found ≡ Some (view x)
Gives view (Err Other) found = found ≡ None
Gives view (Err Memory) found = Unit {0}

-- what is said of a call's value, where there is one; else memory ran out
abbrev pub IfRead : {X : Type 0} → Result X NotRead → (X → Type 0) → Type 0
IfRead (Ok x) P = P x
IfRead (Err e) P = e ≡ Memory

abbrev pub types_read_of : CodeTypesRead → TypesRead
types_read_of types = record { found = types.found.items; rest = option_map (λ rest. rest.now) types.rest }

abbrev pub rows_read_of : CodeRowsRead → List (List BulkValue) × List ℕ
rows_read_of rows = (rows_of rows.found.items, rows.rest.now)

-- the types that count: a command's own, else those in force
abbrev pub types_by : Option (List BoundType) → List ParameterType → List ParameterType
types_by (Some own) in_force = unnamed own
types_by None in_force = in_force

-- the first unclear cell by what was found of cells, of which places count from this one on, where
-- other cells stand from a place on, each behind so many bytes
abbrev pub found_by : (before first behind : ℕ) → List (Option ParameterType) → Looked → Option (ℕ × List ℕ)
found_by before first behind others (looked.Unclear place cell) = Some (first + place, cell.now)
found_by before first behind others (looked.Clear rest) = first_unclear before (first + behind) others rest.now
found_by before first behind others looked.Cut = None

-- That was found in these bytes of cells of which the first stands at this place, wherever places
-- begin to count and whatever cells stand behind these.
abbrev pub IsFound : (before place : ℕ) → List (Option ParameterType) → List ℕ → Looked → Type 0
IsFound before place cells bytes found = (first : ℕ) (others : List (Option ParameterType)) →
    first_unclear before (first + place) (cells ++ others) bytes
    ≡ found_by before first (place + length cells) others found

abbrev pub binding_of : CodeBinding → Binding
binding_of b = record { nulls = b.nulls.now; bound = b.bound; rest = b.rest.now }

abbrev pub head_of : CodeHead → ExecutionHead
head_of h = record {
  statement = h.statement;
  flags = h.flags;
  iterations = h.iterations;
  count = h.count;
  binding = binding_of h.binding;
}

abbrev pub bulk_head_of : CodeBulkHead → BulkHead
bulk_head_of h = record { statement = h.statement; flags = h.flags; rest = h.rest.now }

-- what must hold did
abbrev pub Holds : Result (Unit {0}) NotRead → Bool → Type 0
Holds (Ok done) test = test ≡ true
Holds (Err e) test = (test ≡ false) × (e ≡ Other)

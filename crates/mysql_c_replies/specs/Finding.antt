-- Where the results, cells and columns are that an object holds.
use Rattle.std.specs.Prelude.{◌≡◌, ℕ, List, [], Option, Some, None, MatchOption, slice_get}
use Rattle.std.specs.Option.{option_and_then}
use Rattle.mysql_cells.specs.declared.value.Value.{Value}
use Rattle.mysql_columns.specs.Columns.{ColumnDefinition}
use Rattle.mysql_ok_packets.specs.OkPackets.{OkPacket}
use Rattle.mysql_rows.specs.Rows.{Row, cell_at}
use Rattle.mysql_replies.specs.Together.{FieldsResult, OkResult, Outcome, PreparedResult, RawRowsResult, RowsResult}
use Rattle.mysql_replies.specs.Views.{outcome_views}
use Rattle.mysql_c_handles.specs.declared.code.Code.{Code}
use Rattle.mysql_c_handles.specs.declared.code.Code.TheVariants as code
use Rattle.mysql_c_handles.specs.declared.object.Object.{Object}
use Rattle.mysql_c_handles.specs.declared.object.Object.TheVariants as object
use Rattle.mysql_c_handles.specs.Codes.{code_number, misuse}
use Rattle.mysql_c_replies.specs.States.{ShowsChangeAt}

-- the results that an object holds: those that were taken last, or those of the end
abbrev pub outcomes_held : Object → List Outcome
outcomes_held (object.Reply r) = outcome_views r.taken.items
outcomes_held (object.Answer a) = outcome_views a.results.items
outcomes_held held = []

-- whether an object holds results
abbrev pub listing_code : Object → Code
listing_code (object.Reply r) = code.Done
listing_code (object.Answer a) = code.Done
listing_code held = misuse held

-- why a result, or a part of one, isn't there
abbrev pub unlisted_code : Object → Code
unlisted_code (object.Reply r) = code.OutOfRange
unlisted_code (object.Answer a) = code.OutOfRange
unlisted_code held = misuse held

-- the rows of a result
abbrev pub rows_of : Outcome → List Row
rows_of (RowsResult columns rows terminator) = rows
rows_of other = []

-- the columns of rows, or of a prepared statement
abbrev pub columns_of : Outcome → List ColumnDefinition
columns_of (RowsResult columns rows terminator) = columns
columns_of (PreparedResult statement params columns) = columns
columns_of other = []

-- the parameters of a prepared statement
abbrev pub params_of : Outcome → List ColumnDefinition
params_of (PreparedResult statement params columns) = params
params_of other = []

-- the OK packet that a result is, or that ended its rows
abbrev pub packet_of : Outcome → Option OkPacket
packet_of (OkResult ok) = Some ok
packet_of (RowsResult columns rows terminator) = terminator
packet_of (RawRowsResult rows terminator) = terminator
packet_of (FieldsResult fields terminator) = terminator
packet_of other = None

-- the value in a cell, by the numbers of its result, its row and its column
abbrev pub cell_in : List Outcome → ℕ → ℕ → ℕ → Option Value
cell_in outcomes number row column =
    option_and_then (λ outcome. option_and_then (λ found. cell_at found (Some column))
    (slice_get (rows_of outcome) row)) (slice_get outcomes number)

-- a column, by the numbers of its result and its own
abbrev pub column_in : List Outcome → ℕ → ℕ → Option ColumnDefinition
column_in outcomes number column =
    option_and_then (λ outcome. slice_get (columns_of outcome) column) (slice_get outcomes number)

-- the same of a parameter
abbrev pub param_in : List Outcome → ℕ → ℕ → Option ColumnDefinition
param_in outcomes number param =
    option_and_then (λ outcome. slice_get (params_of outcome) param) (slice_get outcomes number)

-- the OK packet of the result of a number
abbrev pub packet_in : List Outcome → ℕ → Option OkPacket
packet_in outcomes number = option_and_then packet_of (slice_get outcomes number)

-- A change of the session's state is shown that the OK packet of the result of a number tells;
-- where there is none the position stays.
abbrev pub ShowsChangeIn : Object → ℕ → ℕ → ℕ → ℕ → ℕ → ℕ → Type 0
ShowsChangeIn held at position number next type len =
    MatchOption (packet_in (outcomes_held held) at) ((number ≡ code_number (unlisted_code held)) × (next ≡ position))
    (λ ok. ShowsChangeAt ok.session_state_info position number next type len)

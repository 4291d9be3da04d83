-- What one payload reads as by what is in force there, or its first fault from the left. MySQL:
-- Client/Server Protocol, "COM_QUERY", "COM_STMT_PREPARE", "COM_STMT_SEND_LONG_DATA",
-- "COM_STMT_EXECUTE", "COM_STMT_RESET", "COM_STMT_CLOSE", "Null-Bitmap"; MariaDB:
-- "COM_STMT_BULK_EXECUTE". A reading takes bytes from the front: x.0 is what was read and x.1 the
-- bytes left; the first refusal counts.
use Rattle.std.specs.Prelude.{◌≡◌, ◌≢◌, ℕ, ◌+◌, ◌<◌, ◌≤◌, ◌^◌, ◌⊎◌, Bool, true, false, List, [], ◌∷◌, length, Option}
use Rattle.std.specs.Prelude.{Some, None, Result, Ok, Err, nat_lt, nat_le, ◌==◌, not, if◌then◌else◌, IsTrue, IsFalse}
use Rattle.std.specs.Prelude.{◌-◌}
use Rattle.std.specs.Option.{ok_or, option_or}
use Rattle.mysql_receive.specs.declared.fault.StreamFault.{StreamFault}
use Rattle.mysql_receive.specs.declared.fault.StreamFault.TheVariants.{TooLarge, EmptyCommand, OtherCommand}
use Rattle.mysql_receive.specs.declared.fault.StreamFault.TheVariants.{TextMismatch, NotAlone, PrepareMismatch}
use Rattle.mysql_receive.specs.declared.fault.StreamFault.TheVariants.{TooManyPlaces, NotPrepared, WrongId, BadExecute}
use Rattle.mysql_receive.specs.declared.fault.StreamFault.TheVariants.{NoTypes, BadType, Float, BadBulk, Indicator}
use Rattle.mysql_receive.specs.declared.fault.StreamFault.TheVariants.{NoRows, PiecesBeforeBulk}
use Rattle.mysql_values.specs.Content.{Content}
use Rattle.mysql_values.specs.Content.TheVariants as content
use Rattle.mysql_values.specs.Values.{content_of}
use Rattle.mysql_values.specs.Queries.{Slices, Lexes}
use Rattle.mysql_values.specs.Sql.{Sql}
use Rattle.mysql_values.specs.Cells.{is_float, cell_at}
use Rattle.mysql_field_lists.specs.NullBitmap.{is_null_at}
use Rattle.mysql_wire.specs.WireError.{WireError}
use Rattle.mysql_wire.specs.WireError.TheVariants.{UnsupportedType}
use Rattle.mysql_receive.specs.declared.param_type.ParamType.{ParamType}
use Rattle.mysql_receive.specs.Fields.{◌>>◌, must, number_or}
use Rattle.mysql_wire.specs.Wire.{◌>>=◌}
use Rattle.mysql_receive.specs.Query.{Statement, all_alone, max_places, place_count}
use Rattle.mysql_receive.specs.Layout.{Command, command_of, Types, PlaceData, place_data_at, id_at, execute_head}
use Rattle.mysql_receive.specs.Layout.{bulk_head}
use Rattle.mysql_receive.specs.Layout as layout
use Rattle.mysql_receive.specs.InForce.{StatementState, is_waiting}

-- one parameter set of the query: what each place holds
abbrev pub Set : Type 0
Set = List Content

-- what a refused cell makes of its payload: a type without cells, else the fault of missing bytes
abbrev pub cell_fault : StreamFault → WireError → StreamFault
cell_fault short UnsupportedType = BadType
cell_fault short e = short

abbrev pub or_cell_fault : {X : Type 0} → StreamFault → Result X WireError → Result X StreamFault
or_cell_fault short (Ok x) = Ok x
or_cell_fault short (Err e) = Err (cell_fault short e)

-- the content of a cell. A float is refused whatever bytes follow
unfoldable pub content_at : StreamFault → ParamType → List ℕ → Result (Content × List ℕ) StreamFault
content_at short t bytes = do
  must Float (not (is_float t.number))
  value ← or_cell_fault short (cell_at t.number t.unsigned bytes)
  meant ← ok_or (content_of value.0) Float
  Ok (meant, value.1)

-- the types that count: a payload's own, else those in force. Without places there are none
abbrev pub types_in_force : Statement → StatementState → Option Types → Result Types StreamFault
types_in_force statement state own =
    if place_count statement.query == 0 then Ok [] else ok_or (option_or own state.types) NoTypes

-- what a place of an execute holds: the long data that waits for it; else NULL, where its bit is
-- set; else the content of the cell that stands first
abbrev pub parameter_at : Option (List ℕ) → Bool → ParamType → List ℕ → Result (Content × List ℕ) StreamFault
parameter_at (Some data_bytes) null t bytes = Ok (content.Bytes data_bytes, bytes)
parameter_at None true t bytes = Ok (content.Null, bytes)
parameter_at None false t bytes = content_at BadExecute t bytes

-- what the places from this one on hold, place by place, and no byte after them
unfoldable pub set_at : (ℕ → Option (List ℕ)) → List ℕ → ℕ → Types → List ℕ → Result Set StreamFault
set_at waiting nulls place [] [] = Ok []
set_at waiting nulls place [] (b ∷ bytes) = Err BadExecute
set_at waiting nulls place (t ∷ types) bytes = do
  first ← parameter_at (waiting place) (is_null_at 0 nulls place) t bytes
  others ← set_at waiting nulls (place + 1) types first.1
  Ok (first.0 ∷ others)

-- an execute, as one set
unfoldable pub execute_at : Statement → StatementState → List ℕ → Result Set StreamFault
execute_at statement state body = do
  must NotPrepared state.prepared
  head ← execute_head statement body
  types ← types_in_force statement state head.own
  set_at state.long_data head.nulls 0 types head.cells

-- a column of a row: an indicator, 0 and a cell or 1 for nothing
abbrev pub column_at : ParamType → List ℕ → Result (Content × List ℕ) StreamFault
column_at t bytes = do
  indicator ← number_or BadBulk 1 bytes
  must Indicator (nat_le indicator.0 1)
  if indicator.0 == 1 then Ok (content.Null, indicator.1) else content_at BadBulk t indicator.1

-- columns of a row, one after another
unfoldable pub columns_at : Types → List ℕ → Result (Set × List ℕ) StreamFault
columns_at [] bytes = Ok ([], bytes)
columns_at (t ∷ types) bytes = do
  first ← column_at t bytes
  others ← columns_at types first.1
  Ok (first.0 ∷ others.0, others.1)

-- a row of a bulk: a column for each type, at least one
abbrev pub row_at : Types → List ℕ → Result (Set × List ℕ) StreamFault
row_at [] bytes = Err BadBulk
row_at (t ∷ types) bytes = columns_at (t ∷ types) bytes

-- these rows stand one after another at the front of the bytes, each at the front of what the ones
-- before it left, and that is left behind them
abbrev pub RowsAt : Types → List ℕ → List Set → List ℕ → Type 0
RowsAt types bytes [] left = bytes ≡ left
RowsAt types bytes (set ∷ sets) left = (rest : List ℕ) × (row_at types bytes ≡ Ok (set, rest)) ×
    RowsAt types rest sets left

-- The first row that doesn't read has this fault: it comes behind those that do, and a byte of it stands.
pub record FaultyRow (types : Types) (bytes : List ℕ) (f : StreamFault) : Type 0 where
  pub before : List Set
  pub first : ℕ
  pub rest : List ℕ
  pub rows : RowsAt types bytes before (first ∷ rest)
  pub fault : row_at types (first ∷ rest) ≡ Err f

-- what stands before a bulk's rows: the types that count, and the bytes of the rows, at least one
unfoldable pub bulk_rows : Statement → StatementState → List ℕ → Result (Types × List ℕ) StreamFault
bulk_rows statement state body = do
  must NotPrepared state.prepared
  must PiecesBeforeBulk (not (is_waiting statement state))
  must BadBulk (nat_lt 0 (place_count statement.query))
  head ← bulk_head statement body
  types ← types_in_force statement state head.own
  must NoRows (nat_lt 0 (length head.rows))
  Ok (types, head.rows)

-- a bulk reads as its rows, to the end of its bytes
pub record BulkReadsAs (statement : Statement) (state : StatementState) (body : List ℕ) (sets : List Set) : Type 0 where
  pub types : Types
  pub bytes : List ℕ
  pub found : bulk_rows statement state body ≡ Ok (types, bytes)
  pub rows : RowsAt types bytes sets []

-- its fault is that of what stands before the rows, else that of the first row that doesn't read
abbrev pub BulkFaulty : Statement → StatementState → List ℕ → StreamFault → Type 0
BulkFaulty statement state body f =
    (bulk_rows statement state body ≡ Err f)
    ⊎ ((types : Types) × (bytes : List ℕ) × (bulk_rows statement state body ≡ Ok (types, bytes)) ×
    FaultyRow types bytes f)

-- the data that a long data command sends
unfoldable pub prepared_data : Statement → StatementState → List ℕ → Result PlaceData StreamFault
prepared_data statement state body = do
  must NotPrepared state.prepared
  place_data_at statement body

-- long data, as no set
unfoldable pub long_data_at : Statement → StatementState → List ℕ → Result (List Set) StreamFault
long_data_at statement state body = do
  sent ← prepared_data statement state body
  Ok []

-- a reset and a close: the id and nothing behind it, as no set
unfoldable pub statement_alone_at : Statement → StatementState → List ℕ → Result (List Set) StreamFault
statement_alone_at statement state body = do
  must NotPrepared state.prepared
  rest ← id_at statement body
  must WrongId (length rest == 0)
  Ok []

-- A text reads as these contents over a query, in the query's mode: it is the query's pieces with a literal of each
-- content between, and its tokens are those of the query and of the literals. Where each place
-- stands alone, the two are one.
abbrev pub TextReadsAs : Sql → List ℕ → Set → Type 0
TextReadsAs query text contents = Slices query text contents × Lexes query text contents

-- The body of a command reads as these sets. A text is one set where each place stands alone.
abbrev pub CommandReadsAs : Statement → StatementState → Command → List ℕ → List Set → Type 0
CommandReadsAs statement state layout.Text body sets = IsTrue (all_alone statement.query) ×
    ((contents : Set) × TextReadsAs statement.query.sql body contents × (sets ≡ contents ∷ []))
CommandReadsAs statement state layout.Prepare body sets = (body ≡ statement.query.parsed) ×
    (place_count statement.query ≤ max_places) × (sets ≡ [])
CommandReadsAs statement state layout.LongData body sets = long_data_at statement state body ≡ Ok sets
CommandReadsAs statement state layout.Execute body sets = (set : Set) ×
    (execute_at statement state body ≡ Ok set) × (sets ≡ set ∷ [])
CommandReadsAs statement state layout.Bulk body sets = BulkReadsAs statement state body sets
CommandReadsAs statement state layout.Reset body sets = statement_alone_at statement state body ≡ Ok sets
CommandReadsAs statement state layout.Close body sets = statement_alone_at statement state body ≡ Ok sets
CommandReadsAs statement state layout.Other body sets = ⊥

-- This is the body's first fault from the left.
abbrev pub CommandFaulty : Statement → StatementState → Command → List ℕ → StreamFault → Type 0
CommandFaulty statement state layout.Text body f =
    (IsFalse (all_alone statement.query) × (f ≡ NotAlone))
    ⊎ (IsTrue (all_alone statement.query) ×
    ((contents : Set) → TextReadsAs statement.query.sql body contents → ⊥) × (f ≡ TextMismatch))
CommandFaulty statement state layout.Prepare body f =
    ((body ≢ statement.query.parsed) × (f ≡ PrepareMismatch))
    ⊎ ((body ≡ statement.query.parsed) × (max_places < place_count statement.query) × (f ≡ TooManyPlaces))
CommandFaulty statement state layout.LongData body f = long_data_at statement state body ≡ Err f
CommandFaulty statement state layout.Execute body f = execute_at statement state body ≡ Err f
CommandFaulty statement state layout.Bulk body f = BulkFaulty statement state body f
CommandFaulty statement state layout.Reset body f = statement_alone_at statement state body ≡ Err f
CommandFaulty statement state layout.Close body f = statement_alone_at statement state body ≡ Err f
CommandFaulty statement state layout.Other body f = f ≡ OtherCommand

-- a payload reads as these sets where this is in force
abbrev pub PayloadReadsAs : Statement → StatementState → List ℕ → List Set → Type 0
PayloadReadsAs statement state [] sets = ⊥
PayloadReadsAs statement state (b ∷ body) sets = CommandReadsAs statement state (command_of b) body sets

-- a payload is refused by this fault
abbrev pub PayloadFaulty : Statement → StatementState → List ℕ → StreamFault → Type 0
PayloadFaulty statement state [] f = f ≡ EmptyCommand
PayloadFaulty statement state (b ∷ body) f = CommandFaulty statement state (command_of b) body f

-- The payload of this number reads as these sets, or has this fault. The payload that would have
-- the number 2 ^ 64 - 1 is too large whatever it holds.
abbrev pub ReadsAs : Statement → StatementState → ℕ → List ℕ → List Set → Type 0
ReadsAs statement state number payload sets =
    (number < 2 ^ 64 - 1) × PayloadReadsAs statement state payload sets

abbrev pub Faulty : Statement → StatementState → ℕ → List ℕ → StreamFault → Type 0
Faulty statement state number payload f =
    ((2 ^ 64 - 1 ≤ number) × (f ≡ TooLarge))
    ⊎ ((number < 2 ^ 64 - 1) × PayloadFaulty statement state payload f)

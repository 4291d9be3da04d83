-- Commands in the manual's words: which payloads are a command, which parameter sets it carries and
-- what it leaves in force. `mysql_receive` reads any payload from left to right; here whole payloads
-- are put together from their parts. That both say the same is the law. MySQL: Client/Server Protocol, "COM_QUERY",
-- "COM_STMT_PREPARE", "COM_STMT_EXECUTE", "COM_STMT_SEND_LONG_DATA", "COM_STMT_RESET",
-- "COM_STMT_CLOSE" and "Null-Bitmap"; MariaDB: "COM_STMT_BULK_EXECUTE".
use Rattle.std.specs.Prelude.{◌≡◌, ℕ, ◌+◌, ◌/◌, ◌<◌, ◌≤◌, ◌^◌, Bool, true, false, List, [], ◌∷◌, ◌++◌, length, map}
use Rattle.std.specs.Prelude.{Option, Some, None, IsTrue, flat_map, replicate, slice_get, slice_index}
use Rattle.std.specs.Prelude.{slice_index_or, slice_range, if◌then◌else◌}
use Rattle.std.specs.List.{AllByRecursion, AllZip, concat, range_with_len}
use Rattle.byteorder.specs.Endian.{little_bytes}
use Rattle.mysql_const.specs.Commands.{command_number}
use Rattle.mysql_const.specs.declared.command.Command.TheVariants.{COM_QUERY, COM_STMT_PREPARE, COM_STMT_SEND_LONG_DATA}
use Rattle.mysql_const.specs.declared.command.Command.TheVariants.{COM_STMT_EXECUTE, COM_STMT_BULK_EXECUTE}
use Rattle.mysql_const.specs.declared.command.Command.TheVariants.{COM_STMT_RESET, COM_STMT_CLOSE}
use Rattle.mysql_field_lists.specs.NullBitmap.{is_null_at}
use Rattle.mysql_values.specs.Content.{Content}
use Rattle.mysql_values.specs.Content.TheVariants as content
use Rattle.mysql_values.specs.Literals.{IsLiteral}
use Rattle.mysql_values.specs.Tokens.{question}
use Rattle.mysql_wire.specs.Stream.{framings}
use Rattle.mysql_wire.specs.Stream.Numbering.{EachFromZero}
use Rattle.mysql_receive.specs.declared.param_type.ParamType.{ParamType}
use Rattle.mysql_receive.specs.Query.{Query, Statement, all_alone, max_places, place_count}
use Rattle.mysql_receive.specs.Layout.{Types, is_type}
use Rattle.mysql_receive.specs.InForce.{StatementState, nothing_yet, freshly_prepared, more_data, with_data, with_types}
use Rattle.mysql_receive.specs.InForce.{without_data}
use Rattle.mysql_receive.specs.Reading.{Set}
use Rattle.mysql_command_rules.specs.Cells.{IsContent}

-- COM_QUERY AND COM_STMT_PREPARE

-- where the pieces of a query begin: at the start of its text, and at the end of each placeholder
abbrev pub piece_starts : Query → List ℕ
piece_starts query = 0 ∷ map (λ place. place.end) query.places

-- where they end: at the start of each placeholder, and at the end of the text
abbrev pub piece_ends : Query → List ℕ
piece_ends query = map (λ place. place.start) query.places ++ length query.sql.text ∷ []

-- a piece of the query: its text from one placeholder to the next
abbrev pub piece : Query → ℕ → List ℕ
piece query i = slice_range query.sql.text (slice_index (piece_starts query) i) (slice_index (piece_ends query) i)

-- the pieces of a query, each with one of the parts behind it but for the last
abbrev pub filled_with : Query → List (List ℕ) → List ℕ
filled_with query parts =
    flat_map (λ i. piece query i ++ slice_index_or parts i [])
    (range_with_len 0 (place_count query + 1))

-- the query with a question mark for each placeholder
abbrev pub with_marks : Query → List ℕ
with_marks query = filled_with query (replicate (place_count query) (question ∷ []))

-- The text is the query's pieces with a literal of each content between them. Each placeholder stands alone.
pub record IsFilled (query : Query) (text : List ℕ) (set : Set) : Type 0 where
  pub alone : IsTrue (all_alone query)
  pub literals : List (List ℕ)
  pub count : length literals ≡ place_count query
  pub each : AllZip (IsLiteral query.sql.mode query.sql.spelling) literals set
  pub spelled : text ≡ filled_with query literals

-- TYPES AND CELLS

-- as many types as there are places, each with a number that names one
pub record AreTypes (count : ℕ) (types : Types) : Type 0 where
  pub all : length types ≡ count
  pub each : AllByRecursion (λ t. IsTrue (is_type t.number)) types

-- two bytes for each: its number, and a flag that is 128 where it is unsigned
abbrev pub type_bytes : Types → List ℕ
type_bytes types = flat_map (λ t. t.number ∷ (if t.unsigned then 128 else 0) ∷ []) types

-- Types, parts and contents side by side: as many of each, and the relation holds at each place.
pub record SideBySide (Holds : ℕ → ParamType → List ℕ → Content → Type 0) (types : Types)
    (parts : List (List ℕ)) (set : Set) : Type 0 where
  pub part_count : length parts ≡ length types
  pub content_count : length set ≡ length types
  pub each : (place : ℕ) (t : ParamType) (part : List ℕ) (held : Content) →
      slice_get types place ≡ Some t → slice_get parts place ≡ Some part → slice_get set place ≡
      Some held → Holds place t part held

-- COM_STMT_EXECUTE

-- What a place holds: the data that waits for it, or NULL where its bit is set, both without a
-- cell; else its cell's content.
abbrev pub IsParameter : Option (List ℕ) → Bool → ParamType → List ℕ → Content → Type 0
IsParameter (Some waiting) null t cell held = (cell ≡ []) × (held ≡ content.Bytes waiting)
IsParameter None true t cell held = (cell ≡ []) × (held ≡ content.Null)
IsParameter None false t cell held = IsContent t cell held

-- new_params_bind_flag, and the types that count: behind a 1 the payload's own, behind a 0 those in force
pub data AreBound (statement : Statement) (state : StatementState) : List ℕ → Types → Type 0 where
  anew : (types : Types) → AreTypes (place_count statement.query) types →
      AreBound statement state (1 ∷ type_bytes types) types
  kept : (types : Types) → state.types ≡ Some types → AreBound statement state (0 ∷ []) types

-- The parameters of an execute, and the types in force behind it: no byte where the query has no
-- placeholder; else the null bitmap, the types, and a cell for each place.
pub data AreParameters (statement : Statement) (state : StatementState) : List ℕ → Set → Option Types → Type 0 where
  without : place_count statement.query ≡ 0 → AreParameters statement state [] [] state.types
  with_places : (bitmap bound : List ℕ) (cells : List (List ℕ)) {types : Types} {set : Set} →
      0 < place_count statement.query →
      length bitmap ≡ (place_count statement.query + 7) / 8 → AreBound statement state bound types →
      SideBySide (λ place. IsParameter (state.long_data place) (is_null_at 0 bitmap place)) types cells set →
      AreParameters statement state (bitmap ++ (bound ++ concat cells)) set (Some types)

-- COM_STMT_BULK_EXECUTE

-- bulk_flags, 128 for types that are sent and 64 for results of each row, and the types that count
pub data AreBulkBound (statement : Statement) (state : StatementState) : List ℕ → Types → Type 0 where
  anew : (results : Bool) (types : Types) → AreTypes (place_count statement.query) types →
      AreBulkBound statement state (little_bytes 2 (if results then 192 else 128) ++ type_bytes types) types
  kept : (results : Bool) (types : Types) → state.types ≡ Some types →
      AreBulkBound statement state (little_bytes 2 (if results then 64 else 0)) types

-- a column: the indicator 1 for NULL, or the indicator 0 and a cell
pub data IsColumn (t : ParamType) : List ℕ → Content → Type 0 where
  null : IsColumn t (1 ∷ []) content.Null
  some : (cell : List ℕ) {held : Content} → IsContent t cell held → IsColumn t (0 ∷ cell) held

-- a row: columns, at least one, one after another
pub record IsRow (types : Types) (row : List ℕ) (set : Set) : Type 0 where
  pub some : 0 < length types
  pub columns : List (List ℕ)
  pub each : SideBySide (λ place. IsColumn) types columns set
  pub joined : row ≡ concat columns

-- WHAT IS IN FORCE

-- the statement is prepared, and its id has four bytes
pub record IsPrepared (statement : Statement) (state : StatementState) : Type 0 where
  pub prepared : state.prepared ≡ true
  pub id : statement.id < 2 ^ 32

-- no data waits for any place
abbrev pub NoneWaits : Statement → StatementState → Type 0
NoneWaits statement state = (place : ℕ) → place < place_count statement.query → state.long_data place ≡ None

-- COMMANDS

-- A command by what is in force before it, the sets that it carries, and what is in force behind
-- it. But for a query and a prepare, it names the prepared statement, by its id in four bytes.
pub data IsCommand (statement : Statement) (state : StatementState) : List ℕ → List Set → StatementState → Type 0 where
  -- COM_QUERY: the text
  query : (text : List ℕ) {set : Set} → IsFilled statement.query text set →
      IsCommand statement state (command_number COM_QUERY ∷ text) (set ∷ []) state
  -- COM_STMT_PREPARE: the query with a question mark for each placeholder, of which there are no
  -- more than can be counted
  prepare : place_count statement.query ≤ max_places →
      IsCommand statement state (command_number COM_STMT_PREPARE ∷ with_marks statement.query) [] freshly_prepared
  -- COM_STMT_SEND_LONG_DATA: a placeholder's number in two bytes, and data for it
  long_data : (place : ℕ) (bytes : List ℕ) → IsPrepared statement state →
      place < place_count statement.query → place < 2 ^ 16 →
      IsCommand statement state (command_number COM_STMT_SEND_LONG_DATA ∷
      little_bytes 4 statement.id ++ little_bytes 2 place ++ bytes) []
      (with_data state (more_data state.long_data place bytes))
  -- COM_STMT_EXECUTE: no cursor, an iteration count of 1, and the parameters, which use up the data
  execute : (parameters : List ℕ) {set : Set} {types : Option Types} → IsPrepared statement state →
      AreParameters statement state parameters set types →
      IsCommand statement state (command_number COM_STMT_EXECUTE ∷ little_bytes 4 statement.id ++ 0 ∷
      little_bytes 4 1 ++ parameters) (set ∷ [])
      (without_data (with_types state types))
  -- COM_STMT_BULK_EXECUTE: flags and types, and rows, at least one; no data waits
  bulk : (bound : List ℕ) (rows : List (List ℕ)) {types : Types} {sets : List Set} →
      IsPrepared statement state → NoneWaits statement state →
      0 < place_count statement.query → 0 < length rows → AreBulkBound statement state bound types →
      AllZip (IsRow types) rows sets →
      IsCommand statement state (command_number COM_STMT_BULK_EXECUTE ∷ little_bytes 4 statement.id ++ bound ++
      concat rows) sets (with_types state (Some types))
  -- COM_STMT_RESET: the data is dropped
  reset : IsPrepared statement state →
      IsCommand statement state (command_number COM_STMT_RESET ∷ little_bytes 4 statement.id) []
      (without_data state)
  -- COM_STMT_CLOSE: the statement is prepared no longer
  close : IsPrepared statement state →
      IsCommand statement state (command_number COM_STMT_CLOSE ∷ little_bytes 4 statement.id) []
      nothing_yet

-- Commands one after another, the sets that they carry, and what is in force behind the last.
pub data AreCommands (statement : Statement) : StatementState → List (List ℕ) → List Set → StatementState → Type 0 where
  none : {state : StatementState} → AreCommands statement state [] [] state
  next : {state between last : StatementState} {payload : List ℕ} {payloads : List (List ℕ)} (sets more : List Set) →
      IsCommand statement state payload sets between → AreCommands statement between payloads more last →
      AreCommands statement state (payload ∷ payloads) (sets ++ more) last

-- A whole stream: the framings of commands one after another, fewer than 2^64 and each within the
-- limit, and no data waits at the end.
pub record IsFramed (statement : Statement) (limit : ℕ) (bytes : List ℕ) (sets : List Set) : Type 0 where
  pub payloads : List (List ℕ)
  pub last : StatementState
  pub commands : AreCommands statement nothing_yet payloads sets last
  pub few : length payloads < 2 ^ 64
  pub within : AllByRecursion (λ payload. length payload ≤ limit) payloads
  pub framed : bytes ≡ framings payloads EachFromZero
  pub none_waits : NoneWaits statement last

-- A stream of commands that `receive` reads, read command by command by what is in force of its
-- statement. MySQL: Client/Server Protocol, "COM_STMT_EXECUTE", "COM_STMT_SEND_LONG_DATA",
-- "COM_STMT_RESET"; MariaDB: "COM_STMT_BULK_EXECUTE".
use Rattle.std.specs.Prelude.{◌≡◌, ℕ, ◌≤◌, Bool, true, false, if◌then◌else◌, ◌==◌, ◌||◌, List, []}
use Rattle.std.specs.Prelude.{◌∷◌, length, map}
use Rattle.std.specs.Prelude.{Option, Some, None}
use Rattle.std.specs.List.{list_all, list_any}
use Rattle.mysql_cells.specs.declared.value.Value.{Value}
use Rattle.mysql_commands.specs.Commands.{BulkExecute, Command, Execute, LongData, command_at}
use Rattle.mysql_const.specs.ColumnTypes.{column_type_number}
use Rattle.mysql_const.specs.declared.capabilities.Capabilities.{Capabilities}
use Rattle.mysql_executions.specs.After.{freshly_prepared, after_execution, after_long_data}
use Rattle.mysql_executions.specs.After.{after_reset, bulk_types}
use Rattle.mysql_executions.specs.After.{execution_types}
use Rattle.mysql_executions.specs.InForce.{InForce, data_for}
use Rattle.mysql_executions.specs.Types.{has_bulk_operations, has_query_attributes, unnamed}
use Rattle.mysql_executions.specs.declared.bulk.BulkValue.{BulkValue}
use Rattle.mysql_executions.specs.declared.bulk.BulkValue.TheVariants as bulk
use Rattle.mysql_executions.specs.declared.types.ParameterType.{ParameterType}
use Rattle.mysql_receive.specs.Audit.{Reads}
use Rattle.mysql_receive.specs.InForce.{StatementState, after}
use Rattle.mysql_receive.specs.InForce as receive
use Rattle.mysql_receive.specs.Layout.{Types}
use Rattle.mysql_receive.specs.Query.{Statement, place_count}
use Rattle.mysql_receive.specs.Reading.{PayloadReadsAs, Set}
use Rattle.mysql_receive.specs.declared.param_type.ParamType.{ParamType}
use Rattle.mysql_values.specs.Content.{Content}
use Rattle.mysql_values.specs.Values.{content_of}

-- WHAT IS IN FORCE

-- A type by its number.
abbrev pub numbered : ParameterType → ParamType
numbered t = record { number = column_type_number t.column_type; unsigned = t.unsigned }

-- The same types, of each place; or none.
abbrev pub SameTypes : Option Types → List ParameterType → ℕ → Type 0
SameTypes None types count = types ≡ []
SameTypes (Some sent) types count = (map numbered types ≡ sent) × (length types ≡ count)

-- What `receive` has in force of a statement is what is in force of its parameters.
pub record Agree (statement : Statement) (state : StatementState) (s : InForce) : Type 0 where
  pub prepared : state.prepared ≡ true
  pub count : s.count ≡ place_count statement.query
  pub types : SameTypes state.types s.types s.count
  pub long_data : (place : ℕ) → data_for s.long_data place ≡ state.long_data place
  pub places : (place : ℕ) → s.count ≤ place → data_for s.long_data place ≡ None
  pub whole : s.broken ≡ false

-- WHAT COMMANDS SAY

-- What an execution's parameters mean: each a content, or none.
abbrev pub meant : List Value → List (Option Content)
meant values = map content_of values

abbrev pub bulk_meant : BulkValue → Option Content
bulk_meant (bulk.Value value) = content_of value
bulk_meant bulk.Default = None
bulk_meant bulk.Ignore = None

-- What a command means: a set for an execution, one for each row of a bulk execution.
abbrev pub sets_of : Command → List (List (Option Content))
sets_of (Execute e) = meant e.parameters ∷ []
sets_of (BulkExecute e) = map (λ row. map bulk_meant row) e.rows
sets_of command = []

abbrev pub with_data : Command → InForce → InForce
with_data (LongData id place bytes) s = after_long_data place bytes s
with_data command s = s

-- A bulk execution changes nothing where MariaDB's aren't in force.
abbrev pub after_bulk : Capabilities → List ℕ → InForce → InForce
after_bulk capabilities body s =
    if has_bulk_operations capabilities then after_execution (unnamed (bulk_types s.count body)) s else s

-- What is in force behind a command about the statement, where no error answers it.
abbrev pub after_numbered : Capabilities → (number : ℕ) → List ℕ → Command → InForce → InForce
after_numbered capabilities number body command s =
    if number == 0x17 then after_execution (unnamed (execution_types capabilities s.count body)) s
    else if number == 0xfa then after_bulk capabilities body s
    else if number == 0x18 then with_data command s
    else if number == 0x1a then after_reset s
    else s

abbrev pub after_payload : Capabilities → List ℕ → InForce → InForce
after_payload capabilities [] s = s
after_payload capabilities (number ∷ body) s =
    after_numbered capabilities number body (command_at capabilities (Some s) (number ∷ body)) s

-- The sets that commands about one statement mean, each read by what those before it leave in
-- force.
abbrev pub sets_in : Capabilities → InForce → List (List ℕ) → List (List (List (Option Content)))
sets_in capabilities s [] = []
sets_in capabilities s (payload ∷ payloads) =
    sets_of (command_at capabilities (Some s) payload)
    ∷ sets_in capabilities (after_payload capabilities payload s) payloads

-- THE LAW

-- Sets of contents, each of which is there.
abbrev pub all_there : List (List Set) → List (List (List (Option Content)))
all_there reads = map (λ sets. map (λ set. map Some set) sets) reads

-- Commands about a prepared statement's parameters: executions, long data, resets; no text, no
-- prepare, and it isn't closed.
abbrev pub is_about_parameters : List ℕ → Bool
is_about_parameters [] = false
is_about_parameters (number ∷ body) =
    (number == 0x17) || ((number == 0xfa) || ((number == 0x18) || (number == 0x1a)))

abbrev pub is_bulk : List ℕ → Bool
is_bulk [] = false
is_bulk (number ∷ body) = number == 0xfa

-- Where there are bulk executions, they are in force.
abbrev pub BulksInForce : Capabilities → List (List ℕ) → Type 0
BulksInForce capabilities payloads =
    list_any is_bulk payloads ≡ true → has_bulk_operations capabilities ≡ true

-- Behind a prepare the same is in force on both sides.
abbrev pub PreparedAgree : Type 0
PreparedAgree = (statement : Statement) →
    Agree statement receive.freshly_prepared (freshly_prepared (place_count statement.query))

-- What `receive` reads of one command about a prepared statement, the command says: an execution
-- the same contents. And the same is in force behind it.
abbrev pub EachIsRead : Type 0
EachIsRead = (capabilities : Capabilities) (statement : Statement) (state : StatementState)
    (s : InForce) (payload : List ℕ) (sets : List Set) →
    has_query_attributes capabilities ≡ false → BulksInForce capabilities (payload ∷ []) →
    Agree statement state s → is_about_parameters payload ≡ true →
    PayloadReadsAs statement state payload sets →
    (sets_of (command_at capabilities (Some s) payload) ≡ map (λ set. map Some set) sets) ×
    Agree statement (after statement state payload) (after_payload capabilities payload s)

-- What `receive` reads of commands about a prepared statement, the commands say: each execution the
-- same contents, in the same order.
abbrev pub ReceivedAreRead : Type 0
ReceivedAreRead = (capabilities : Capabilities) (statement : Statement) (state : StatementState)
    (s : InForce) (first : ℕ) (payloads : List (List ℕ)) (reads : List (List Set)) →
    has_query_attributes capabilities ≡ false → BulksInForce capabilities payloads →
    Agree statement state s → list_all is_about_parameters payloads ≡ true →
    Reads statement state first payloads reads → sets_in capabilities s payloads ≡ all_there reads

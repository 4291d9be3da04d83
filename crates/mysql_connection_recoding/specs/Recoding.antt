-- A client's commands of one connection as those of another, on which the statements have other ids.
-- MySQL: Client/Server Protocol, "Prepared Statements" ("COM_STMT_PREPARE Response", statement_id;
-- "COM_STMT_EXECUTE", new_params_bind_flag); MariaDB: Client/Server Protocol, "COM_STMT_EXECUTE"
-- ('Statement id').
use Rattle.std.specs.Prelude.{◌≡◌, ℕ, Bool, true, false, ◌==◌, if◌then◌else◌, List, [], ◌∷◌, map}
use Rattle.std.specs.Prelude.{Option, Some, None, Result, Ok, Err, IsOk}
use Rattle.std.specs.Option.{ok_or, option_map}
use Rattle.mysql_commands.specs.Commands.{BulkExecute, ChangeUser, Close, Command, Execute, Fetch}
use Rattle.mysql_commands.specs.Commands.{LongData, Other, ResetStatement}
use Rattle.mysql_connection_statements.specs.Statements.{last_prepared}
use Rattle.mysql_executions.specs.Bulks.{BulkExecution}
use Rattle.mysql_executions.specs.Executions.{Execution}
use Rattle.mysql_executions.specs.declared.types.BoundType.{BoundType}
use Rattle.mysql_executions.specs.declared.types.ParameterType.{ParameterType}
use Rattle.mysql_connection_recoding.specs.declared.refusal.RecodingRefusal.{RecodingRefusal}
use Rattle.mysql_connection_recoding.specs.declared.refusal.RecodingRefusal.TheVariants as refusals

-- IDS

-- The id that each statement of the one connection has on the other, where it was prepared on both.
abbrev pub Ids : Type 0
Ids = ℕ → Option ℕ

abbrev pub no_ids : Ids
no_ids id = None

-- A statement was prepared on both.
abbrev pub with_id : (own other : ℕ) → Ids → Ids
with_id own other ids id = if own == id then Some other else ids id

-- A statement was closed.
abbrev pub without_id : ℕ → Ids → Ids
without_id own ids id = if own == id then None else ids id

-- The id by which a command names a statement there: 0xffffffff names the one that was prepared
-- last, there too.
abbrev pub id_there : Ids → ℕ → Option ℕ
id_there ids id = if id == last_prepared then Some id else ids id

-- TYPES

-- A type without a name.
abbrev pub nameless : ParameterType → BoundType
nameless t = record { parameter_type = t; name = [] }

-- The types that an execution carries there: its own; where it carries none, those that are in
-- force here.
abbrev pub types_there : List ParameterType → Option (List BoundType) → Option (List BoundType)
types_there in_force (Some own) = Some own
types_there [] None = None
types_there (first ∷ others) None = Some (map nameless (first ∷ others))

abbrev pub execution_there : List ParameterType → Execution → ℕ → Command
execution_there in_force e id =
    Execute (record e { statement = id; types = types_there in_force e.types })

abbrev pub bulk_there : List ParameterType → BulkExecution → ℕ → Command
bulk_there in_force e id =
    BulkExecute (record e { statement = id; types = types_there in_force e.types })

-- COMMANDS

-- A command about the statement of this id, by its id there.
abbrev pub by_id : Ids → ℕ → (ℕ → Command) → Result Command RecodingRefusal
by_id ids id command =
    ok_or (option_map command (id_there ids id)) (refusals.UnknownStatement id)

-- The command there: the same by the statement's id there, and an execution with types, where these
-- are in force of its statement here. A payload that is laid out as no command stays here.
abbrev pub recoded : List ParameterType → Ids → Command → Result Command RecodingRefusal
recoded in_force ids (Execute e) = by_id ids e.statement (execution_there in_force e)
recoded in_force ids (BulkExecute e) = by_id ids e.statement (bulk_there in_force e)
recoded in_force ids (LongData id place bytes) = by_id ids id (λ other. LongData other place bytes)
recoded in_force ids (Close id) = by_id ids id Close
recoded in_force ids (ResetStatement id) = by_id ids id ResetStatement
recoded in_force ids (Fetch id rows) = by_id ids id (λ other. Fetch other rows)
recoded in_force ids (Other payload) = Err refusals.OtherPayload
recoded in_force ids command = Ok command

-- Which ids are known behind it: that by which a statement is closed goes, and at a change of user all go.
abbrev pub ids_behind : Command → Ids → Ids
ids_behind (Close id) ids = without_id id ids
ids_behind (ChangeUser login) ids = no_ids
ids_behind command ids = ids

-- REFUSALS

-- An execution needs memory for the types that it doesn't carry.
abbrev pub lacks_types : List ParameterType → Option (List BoundType) → Bool
lacks_types in_force (Some own) = false
lacks_types [] None = false
lacks_types (first ∷ others) None = true

abbrev pub needs_memory : List ParameterType → Command → Bool
needs_memory in_force (Execute e) = lacks_types in_force e.types
needs_memory in_force (BulkExecute e) = lacks_types in_force e.types
needs_memory in_force command = false

-- Why a command isn't recoded. Memory may be wanted where it needs any, and nothing else speaks against it.
abbrev pub Refuses : List ParameterType → Ids → Command → RecodingRefusal → Type 0
Refuses in_force ids command refusals.Memory =
    (needs_memory in_force command ≡ true) × IsOk (recoded in_force ids command)
Refuses in_force ids command refusal = recoded in_force ids command ≡ Err refusal

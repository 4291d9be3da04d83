-- Words of the receiver's own body: what its values stand for, and what its functions answer.
-- Public clauses have `sets_of` alone. MySQL: Client/Server Protocol, "Command Phase".
use Rattle.std.specs.Global.{Vec}
use Rattle.std.specs.Prelude.{◌≡◌, ℕ, List, [], ◌∷◌, map, Option, Some, None, Result, Ok, Err, slice_get}
use Rattle.std.specs.Option.{option_map, option_and_then}
use Rattle.mysql_values.specs.Content.{Content}
use Rattle.mysql_values.specs.Sql.{read_by}
use Rattle.mysql_receive.specs.declared.fault.StreamFault.{StreamFault}
use Rattle.mysql_receive.specs.declared.read_error.ReadError.{ReadError}
use Rattle.mysql_receive.specs.declared.read_error.ReadError.TheVariants as read_error
use Rattle.mysql_receive.specs.declared.carried.Carried.{Carried}
use Rattle.mysql_receive.specs.declared.carried.Carried.TheVariants as carried
use Rattle.mysql_receive.specs.declared.param_type.ParamType.{ParamType}
use Rattle.mysql_receive.specs.declared.param_type.OwnTypes.{OwnTypes}
use Rattle.mysql_receive.specs.declared.param_type.OwnTypes.TheVariants as own_types
use Rattle.mysql_receive.specs.declared.statement.Statement.{Statement as CodeStatement}
use Rattle.mysql_receive.specs.declared.statement.StatementState.{StatementState as CodeState}
use Rattle.mysql_receive.specs.declared.layout.ExecuteHead.{ExecuteHead as CodeExecuteHead}
use Rattle.mysql_receive.specs.declared.layout.BulkHead.{BulkHead as CodeBulkHead}
use Rattle.mysql_receive.specs.declared.layout.PlaceData.{PlaceData as CodePlaceData}
use Rattle.mysql_wire.specs.Wire.{◌>>=◌}
use Rattle.mysql_receive.specs.Layout.{Command, Types, ExecuteHead, BulkHead, PlaceData}
use Rattle.mysql_receive.specs.Query.{Statement}
use Rattle.mysql_receive.specs.InForce.{StatementState}
use Rattle.mysql_receive.specs.Reading.{Set, CommandReadsAs, CommandFaulty, PayloadReadsAs, PayloadFaulty}

abbrev pub sets_of : List (Vec Content) → List Set
sets_of xs = map (λ set. set.items) xs

-- the sets that a command carries
abbrev pub sets_carried : Carried → List Set
sets_carried carried.Nothing = []
sets_carried (carried.One set) = set.items ∷ []
sets_carried (carried.Many sets) = sets_of sets.items

abbrev pub types_kept : Option (Vec ParamType) → Option Types
types_kept types = option_map (λ types. types.items) types

-- the types that a command carries, where these are in force
abbrev pub types_carried : Option Types → OwnTypes → Option Types
types_carried kept own_types.Without = None
types_carried kept own_types.Kept = kept
types_carried kept (own_types.Anew types) = Some types.items

-- what was read of types
abbrev pub some_types : Result (Types × List ℕ) StreamFault → Result (Option Types × List ℕ) StreamFault
some_types read = read >>= λ x. Ok (Some x.0, x.1)

abbrev pub execute_head_of : Option Types → CodeExecuteHead → ExecuteHead
execute_head_of kept h = record { nulls = h.nulls.now; own = types_carried kept h.own; cells = h.cells.now }

abbrev pub bulk_head_of : Option Types → CodeBulkHead → BulkHead
bulk_head_of kept h = record { own = types_carried kept h.own; rows = h.rows.now }

abbrev pub place_data_of : CodePlaceData → PlaceData
place_data_of sent = record { place = sent.place; bytes = sent.bytes.now }

abbrev pub statement_view : CodeStatement → Statement
statement_view statement = record {
  query =
      record {
        sql = read_by statement.mode statement.spelling statement.query.items;
        parsed = statement.parsed.items;
        places = statement.places.items;
      };
  id = statement.id;
}

abbrev pub data_waiting : List (Option (Vec ℕ)) → ℕ → Option (List ℕ)
data_waiting waiting place =
    option_and_then (λ found. option_map (λ bytes. bytes.items) found) (slice_get waiting place)

abbrev pub state_of : CodeState → StatementState
state_of state = record {
  prepared = state.prepared;
  types = types_kept state.types;
  long_data =
      data_waiting state.long_data.items;
}

-- what a function returned, seen by a view, is what reading gives, unless memory ran out
abbrev pub Fails : {Y : Type 0} → ReadError → Result Y StreamFault → Type 0
Fails read_error.Memory read = Unit {0}
Fails (read_error.Fault f) read = read ≡ Err f

abbrev pub Gives : {X Y : Type 0} → (X → Y) → Result X ReadError → Result Y StreamFault → Type 0
Gives view (Ok x) read = read ≡ Ok (view x)
Gives view (Err e) read = Fails e read

-- what a function found: a value, seen by a view, of which the one is said, or a fault of which the
-- other is, unless memory ran out
abbrev pub Finds : {X Y : Type 0} → (X → Y) → Result X ReadError → (Y → Type 0) → (StreamFault → Type 0) → Type 0
Finds view (Ok x) Reads IsFaulty = Reads (view x)
Finds view (Err read_error.Memory) Reads IsFaulty = Unit {0}
Finds view (Err (read_error.Fault f)) Reads IsFaulty = IsFaulty f

-- what a command was found to be: the sets that it reads as, or its fault
abbrev pub Judged : Statement → StatementState → Command → List ℕ → Result Carried ReadError → Type 0
Judged statement state command body result =
    Finds sets_carried result (CommandReadsAs statement state command body) (CommandFaulty statement state command body)

abbrev pub PayloadJudged : Statement → StatementState → List ℕ → Result Carried ReadError → Type 0
PayloadJudged statement state payload result =
    Finds sets_carried result (PayloadReadsAs statement state payload)
    (PayloadFaulty statement state payload)

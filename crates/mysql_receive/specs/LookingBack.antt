-- What is in force after some payloads, found by looking back over them from their end: the last payload that
-- speaks of a thing decides, and where none does, what held before them.
-- MySQL: Client/Server Protocol, "COM_STMT_EXECUTE" (new_params_bind_flag) and "COM_STMT_SEND_LONG_DATA".
use Rattle.std.specs.Prelude.{ℕ, Bool, true, false, List, [], ◌∷◌, ◌++◌, Option, Some, None, ◌==◌, if◌then◌else◌}
use Rattle.std.specs.Prelude.{unwrap_or, is_some, bytes_eq}
use Rattle.std.specs.List.{list_any, filter_map, flat_map, last_or}
use Rattle.std.specs.Option.{option_and_then, option_map, option_to_list}
use Rattle.std.specs.Result.{result_ok}
use Rattle.mysql_receive.specs.Layout.{Command, command_of, Types, place_data_at}
use Rattle.mysql_receive.specs.Layout as layout
use Rattle.mysql_receive.specs.Query.{Statement}
use Rattle.mysql_receive.specs.InForce.{StatementState, execute_types, bulk_types}

-- what a payload's command and body say, where it has any byte
abbrev pub said_by : {A : Type 0} → (Command → List ℕ → Option A) → List ℕ → Option A
said_by speaks [] = None
said_by speaks (b ∷ body) = speaks (command_of b) body

-- what the last payload says that says anything, else what was before
abbrev pub last_said : {A : Type 0} → (List ℕ → Option A) → A → List (List ℕ) → A
last_said says before payloads = unwrap_or (last_or None (filter_map says payloads)) before

-- the prepare of the statement's query says that it is prepared, a close that it isn't, and no
-- other payload speaks of it
abbrev pub speaks_of_prepared : Statement → Command → List ℕ → Option Bool
speaks_of_prepared statement layout.Prepare body =
    if bytes_eq body statement.query.parsed then Some true else None
speaks_of_prepared statement layout.Close body = Some false
speaks_of_prepared statement _ body = None

-- a prepare and a close say that there are no types; a typed execute or bulk says its own
abbrev pub speaks_of_types : Statement → Command → List ℕ → Option (Option Types)
speaks_of_types statement layout.Prepare body = Some None
speaks_of_types statement layout.Execute body = option_map (λ types. Some types) (execute_types statement body)
speaks_of_types statement layout.Bulk body = option_map (λ types. Some types) (bulk_types statement body)
speaks_of_types statement layout.Close body = Some None
speaks_of_types statement _ body = None

-- a prepare, an execute, a reset and a close end the long data that waits
abbrev pub ends_data : Command → List ℕ → Option Bool
ends_data layout.Prepare body = Some true
ends_data layout.Execute body = Some true
ends_data layout.Reset body = Some true
ends_data layout.Close body = Some true
ends_data _ body = None

abbrev pub is_end : List ℕ → Bool
is_end payload = is_some (said_by ends_data payload)

-- the data that a command sends for this place
abbrev pub speaks_of_place : Statement → ℕ → Command → List ℕ → Option (List ℕ)
speaks_of_place statement place layout.LongData body =
    option_and_then (λ sent. if sent.place == place then Some sent.bytes else None)
    (result_ok (place_data_at statement body))
speaks_of_place statement place _ body = None

-- the elements after the last that passes the test, all of them where none does
abbrev pub since : {A : Type 0} → (A → Bool) → List A → List A
since test [] = []
since test (x ∷ xs) = if list_any test (x ∷ xs) then since test xs else x ∷ xs

-- the parts in a row, where there is one
abbrev pub joined : List (List ℕ) → Option (List ℕ)
joined [] = None
joined (x ∷ xs) = Some (flat_map (λ part. part) (x ∷ xs))

-- what waits for a place: what waited before, unless an end came, and the data since the last end, in a row
abbrev pub waiting_for : Statement → Option (List ℕ) → List (List ℕ) → ℕ → Option (List ℕ)
waiting_for statement before payloads place =
    joined (option_to_list (if list_any is_end payloads then None else before) ++
    filter_map (said_by (speaks_of_place statement place)) (since is_end payloads))

-- what is in force after these payloads
abbrev pub looking_back : Statement → StatementState → List (List ℕ) → StatementState
looking_back statement state payloads =
    record {
      prepared = last_said (said_by (speaks_of_prepared statement)) state.prepared payloads;
      types = last_said (said_by (speaks_of_types statement)) state.types payloads;
      long_data = λ place. waiting_for statement (state.long_data place) payloads place;
    }

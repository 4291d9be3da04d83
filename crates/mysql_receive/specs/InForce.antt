-- What is in force at a payload, and what each command leaves in force.
-- MySQL: Client/Server Protocol, "COM_STMT_PREPARE", "COM_STMT_EXECUTE" (new_params_bind_flag),
-- "COM_STMT_SEND_LONG_DATA", "COM_STMT_RESET", "COM_STMT_CLOSE"; MariaDB: "COM_STMT_BULK_EXECUTE".
use Rattle.std.specs.Prelude.{ℕ, Bool, true, false, List, [], ◌∷◌, ◌++◌, Option, Some, None, Result, Ok, Err}
use Rattle.std.specs.Prelude.{◌==◌, ◌||◌, if◌then◌else◌, unwrap_or, is_some, bytes_eq}
use Rattle.std.specs.List.{list_any, range_with_len}
use Rattle.std.specs.Option.{option_and_then, option_or}
use Rattle.std.specs.Result.{result_ok}
use Rattle.mysql_receive.specs.declared.fault.StreamFault.{StreamFault}
use Rattle.mysql_receive.specs.Layout.{Command, command_of, PlaceData, Types, place_data_at, execute_head, bulk_head}
use Rattle.mysql_receive.specs.Layout as layout
use Rattle.mysql_receive.specs.Query.{Statement, place_count}

-- whether the statement is prepared, the types that were sent last, the long data that waits for each place
pub record StatementState : Type 0 where
  pub prepared : Bool
  pub types : Option Types
  pub long_data : ℕ → Option (List ℕ)

-- at the start, and behind a close
abbrev pub nothing_yet : StatementState
nothing_yet = record { prepared = false; types = None; long_data = λ place. None }

-- behind a prepare: no types, and no data that waits
abbrev pub freshly_prepared : StatementState
freshly_prepared = record { prepared = true; types = None; long_data = λ place. None }

-- with these types, and with this data
abbrev pub with_types : StatementState → Option Types → StatementState
with_types state types = record { prepared = state.prepared; types = types; long_data = state.long_data }

abbrev pub with_data : StatementState → (ℕ → Option (List ℕ)) → StatementState
with_data state waiting = record { prepared = state.prepared; types = state.types; long_data = waiting }

-- without any data that waits
abbrev pub without_data : StatementState → StatementState
without_data state = with_data state (λ place. None)

-- data for a place goes behind what waits for it
abbrev pub more_data : (ℕ → Option (List ℕ)) → ℕ → List ℕ → ℕ → Option (List ℕ)
more_data waiting place bytes other =
    if place == other then Some (unwrap_or (waiting other) [] ++ bytes) else waiting other

-- with the data that a command sends, where it sends any
abbrev pub with_sent : StatementState → Result PlaceData StreamFault → StatementState
with_sent state (Ok sent) = with_data state (more_data state.long_data sent.place sent.bytes)
with_sent state (Err fault) = state

-- the types that an execute carries, and those that a bulk does
abbrev pub execute_types : Statement → List ℕ → Option Types
execute_types statement body = option_and_then (λ head. head.own) (result_ok (execute_head statement body))

abbrev pub bulk_types : Statement → List ℕ → Option Types
bulk_types statement body = option_and_then (λ head. head.own) (result_ok (bulk_head statement body))

-- What is in force behind a command. A prepare of another query is a fault, and makes nothing prepared.
abbrev pub after_command : Statement → StatementState → Command → List ℕ → StatementState
after_command statement state layout.Text body = state
after_command statement state layout.Prepare body =
    record freshly_prepared { prepared = bytes_eq body statement.query.parsed || state.prepared }
after_command statement state layout.LongData body = with_sent state (place_data_at statement body)
after_command statement state layout.Execute body =
    without_data (with_types state (option_or (execute_types statement body) state.types))
after_command statement state layout.Bulk body =
    with_types state (option_or (bulk_types statement body) state.types)
after_command statement state layout.Reset body = without_data state
after_command statement state layout.Close body = nothing_yet
after_command statement state layout.Other body = state

-- behind a payload, and behind several, one after another
abbrev pub after : Statement → StatementState → List ℕ → StatementState
after statement state [] = state
after statement state (b ∷ body) = after_command statement state (command_of b) body

abbrev pub state_after : Statement → StatementState → List (List ℕ) → StatementState
state_after statement state [] = state
state_after statement state (payload ∷ payloads) =
    state_after statement (after statement state payload) payloads

-- whether long data waits for any place
abbrev pub is_waiting : Statement → StatementState → Bool
is_waiting statement state =
    list_any (λ place. is_some (state.long_data place)) (range_with_len 0 (place_count statement.query))

-- The payloads that are sent for sets of values of a query, by each road. MySQL: Client/Server
-- Protocol, "COM_QUERY", "COM_STMT_PREPARE", "COM_STMT_SEND_LONG_DATA", "COM_STMT_EXECUTE";
-- MariaDB: Client/Server Protocol, "COM_STMT_BULK_EXECUTE".
use Rattle.std.specs.Prelude.{◌≡◌, ℕ, false, List, [], ◌∷◌, ◌++◌, map, unwrap_or, if◌then◌else◌}
use Rattle.std.specs.List.{flat_map}
use Rattle.mysql_wire.specs.Stream.{framings}
use Rattle.mysql_wire.specs.Stream.Numbering.{EachFromZero}
use Rattle.mysql_values.specs.Queries.{interleaved, slices_between}
use Rattle.mysql_values.specs.Value.{Value}
use Rattle.mysql_values.specs.Binding.{literals_in}
use Rattle.mysql_stmt.specs.Executions.{execute_command, needs_long_data}
use Rattle.mysql_bulk_builder.specs.Cut.{rows_of}
use Rattle.mysql_bulk_builder.specs.TypedCut.{IsTightTyped, Part, placed}
use Rattle.mysql_receive.specs.Query.{Query, Statement, place_count}
use Rattle.mysql_command_rules.specs.declared.road.Road.{Road}
use Rattle.mysql_command_rules.specs.declared.road.Road.TheVariants.{Text, Execute, Bulk}
use Rattle.mysql_command_rules.specs.Commands.{bulk_request, pieces_from, prepare_command, query_command}

-- the text of a query with values: its slices between its placeholders, and between them the
-- literal of each value, empty where it has none
abbrev pub query_text_of : Query → List Value → List ℕ
query_text_of query values =
    interleaved (slices_between query.sql.text 0 query.places)
    (map (λ literal. unwrap_or literal []) (literals_in query.sql values))

-- the command that carries all of a set's values, by which the set's size counts; by bulk, where
-- sets share requests, none does
abbrev pub whole_command : Road → Statement → List Value → List ℕ
whole_command Text statement values = query_command (query_text_of statement.query values)
whole_command Execute statement values = execute_command statement.id values false
whole_command Bulk statement values = []

-- a payload that is sent, and the sets of values whose last command it is
pub record SentPayload : Type 0 where
  pub payload : List ℕ
  pub sets : List (List Value)

-- a payload that is no set's last
abbrev pub on_the_way : List ℕ → SentPayload
on_the_way payload = record { payload = payload; sets = [] }

-- a payload that is the last of one set
abbrev pub last_of : List Value → List ℕ → SentPayload
last_of values payload = record { payload = payload; sets = values ∷ [] }

-- the prepare of a statement
abbrev pub prepare_of : Statement → SentPayload
prepare_of statement = on_the_way (prepare_command statement.query.parsed)

-- a set by text: its query
abbrev pub as_text : Statement → List Value → List SentPayload
as_text statement values = last_of values (whole_command Text statement values) ∷ []

-- a set as an execution: before it, where it would exceed one packet's most bytes, its byte strings
abbrev pub as_execution : Statement → List Value → List SentPayload
as_execution statement values =
    map on_the_way (if needs_long_data values then pieces_from statement.id 0 values else [])
    ++ last_of values (execute_command statement.id values (needs_long_data values)) ∷ []

-- sets as bulk requests, one for each part of a cut
abbrev pub as_requests : Statement → List (List Value) → List Part → List SentPayload
as_requests statement sets cut =
    map (λ p. record {
      payload =
          bulk_request statement.id (place_count statement.query) sets p.0 p.1.typing p.1.count;
      sets = rows_of sets p.0 p.1.count;
    }) (placed cut)

-- What is sent of sets with these values, in payloads of at most so many bytes: by text their
-- queries; by execute a prepare and their executions; by bulk a prepare and the requests of the
-- tight cut.
abbrev pub AreSent : Road → Statement → ℕ → List (List Value) → List SentPayload → Type 0
AreSent Text statement room sets sent = sent ≡ flat_map (as_text statement) sets
AreSent Execute statement room sets sent = sent ≡ prepare_of statement ∷ flat_map (as_execution statement) sets
AreSent Bulk statement room sets sent =
    (cut : List Part) × IsTightTyped room (place_count statement.query) sets cut ×
    (sent ≡ prepare_of statement ∷ as_requests statement sets cut)

-- their payloads, and the sets that stand whole with them
abbrev pub payloads_of : List SentPayload → List (List ℕ)
payloads_of sent = map (λ s. s.payload) sent

abbrev pub sets_of : List SentPayload → List (List Value)
sets_of sent = flat_map (λ s. s.sets) sent

-- their bytes: the framing of each, whose packets are numbered from 0, one after another
abbrev pub stream_of : List SentPayload → List ℕ
stream_of sent = framings (payloads_of sent) EachFromZero

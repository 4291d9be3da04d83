-- A connection by hand, from bytes to contents: a statement is prepared, and executed with long data, in bulk, and
-- by values; then a query is asked by text. Each list of bytes is a packet: three of its length, its number, its
-- payload. MySQL: Client/Server Protocol, "MySQL Packets", "COM_STMT_PREPARE", "COM_STMT_SEND_LONG_DATA",
-- "COM_STMT_EXECUTE", "COM_QUERY"; MariaDB: "COM_STMT_BULK_EXECUTE".
use Rattle.std.specs.Prelude.{ℕ, false, List, [], ◌∷◌, ◌++◌, Option, None, Some}
use Rattle.mysql_cells.specs.declared.value.Value.{Value}
use Rattle.mysql_cells.specs.declared.value.Value.TheVariants.{Bytes}
use Rattle.mysql_commands.specs.Commands.{BulkExecute, Execute, LongData, Prepare, Query}
use Rattle.mysql_connection_rules.specs.Events.{Event}
use Rattle.mysql_connection_rules.specs.Events.Event.{Asked, Replied}
use Rattle.mysql_connection_rules.specs.Streams.{Beginning, Streams, from_login}
use Rattle.mysql_connection_rules.specs.declared.limits.Limits.{Limits}
use Rattle.mysql_const.specs.declared.capabilities.Capabilities.{Capabilities}
use Rattle.mysql_const.specs.declared.column_type.ColumnType.TheVariants.{MYSQL_TYPE_VAR_STRING}
use Rattle.mysql_executions.specs.declared.bulk.BulkValue.TheVariants as bulk
use Rattle.mysql_executions.specs.declared.types.BoundType.{BoundType}
use Rattle.mysql_handshake.specs.Capabilities.{both_words}
use Rattle.mysql_bytes.specs.declared.content.Content.TheVariants as content
use Rattle.mysql_reply_events.specs.Events.Event.{OkEvent, PreparedEvent}
use Rattle.mysql_values.specs.Content.{Content}

-- THE BYTES

-- Behind a login: PROTOCOL_41, DEPRECATE_EOF, OPTIONAL_RESULTSET_METADATA, and MariaDB's bulk executions.
abbrev pub agreed : Capabilities
agreed = both_words 0x3000200 4

abbrev pub small : Limits
small = record { client = 64; server = 64; held = 400 }

abbrev pub begun : Beginning
begun = from_login small agreed

-- `DO ?` is prepared: the statement 1, of one parameter, whose columns don't follow.
abbrev pub text : List ℕ
text = 0x44 ∷ 0x4f ∷ 0x20 ∷ 0x3f ∷ []

abbrev pub prepare : List ℕ
prepare = 5 ∷ 0 ∷ 0 ∷ 0 ∷ 0x16 ∷ text

abbrev pub answer : List ℕ
answer = 13 ∷ 0 ∷ 0 ∷ 1 ∷ 0 ∷ 1 ∷ 0 ∷ 0 ∷ 0 ∷ 0 ∷ 0 ∷ 1 ∷ 0 ∷ 0 ∷ 0 ∷ 0 ∷ 0 ∷ []

-- `gh` comes as long data of its parameter, and an execution takes it.
abbrev pub sent_data : List ℕ
sent_data = 9 ∷ 0 ∷ 0 ∷ 0 ∷ 0x18 ∷ 1 ∷ 0 ∷ 0 ∷ 0 ∷ 0 ∷ 0 ∷ 0x67 ∷ 0x68 ∷ []

abbrev pub with_data : List ℕ
with_data = 14 ∷ 0 ∷ 0 ∷ 0 ∷ 0x17 ∷ 1 ∷ 0 ∷ 0 ∷ 0 ∷ 0 ∷ 1 ∷ 0 ∷ 0 ∷ 0 ∷ 0 ∷ 1 ∷ 0xfd ∷ 0 ∷ []

-- `c` and `d` are the rows of a bulk execution.
abbrev pub in_bulk : List ℕ
in_bulk = 15 ∷ 0 ∷ 0 ∷ 0 ∷ 0xfa ∷ 1 ∷ 0 ∷ 0 ∷ 0 ∷ 0x80 ∷ 0 ∷ 0xfd ∷ 0 ∷ 0 ∷ 1 ∷ 0x63 ∷ 0 ∷ 1 ∷ 0x64 ∷ []

-- `e` goes without a type, as the type in force will do.
abbrev pub by_values : List ℕ
by_values = 14 ∷ 0 ∷ 0 ∷ 0 ∷ 0x17 ∷ 1 ∷ 0 ∷ 0 ∷ 0 ∷ 0 ∷ 1 ∷ 0 ∷ 0 ∷ 0 ∷ 0 ∷ 0 ∷ 1 ∷ 0x65 ∷ []

-- `DO 'f'`
abbrev pub asked_text : List ℕ
asked_text = 0x44 ∷ 0x4f ∷ 0x20 ∷ 0x27 ∷ 0x66 ∷ 0x27 ∷ []

abbrev pub by_text : List ℕ
by_text = 7 ∷ 0 ∷ 0 ∷ 0 ∷ 0x03 ∷ asked_text

abbrev pub ok : List ℕ
ok = 7 ∷ 0 ∷ 0 ∷ 1 ∷ 0 ∷ 0 ∷ 0 ∷ 2 ∷ 0 ∷ 0 ∷ 0 ∷ []

abbrev pub client_bytes : List ℕ
client_bytes = prepare ++ (sent_data ++ (with_data ++ (in_bulk ++ (by_values ++ by_text))))

abbrev pub server_bytes : List ℕ
server_bytes = answer ++ (ok ++ (ok ++ (ok ++ ok)))

abbrev pub bytes : Streams
bytes = record {
  client = record { read = 0; bytes = client_bytes; closed = false };
  server = record { read = 0; bytes = server_bytes; closed = false };
}

-- THE EVENTS

abbrev pub of_text : BoundType
of_text = record { parameter_type = record { column_type = MYSQL_TYPE_VAR_STRING; unsigned = false }; name = [] }

abbrev pub asks : Event
asks = Asked (Prepare text)

abbrev pub answers : Event
answers = Replied (PreparedEvent (record {
  statement_id = 1;
  num_columns = 0;
  num_params = 1;
  warning_count = 0;
}) false)

abbrev pub sends_data : Event
sends_data = Asked (LongData 1 0 (0x67 ∷ 0x68 ∷ []))

abbrev pub executes_data : Event
executes_data = Asked (Execute (record {
  statement = 1;
  cursor = record { 0 = 0 };
  count_available = false;
  nameless_flags = 0;
  iterations = 1;
  types = Some (of_text ∷ []);
  parameters = Bytes (0x67 ∷ 0x68 ∷ []) ∷ [];
  attributes = [];
  rest = [];
}))

abbrev pub executes_bulk : Event
executes_bulk = Asked (BulkExecute (record {
  statement = 1;
  unit_results = false;
  types = Some (of_text ∷ []);
  rows = (bulk.Value (Bytes (0x63 ∷ [])) ∷ []) ∷ (bulk.Value (Bytes (0x64 ∷ [])) ∷ []) ∷ [];
  rest = [];
}))

abbrev pub values : List Value
values = Bytes (0x65 ∷ []) ∷ []

abbrev pub executes_values : Event
executes_values = Asked (Execute (record {
  statement = 1;
  cursor = record { 0 = 0 };
  count_available = false;
  nameless_flags = 0;
  iterations = 1;
  types = None;
  parameters = values;
  attributes = [];
  rest = [];
}))

abbrev pub queries : Event
queries = Asked (Query [] asked_text)

abbrev pub accepts : Event
accepts = Replied (OkEvent (record {
  affected_rows = 0;
  last_insert_id = None;
  status_flags = 2;
  warnings = 0;
  info = None;
  session_state_info = None;
}))

-- The run over the bytes is these events: up to the server's answer to the prepare, and behind it.
abbrev pub up_to_answer : List Event
up_to_answer = asks ∷ answers ∷ []

abbrev pub behind_answer : List Event
behind_answer = sends_data ∷ executes_data ∷ accepts ∷ executes_bulk ∷ accepts ∷ executes_values ∷ accepts ∷
    queries ∷ accepts ∷ []

abbrev pub events_said : List Event
events_said = up_to_answer ++ behind_answer

abbrev pub client_said : List Event
client_said = asks ∷ sends_data ∷ executes_data ∷ executes_bulk ∷ executes_values ∷ queries ∷ []

abbrev pub server_said : List Event
server_said = answers ∷ accepts ∷ accepts ∷ accepts ∷ accepts ∷ []

-- WHAT IS EXECUTED

abbrev pub set_of : List ℕ → List (Option Content)
set_of bytes = Some (content.Bytes bytes) ∷ []

-- `gh`, `c`, `d` and `e`, each a set of one.
abbrev pub contents : List (List (Option Content))
contents = set_of (0x67 ∷ 0x68 ∷ []) ∷ set_of (0x63 ∷ []) ∷ set_of (0x64 ∷ []) ∷ set_of (0x65 ∷ []) ∷ []

-- What C sees of the values and the attributes of the event that was told last.
-- MySQL: Client/Server Protocol, "COM_STMT_EXECUTE" and "Text Resultset Row"; MariaDB: "COM_STMT_BULK_EXECUTE".
use Rattle.std.specs.Prelude.{◌≡◌, ℕ, ◌==◌, List, Option, Some, None, length, slice_get}
use Rattle.std.specs.Prelude.{if◌then◌else◌, option_map}
use Rattle.std.specs.Option.{option_and_then}
use Rattle.mysql_authentication.specs.Events as logging
use Rattle.mysql_authentication.specs.Events.{Response as ResponseSaid}
use Rattle.mysql_cells.specs.declared.value.Value.{Value}
use Rattle.mysql_commands.specs.Commands as asked
use Rattle.mysql_commands.specs.Commands.{Command}
use Rattle.mysql_handshake_response.specs.Attributes.{Attribute as Pair}
use Rattle.mysql_connection_rules.specs.Events as said
use Rattle.mysql_connection_rules.specs.Events.{Event}
use Rattle.mysql_executions.specs.declared.bulk.BulkValue.{BulkValue}
use Rattle.mysql_executions.specs.declared.bulk.BulkValue.TheVariants as bulk
use Rattle.mysql_executions.specs.declared.types.Attribute.{Attribute}
use Rattle.mysql_login.specs.ChangedUsers.{MoreFields}
use Rattle.mysql_reply_events.specs.Events.Event.{RowEvent}
use Rattle.mysql_reply_events.specs.Events.{Event as ReplySaid}
use Rattle.mysql_rows.specs.Rows.{cell_at}
use Rattle.mysql_c_replies.specs.Shown.{ShowsValue}
use Rattle.mysql_c_replies.specs.declared.shown.ShownValue.{ShownValue}
use Rattle.mysql_c_connection.specs.Lent.{event_told}
use Rattle.mysql_c_connection.specs.declared.code.ConnectionCode.{ConnectionCode}
use Rattle.mysql_c_connection.specs.declared.code.ConnectionCode.TheVariants as code
use Rattle.mysql_c_connection.specs.declared.object.Object.{Object}
use Rattle.mysql_c_connection.specs.declared.object.Object.TheVariants as object
use Rattle.mysql_c_connection.specs.declared.values.NamedValue.{NamedValue}
use Rattle.mysql_c_connection.specs.declared.values.NamedValue.TheVariants as named

-- the event that was told last of an object: one that it holds, or a row that it lends
abbrev pub event_held : Object → Option Event
event_held object.Empty = None
event_held (object.Open c) = event_told c.event c.connection.row

-- why an object has nothing of this number
abbrev pub unheld_code : Object → ConnectionCode
unheld_code object.Empty = code.EmptyHandle
unheld_code (object.Open c) = code.OutOfRange

-- the parameter at a place of an execution, or of a row of a bulk execution
abbrev pub parameter_in : Command → (row place : ℕ) → Option BulkValue
parameter_in (asked.Execute e) row place =
    if row == 0 then option_map bulk.Value (slice_get e.parameters place) else None
parameter_in (asked.BulkExecute e) row place =
    option_and_then (λ values. slice_get values place) (slice_get e.rows row)
parameter_in command row place = None

-- the cell at a place of a row
abbrev pub cell_in : ReplySaid → (row place : ℕ) → Option BulkValue
cell_in (RowEvent cells) row place =
    if row == 0 then option_map bulk.Value (cell_at cells (Some place)) else None
cell_in reply row place = None

-- the value at a place of an event's row
abbrev pub value_in : Event → (row place : ℕ) → Option BulkValue
value_in (said.Asked command) row place = parameter_in command row place
value_in (said.Replied reply) row place = cell_in reply row place
value_in event row place = None

-- a value; that a parameter is the column's default is kind 8, that it is left out 9
abbrev pub ShowsBulk : BulkValue → ShownValue → Type 0
ShowsBulk (bulk.Value value) shown = ShowsValue value shown
ShowsBulk bulk.Default shown = shown.kind ≡ 8
ShowsBulk bulk.Ignore shown = shown.kind ≡ 9

-- a name, and a value or the bytes that are that
pub data Named : Type 0 where
  OfValue : List ℕ → Value → Named
  OfBytes : List ℕ → List ℕ → Named

abbrev pub named_view : NamedValue → Named
named_view (named.Value name value) = OfValue name.now value.now
named_view (named.Bytes name bytes) = OfBytes name.now bytes.now

-- an attribute of a query or an execution
abbrev pub attribute_named : Attribute → Named
attribute_named a = OfValue a.bound_type.name a.value

-- an attribute of a login
abbrev pub pair_named : Pair → Named
pair_named pair = OfBytes pair.0 pair.1

abbrev pub pair_at : Option (List Pair) → ℕ → Option Named
pair_at pairs number = option_and_then (λ all. option_map pair_named (slice_get all number)) pairs

abbrev pub attributes_of : Option MoreFields → Option (List Pair)
attributes_of more = option_and_then (λ m. m.attributes) more

-- the attribute of this number of a command
abbrev pub command_attribute : Command → ℕ → Option Named
command_attribute (asked.Query attributes sql) number = option_map attribute_named (slice_get attributes number)
command_attribute (asked.Execute e) number = option_map attribute_named (slice_get e.attributes number)
command_attribute (asked.ChangeUser login) number = pair_at (attributes_of login.more) number
command_attribute command number = None

-- of a client's answer to the greeting
abbrev pub response_attribute : ResponseSaid → ℕ → Option Named
response_attribute (logging.LoggedIn (logging.Whole response)) number = pair_at response.attributes number
response_attribute response number = None

-- of an event
abbrev pub attribute_in : Event → ℕ → Option Named
attribute_in (said.Asked command) number = command_attribute command number
attribute_in (said.Response response) number = response_attribute response number
attribute_in event number = None

-- an attribute's name by its length, and its value
abbrev pub ShowsNamed : Named → ℕ → ShownValue → Type 0
ShowsNamed (OfValue name value) len shown = (len ≡ length name) × ShowsValue value shown
ShowsNamed (OfBytes name bytes) len shown =
    (len ≡ length name) × (shown.kind ≡ 3) × (shown.len ≡ length bytes)

-- what an object holds of the event that was told last
abbrev pub value_held : Object → (row place : ℕ) → Option BulkValue
value_held held row place = option_and_then (λ event. value_in event row place) (event_held held)

abbrev pub attribute_held : Object → ℕ → Option Named
attribute_held held number = option_and_then (λ event. attribute_in event number) (event_held held)

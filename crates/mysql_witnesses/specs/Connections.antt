-- What the calls for C about connections exclude. bindings/c/mysql_session.h has their numbers.
-- MySQL: Client/Server Protocol, "Connection Lifecycle"; MariaDB: Client/Server Protocol, "COM_STMT_BULK_EXECUTE".
use Rattle.std.specs.Prelude.{◌≡◌, ℕ, false, List, [], ◌∷◌, None, Ok, Some}
use Rattle.mysql_c_connection.specs.Codes.{fault_number}
use Rattle.mysql_c_connection.specs.Opened.{Tells, end_shown}
use Rattle.mysql_c_connection.specs.Standing.{ShowsStanding}
use Rattle.mysql_c_connection.specs.Values.{OfValue, ShowsNamed, parameter_in}
use Rattle.mysql_c_connection.specs.declared.object.OpenConnection.{OpenConnection}
use Rattle.mysql_c_connection.specs.declared.shown.ShownStanding.{ShownStanding}
use Rattle.mysql_c_connection_events.specs.Commands.{execution_shown}
use Rattle.mysql_c_connection_events.specs.Shown.{error_shown}
use Rattle.mysql_c_connection_events.specs.declared.shown.ShownEvent.{ShownEvent}
use Rattle.mysql_c_replies.specs.declared.shown.ShownValue.{ShownValue}
use Rattle.mysql_cells.specs.declared.value.Value.TheVariants.{NULL}
use Rattle.mysql_commands.specs.Commands.{BulkExecute}
use Rattle.mysql_connection_machine.specs.Endings as ending
use Rattle.mysql_connection_machine.specs.Machines.{new_machine}
use Rattle.mysql_connection_rules.specs.Streams.{Failure, from_greeting}
use Rattle.mysql_connection_state.specs.declared.event.Event.{Event}
use Rattle.mysql_executions.specs.Executions.{Execution}
use Rattle.mysql_executions.specs.declared.bulk.BulkValue.TheVariants.{Default, Ignore}
use Rattle.mysql_executions.specs.declared.types.Attribute.{Attribute}
use Rattle.mysql_server_packets.specs.Packets.{ServerError}

-- An attribute named `a` is shown with a name of one byte. Excluded: none.
-- MySQL: Client/Server Protocol, "COM_STMT_EXECUTE" (parameter_name).
abbrev pub AttributesHaveNames : Type 0
AttributesHaveNames = (len : ℕ) (shown : ShownValue) → ShowsNamed (OfValue (0x61 ∷ []) NULL) len shown → len ≡ 1

-- Of two rows of a bulk execution the second has its own value. Excluded: the first one's.
-- MariaDB: Client/Server Protocol, "COM_STMT_BULK_EXECUTE".
abbrev pub RowsHaveTheirOwnValues : Type 0
RowsHaveTheirOwnValues = parameter_in (BulkExecute (record {
  statement = 1;
  unit_results = false;
  types = None;
  rows = (Default ∷ []) ∷ (Ignore ∷ []) ∷ [];
  rest = [];
})) 1 0 ≡ Some Ignore

-- The end of a connection that failed tells the fault. Excluded: 0.
abbrev pub EndsTellTheirFault : Type 0
EndsTellTheirFault = (failure : Failure) → (end_shown (ending.Failed failure)).fault ≡ fault_number failure.fault

-- An event that was told is held, so that its values can be asked for. Excluded: one that is let go.
abbrev pub ToldEventsAreHeld : Type 0
ToldEventsAreHeld = (number : ℕ) (old new : OpenConnection) (shown : ShownEvent) (event : Event)
    (tells : Tells number old new shown) → tells.answer ≡ Ok (Some event) → new.event ≡ Some event

-- Of a connection that is new each side has room for its longest packet and a header of four bytes:
-- the client for 5 where its limit is 1, and the server for 6 by 2. Excluded: the other side's room.
-- MySQL: Client/Server Protocol, "MySQL Packets".
abbrev pub EachSideHasItsRoom : Type 0
EachSideHasItsRoom = (shown : ShownStanding) →
    ShowsStanding (new_machine (from_greeting (record { client = 1; server = 2; held = 0 }))) shown →
    (shown.client_room ≡ 5) × (shown.server_room ≡ 6)

-- An execution with one attribute is shown with one. Excluded: none.
-- MySQL: Client/Server Protocol, "COM_STMT_EXECUTE" (parameter_count).
abbrev pub ExecutionsCountTheirAttributes : Type 0
ExecutionsCountTheirAttributes = (execution : Execution) (attribute : Attribute) (text : List ℕ) (shown : ShownEvent) →
    (execution_shown (record execution { attributes = attribute ∷ [] }) text shown).attributes ≡ 1

-- The SQL state of an error has five bytes. Excluded: four. MySQL: Client/Server Protocol, "ERR_Packet".
abbrev pub StatesHaveFiveBytes : Type 0
StatesHaveFiveBytes = (kind : ℕ) (error : ServerError) (state : List ℕ) (shown : ShownEvent) →
    (error_shown kind (record error { sql_state = Some state }) shown).state_len ≡ 5

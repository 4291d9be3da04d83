-- What C sees of the results of a reply, of values, columns and changes of the session's state, and of the reply's end.
use Rattle.std.specs.Prelude.{◌≡◌, ◌⊎◌, ℕ, List, [], ◌∷◌, true, false, Option, Some, None, Ok, Err, length}
use Rattle.mysql_cells.specs.declared.value.Value.{Value}
use Rattle.mysql_cells.specs.declared.value.Value.TheVariants as value
use Rattle.mysql_const.specs.ColumnTypes.{column_type_number}
use Rattle.mysql_columns.specs.Columns.{ColumnDefinition}
use Rattle.mysql_ok_packets.specs.OkPackets.{OkPacket, all_states_at}
use Rattle.mysql_ok_packets.specs.Written.{or_empty, or_zero}
use Rattle.mysql_fields.specs.Wire.{Reading}
use Rattle.mysql_ok_packets.specs.SessionStates.{State}
use Rattle.mysql_replies.specs.declared.results.ReplyEnd.{ReplyEnd}
use Rattle.mysql_replies.specs.declared.results.ReplyEnd.TheVariants as ending
use Rattle.mysql_replies.specs.Together as together
use Rattle.mysql_c_handles.specs.declared.code.Code.TheVariants as code
use Rattle.mysql_c_handles.specs.declared.shown.ShownEnd.{ShownEnd}
use Rattle.mysql_c_handles.specs.Codes.{code_number, reply_fault_number}
use Rattle.mysql_c_replies.specs.declared.shown.ShownColumn.{ShownColumn}
use Rattle.mysql_c_replies.specs.declared.shown.ShownResult.{ShownResult}
use Rattle.mysql_c_replies.specs.declared.shown.ShownValue.{ShownValue}

-- whole is kind 0, a reply that isn't whole 1, a fault 3 with its payload and its number; other ends have 0 there
abbrev pub reply_end_shown : ReplyEnd → ShownEnd
reply_end_shown ending.Whole = record { kind = 0; fault = 0; payload = 0 }
reply_end_shown ending.Unfinished = record { kind = 1; fault = 0; payload = 0 }
reply_end_shown (ending.Fault payload fault) = record { kind = 3; fault = reply_fault_number fault; payload = payload }

-- how many changes of the session's state were read: none where they can't be
abbrev pub count_read : Reading (List State) → ℕ
count_read (Ok x) = length x.0
count_read (Err e) = 0

-- A count is that number, or memory was refused.
abbrev pub CountsChanges : Reading (List State) → Option ℕ → Type 0
CountsChanges read None = Unit {0}
CountsChanges read (Some count) = count ≡ count_read read

-- a result that tells nothing, but for where texts of no bytes stand
abbrev pub nothing_shown : ShownResult → ShownResult
nothing_shown shown = record shown {
  kind = 0;
  status = 0;
  warnings = 0;
  error_code = 0;
  statement = 0;
  affected_rows = 0;
  last_insert_id = 0;
  columns = 0;
  rows = 0;
  params = 0;
  states = 0;
  len = 0;
  changes_len = 0;
  state = 0 ∷ 0 ∷ 0 ∷ 0 ∷ 0 ∷ [];
  state_len = 0;
  ended = true;
}

-- what an OK packet tells beside, its text and its changes of the session by their lengths
abbrev pub packet_shown : OkPacket → ShownResult → ShownResult
packet_shown ok shown = record shown {
  affected_rows = ok.affected_rows;
  last_insert_id = or_zero ok.last_insert_id;
  status = ok.status_flags;
  warnings = ok.warnings;
  len = length (or_empty ok.info);
  states = count_read (all_states_at ok.session_state_info);
  changes_len = length (or_empty ok.session_state_info);
}

-- what the packet tells that ended rows, where it came
abbrev pub terminator_shown : Option OkPacket → ShownResult → ShownResult
terminator_shown None shown = record shown { ended = false }
terminator_shown (Some ok) shown = packet_shown ok shown

-- the SQL state of an error, by its bytes
abbrev pub state_shown : Option (List ℕ) → ShownResult → ShownResult
state_shown None shown = shown
state_shown (Some state) shown = record shown { state = state; state_len = 5 }

-- OK is kind 0, rows 1, a prepared statement 2, an error 3, a request for a file 4, rows whose columns aren't known 5,
-- columns of a table 6, a line 7. What a kind doesn't have is 0.
abbrev pub outcome_shown : together.Outcome → ShownResult → ShownResult
outcome_shown (together.OkResult ok) shown = packet_shown ok (nothing_shown shown)
outcome_shown (together.RowsResult columns rows terminator) shown =
    record (terminator_shown terminator (nothing_shown shown)) {
      kind = 1;
      columns =
          length columns;
      rows = length rows;
    }
outcome_shown (together.PreparedResult statement params columns) shown = record (nothing_shown shown) {
  kind = 2;
  statement = statement.statement_id;
  params = length params;
  columns = length columns;
  warnings = statement.warning_count;
}
outcome_shown (together.ErrorResult error) shown =
    record (state_shown error.sql_state (nothing_shown shown)) {
      kind = 3;
      error_code =
          error.error_code;
      len = length error.error_message;
    }
outcome_shown (together.FileResult name) shown = record (nothing_shown shown) { kind = 4; len = length name }
outcome_shown (together.RawRowsResult rows terminator) shown =
    record (terminator_shown terminator (nothing_shown shown)) { kind = 5; columns = 0; rows = length rows }
outcome_shown (together.FieldsResult fields terminator) shown =
    record (terminator_shown terminator (nothing_shown shown)) { kind = 6; columns = length fields; rows = 0 }
outcome_shown (together.LineResult bytes) shown = record (nothing_shown shown) { kind = 7; len = length bytes }

-- Each field is that of the result, but where its texts stand; of an earlier result nothing stays.
abbrev pub ShowsOutcome : together.Outcome → ShownResult → Type 0
ShowsOutcome outcome shown = shown ≡ outcome_shown outcome shown

-- A call is done and this holds, or it was refused memory.
abbrev pub UnlessMemory : ℕ → Type 0 → Type 0
UnlessMemory number Holds = ((number ≡ 0) × Holds) ⊎ (number ≡ code_number code.Memory)

-- a column by its numbers, and its names by their lengths
abbrev pub ShowsColumn : ColumnDefinition → ShownColumn → Type 0
ShowsColumn column shown =
    (shown.column_type ≡ column_type_number column.column_type) ×
    (shown.decimals ≡ column.decimals) × (shown.flags ≡ column.flags.0)
    × (shown.charset ≡ column.character_set) × (shown.length ≡ column.column_length)
    × (shown.schema_len ≡ length column.schema) × (shown.table_len ≡ length column.table) ×
    (shown.org_table_len ≡ length column.org_table)
    × (shown.name_len ≡ length column.name) × (shown.org_name_len ≡ length column.org_name)

-- NULL is kind 0, a number with a sign 1, one without 2, bytes 3, a float's bits 4, a double's 5, a
-- date 6, a duration 7
abbrev pub ShowsValue : Value → ShownValue → Type 0
ShowsValue value.NULL shown = shown.kind ≡ 0
ShowsValue (value.Int number) shown = (shown.kind ≡ 1) × (shown.int ≡ number)
ShowsValue (value.UInt number) shown = (shown.kind ≡ 2) × (shown.uint ≡ number)
ShowsValue (value.Bytes bytes) shown = (shown.kind ≡ 3) × (shown.len ≡ length bytes)
ShowsValue (value.Float bits) shown = (shown.kind ≡ 4) × (shown.uint ≡ bits)
ShowsValue (value.Double bits) shown = (shown.kind ≡ 5) × (shown.uint ≡ bits)
ShowsValue (value.Date year month day hour minute second micros) shown =
    (shown.kind ≡ 6) × (shown.year ≡ year) × (shown.month ≡ month) × (shown.day ≡ day) ×
    (shown.hour ≡ hour) × (shown.minute ≡ minute)
    × (shown.second ≡ second) × (shown.micros ≡ micros)
ShowsValue (value.Time negative days hours minutes seconds micros) shown =
    (shown.kind ≡ 7) × (shown.negative ≡ negative) × (shown.days ≡ days) × (shown.hour ≡ hours) ×
    (shown.minute ≡ minutes)
    × (shown.second ≡ seconds) × (shown.micros ≡ micros)

-- What the calls that write replies say of the objects that handles stand for.
use Rattle.std.specs.Prelude.{◌≡◌, ◌⊎◌, ℕ, List, [], ◌∷◌, ◌++◌, Option, Some, None, MatchOption, map}
use Rattle.mysql_cells.specs.declared.value.Value.{Value}
use Rattle.mysql_columns.specs.Columns.{ColumnDefinition}
use Rattle.mysql_const.specs.declared.column_type.ColumnType.{ColumnType}
use Rattle.mysql_ok_packets.specs.OkPackets.{OkPacket, unless_empty, unless_zero}
use Rattle.mysql_server_packets.specs.Packets.{PrepareOk, ServerError}
use Rattle.mysql_rows.specs.Rows.{Row}
use Rattle.mysql_replies.specs.Reply.{context_by}
use Rattle.mysql_reply_writer.specs.Refusals.{end_cause}
use Rattle.mysql_reply_writer.specs.Written.{RowStep}
use Rattle.mysql_reply_writer.specs.Writer.{columns_of, fresh_writer}
use Rattle.mysql_c_handles.specs.declared.code.Code.{Code}
use Rattle.mysql_c_handles.specs.declared.code.Code.TheVariants as code
use Rattle.mysql_c_handles.specs.declared.object.Object.{Object}
use Rattle.mysql_c_handles.specs.declared.object.Object.TheVariants as object
use Rattle.mysql_c_handles.specs.declared.object.WrittenReply.{WrittenReply}
use Rattle.mysql_c_handles.specs.Codes.{Stays, code_number, misuse, refusal_number}
use Rattle.mysql_c_replies.specs.declared.spot.ShownSpot.{ShownSpot}
use Rattle.mysql_c_replies.specs.Replies.{kind_numbered}
use Rattle.mysql_c_replies.specs.Spots.{spot_of}
use Rattle.mysql_c_replies.specs.Steps.{IsWriter, WritesFrom, columns_given}

-- a writer of a reply of which nothing is written, to which no column was given; none is made for a
-- number that names no kind
abbrev pub IsNewWriter : ℕ → ℕ → ℕ → ℕ → WrittenReply → Type 0
IsNewWriter kind capabilities first limit reply =
    MatchOption (kind_numbered kind) ⊥ (λ k. reply.writer ≡
    fresh_writer (context_by k (record { 0 = capabilities })) first limit)
    × (reply.columns.items ≡ [])

-- the OK packet that says this; an id of 0 is none, and so is an empty text
abbrev pub packet_said : ℕ → ℕ → ℕ → ℕ → List ℕ → OkPacket
packet_said affected_rows last_insert_id status warnings info = record {
  affected_rows = affected_rows;
  last_insert_id = unless_zero last_insert_id;
  status_flags = status;
  warnings = warnings;
  info = unless_empty info;
  session_state_info = None;
}

-- the SQL state of an error, by the bytes that C gives: five, or none for no state; other bytes are no state
abbrev pub state_said : List ℕ → Option (Option (List ℕ))
state_said [] = Some None
state_said (a ∷ b ∷ c ∷ d ∷ e ∷ []) = Some (Some (a ∷ b ∷ c ∷ d ∷ e ∷ []))
state_said other = None

-- the error of this code and message, and of a state
abbrev pub error_said : ℕ → List ℕ → Option (List ℕ) → ServerError
error_said number message state = record { error_code = number; sql_state = state; error_message = message }

-- the handles' objects stay, and the number is that of this code
abbrev pub BothStay : Code → Object → Object → ℕ → Object → Object → Type 0
BothStay said old before number new after = (number ≡ code_number said) × (new ≡ old) × (after ≡ before)

-- a statement of this id with so many warnings; its counts are those of the columns that are written
abbrev pub statement_said : ℕ → ℕ → PrepareOk
statement_said statement warnings =
    record { statement_id = statement; num_columns = 0; num_params = 0; warning_count = warnings }

-- A row of these values is written; or memory for it was refused, and all stays.
abbrev pub WritesRowOf : List Value → Object → Object → ℕ → ShownSpot → Object → Object → Type 0
WritesRowOf values old before number spot new after =
    ((row : Row) × (row.cells ≡ map Some values) ×
    WritesFrom (λ reply. RowStep (columns_of reply.writer.so_far.rows) row) old before number
    spot new after)
    ⊎ BothStay code.Memory old before number new after

-- Of a writer what is said. Any other object stays, and the number says why.
abbrev pub OfWriter : Object → ℕ → Object → (WrittenReply → Type 0) → Type 0
OfWriter (object.Writer reply) number new Says = Says reply
OfWriter held number new Says = Stays held number new

-- One more column is given, behind the others; or memory was refused, and they stay.
abbrev pub TakesColumn : ColumnDefinition → ℕ → Object → WrittenReply → Type 0
TakesColumn column number new old =
    ((number ≡ code_number code.Done) ×
    IsWriter new (λ reply. (reply.writer ≡ old.writer) ×
    (columns_given reply ≡ columns_given old ++ column ∷ [])))
    ⊎ ((number ≡ code_number code.Memory) ×
    IsWriter new (λ reply. (reply.writer ≡ old.writer) ×
    (columns_given reply ≡ columns_given old)))

-- the column of this type that says this
abbrev pub column_said : ColumnType → List ℕ → ℕ → ℕ → ℕ → ℕ → ColumnDefinition
column_said type name flags charset length decimals = record {
  schema = [];
  table = [];
  org_table = [];
  name = name;
  org_name = [];
  character_set = charset;
  column_length = length;
  column_type = type;
  flags = record { 0 = flags };
  decimals = decimals;
}

-- The column is given to a writer; or memory for it was refused, and all stays.
abbrev pub GivesColumn : ColumnDefinition → Object → ℕ → Object → Type 0
GivesColumn column old number new =
    OfWriter old number new (TakesColumn column number new) ⊎ ((number ≡ code_number code.Memory) × (new ≡ old))

-- No column has this type, and the object stays.
abbrev pub HasNoSuchType : Object → ℕ → Object → Type 0
HasNoSuchType old number new = (number ≡ code_number code.NoSuchKind) × (new ≡ old)

-- whether the reply stands whole, by the cause that speaks against it
abbrev pub EndsWriting : Object → ℕ → ShownSpot → Type 0
EndsWriting (object.Writer reply) number spot =
    MatchOption (end_cause reply.writer.so_far) (number ≡
    0) (λ cause. (number ≡ refusal_number cause) × (spot ≡ spot_of cause))
EndsWriting held number spot = number ≡ code_number (misuse held)

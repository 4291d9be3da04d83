-- What holds of the prepared statements of a connection, whatever commands came.
use Rattle.std.specs.Prelude.{◌≡◌, ◌≤◌, ℕ, ◌+◌, ◌*◌, List, [], length, Option, Some, None, unwrap_or}
use Rattle.std.specs.List.{All, sum_by}
use Rattle.std.specs.List.Sorted.{IsStrictlySortedBy}
use Rattle.std.specs.Map.{keys_of, values_of}
use Rattle.std.specs.Ordering.{nat_cmp}
use Rattle.mysql_columns.specs.Columns.{ColumnDefinition}
use Rattle.mysql_executions.specs.declared.refused.Refused.{Refused}
use Rattle.mysql_executions.specs.declared.types.BoundType.{BoundType}
use Rattle.mysql_connection_statements.specs.Statements.{IsOrdered, Statement, Statements, after_close}
use Rattle.mysql_connection_statements.specs.Statements.{after_prepared, change_at, described_behind, executed}
use Rattle.mysql_connection_statements.specs.Statements.{forgetting_last, having_columns, is_reset, no_statements}
use Rattle.mysql_connection_statements.specs.Statements.{pending_of, prepared_as, statement_at, statement_size}
use Rattle.mysql_connection_statements.specs.Statements.{taken_back, with_long_data}
use Rattle.mysql_connection_statements.specs.declared.pending.Pending.{Pending}

-- The ids ascend, and what is kept for all statements is the sum of what is kept for each.
abbrev pub IsSummed : Statements → Type 0
IsSummed s = IsOrdered s × (s.stored ≡ sum_by statement_size (values_of s.by_id))

-- So it is at first, and so it stays.
abbrev pub BeginsSummed : Type 0
BeginsSummed = IsSummed no_statements

abbrev pub StaysSummedAtAPrepare : Type 0
StaysSummedAtAPrepare =
    (id : ℕ) (statement : Statement) (s : Statements) → IsSummed s →
    IsSummed (after_prepared id statement (forgetting_last s))

abbrev pub StaysSummedAtAChange : Type 0
StaysSummedAtAChange =
    (id : ℕ) (change : Statement → Statement) (s : Statements) → IsSummed s →
    IsSummed (change_at id change s)

abbrev pub StaysSummedAtAClose : Type 0
StaysSummedAtAClose =
    (id : ℕ) (s : Statements) → IsSummed s → IsSummed (after_close id s)

-- WHAT IS KEPT IS COUNTED

-- A payload of long data counts 4, and has 7 bytes before the data. MySQL: Client/Server Protocol,
-- "COM_STMT_SEND_LONG_DATA".
abbrev pub data_size : List (ℕ × List ℕ) → ℕ
data_size waiting = sum_by (λ bytes. 11 + length bytes) (values_of waiting)

-- A payload of a column counts 4, and has at least 22 bytes beside the names. MySQL: Client/Server
-- Protocol, "Column Definition".
abbrev pub column_size : ColumnDefinition → ℕ
column_size c =
    26 + (length c.schema + (length c.table + (length c.org_table + (length c.name + length c.org_name))))

abbrev pub columns_size : Option (List ColumnDefinition) → ℕ
columns_size None = 0
columns_size (Some columns) = sum_by column_size columns

-- The payloads of a prepare count 8, and have at least 13 bytes beside the text. MySQL: Client/Server
-- Protocol, "COM_STMT_PREPARE" and "COM_STMT_PREPARE Response".
abbrev pub text_size : List ℕ → ℕ
text_size text = 21 + length text

-- All that is kept of a statement, by its lists: of each type in force 2 bytes.
abbrev pub kept_size : Statement → ℕ
kept_size s =
    text_size s.text
    + (columns_size s.columns + (2 * length s.parameters.types + data_size s.parameters.long_data))

-- Long data waits once for a place, and so much is counted for it.
pub record DataIsCounted (waiting : List (ℕ × List ℕ)) (sent : ℕ) : Type 0 where
  pub in_order : IsStrictlySortedBy nat_cmp (keys_of waiting)
  pub size : data_size waiting ≤ sent

-- What is kept of a statement is counted for it.
pub record Counted (s : Statement) : Type 0 where
  pub text : text_size s.text ≤ s.prepared
  pub columns : columns_size s.columns ≤ s.described
  pub long_data : DataIsCounted s.parameters.long_data s.sent

-- Behind a prepare it is, and behind each change of a statement of which it was.
abbrev pub PreparedAreCounted : Type 0
PreparedAreCounted = (text : List ℕ) (count size : ℕ) → text_size text ≤ size → Counted (prepared_as text count size)

abbrev pub ExecutedAreCounted : Type 0
ExecutedAreCounted = (types : List BoundType) (s : Statement) → Counted s → Counted (executed types s)

abbrev pub LongDataIsCounted : Type 0
LongDataIsCounted =
    (place : ℕ) (bytes : List ℕ) (size : ℕ) (s : Statement) →
    11 + length bytes ≤ size → Counted s → Counted (with_long_data place bytes size s)

abbrev pub ResetsAreCounted : Type 0
ResetsAreCounted = (s : Statement) → Counted s → Counted (is_reset s)

abbrev pub ColumnsAreCounted : Type 0
ColumnsAreCounted =
    (columns : Option (List ColumnDefinition)) (size : ℕ) (s : Statement) →
    columns_size columns ≤ described_behind size s → Counted s → Counted (having_columns columns size s)

-- What an error takes back is counted, and behind the execution no long data waits.
abbrev pub PendingAreCounted : Type 0
PendingAreCounted =
    (id : ℕ) (refused : Refused) (types : List BoundType) (s : Statement) (p : Pending) →
    Counted s → pending_of id refused types s ≡ Some p →
    DataIsCounted p.before.long_data p.sent × ((executed types s).parameters.long_data ≡ [])

-- So it is of what was taken back, where no long data came meanwhile.
abbrev pub TakenBackAreCounted : Type 0
TakenBackAreCounted =
    (code : ℕ) (p : Pending) (s : Statement) →
    DataIsCounted p.before.long_data p.sent → s.parameters.long_data ≡ [] →
    Counted s → Counted (taken_back code p s)

-- The lists of a statement have at most as many elements as bytes are counted for them.
abbrev pub ListsAreCounted : Type 0
ListsAreCounted =
    (s : Statement) → Counted s →
    (11 * length s.parameters.long_data ≤ s.sent)
    × (26 * length (unwrap_or s.columns []) ≤ s.described) × (kept_size s ≤ statement_size s)

-- What is kept of each statement is counted: at first, and behind each change of which it is.
abbrev pub AreCounted : Statements → Type 0
AreCounted s = All Counted (values_of s.by_id)

abbrev pub BeginsCounted : Type 0
BeginsCounted = AreCounted no_statements

abbrev pub StaysCountedAtAPrepare : Type 0
StaysCountedAtAPrepare =
    (id : ℕ) (statement : Statement) (s : Statements) → Counted statement → AreCounted s →
    AreCounted (after_prepared id statement (forgetting_last s))

abbrev pub StaysCountedAtAChange : Type 0
StaysCountedAtAChange =
    (id : ℕ) (change : Statement → Statement) (s : Statements) →
    ((statement : Statement) → statement_at s id ≡ Some statement → Counted statement → Counted (change statement)) →
    AreCounted s → AreCounted (change_at id change s)

abbrev pub StaysCountedAtAClose : Type 0
StaysCountedAtAClose = (id : ℕ) (s : Statements) → AreCounted s → AreCounted (after_close id s)

-- All that is kept of statements is at most what is counted for all.
abbrev pub AllIsCounted : Type 0
AllIsCounted =
    (s : Statements) → IsSummed s → AreCounted s →
    (21 * length s.by_id ≤ s.stored) × (sum_by kept_size (values_of s.by_id) ≤ s.stored)

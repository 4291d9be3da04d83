-- What the definitions of a connection's prepared statements exclude. MySQL: Client/Server Protocol,
-- "COM_STMT_EXECUTE", "COM_STMT_SEND_LONG_DATA", "COM_STMT_CLOSE"; MariaDB: Client/Server Protocol,
-- "COM_STMT_EXECUTE" (statement id).
use Rattle.std.specs.Prelude.{◌≡◌, ℕ, false, [], ◌∷◌, Some, None}
use Rattle.mysql_connection_statements.specs.Laws.{DataIsCounted}
use Rattle.mysql_connection_statements.specs.Statements.{Statement, Statements, after_close, executed}
use Rattle.mysql_connection_statements.specs.Statements.{pending_of, statement_size}
use Rattle.mysql_executions.specs.declared.refused.Refused.TheVariants.{Execution}
use Rattle.mysql_executions.specs.InForce.{InForce}

-- a statement with what is in force of its parameters, and so much for long data
abbrev pub statement_with : InForce → (sent : ℕ) → Statement
statement_with parameters sent = record {
  text = [];
  parameters = parameters;
  columns = None;
  prepared = 0;
  described = 0;
  sent = sent;
}

-- a statement of one parameter, for which `a` waits
abbrev pub waiting : InForce
waiting = record { count = 1; types = []; long_data = (0, 0x61 ∷ []) ∷ []; broken = false }

-- Behind an execution nothing is kept of long data, which was taken. Excluded: a sum that still counts it.
-- MySQL: Client/Server Protocol, "COM_STMT_SEND_LONG_DATA".
abbrev pub TakenDataCountsNothing : Type 0
TakenDataCountsNothing = (sent : ℕ) → statement_size (executed [] (statement_with waiting sent)) ≡ 0

-- Of an execution without types, for which long data waited, an error takes back the data. Excluded: an
-- execution that leaves nothing to take back, so that a refusal forgets the data. MySQL Error Message
-- Reference, ER_MALFORMED_PACKET; MySQL: Client/Server Protocol, "COM_STMT_SEND_LONG_DATA".
abbrev pub WaitingDataIsTakenBack : Type 0
WaitingDataIsTakenBack = (sent : ℕ) → pending_of 1 Execution [] (statement_with waiting sent)
    ≡ Some (record { id = 1; refused = Execution; carried = 0; before = waiting; sent = sent })

-- One byte of long data for the parameter 2 counts 12, and so much is kept at most. Excluded: a list with a
-- slot for each parameter up to it, which few bytes make as long as they like.
-- MySQL: Client/Server Protocol, "COM_STMT_SEND_LONG_DATA".
abbrev pub LongDataIsNotPadded : Type 0
LongDataIsNotPadded =
    DataIsCounted ((2, 0x61 ∷ []) ∷ []) 12
    × (DataIsCounted ((0, []) ∷ (1, []) ∷ (2, 0x61 ∷ []) ∷ []) 12 → ⊥)

-- Once the statement that was prepared last is closed, none was prepared last; once another one is, it
-- still is. Excluded: ffffffff as the id of a closed statement, and of none.
-- MariaDB: Client/Server Protocol, "COM_STMT_EXECUTE" (statement id).
abbrev pub ClosedStatementsAreNotTheLast : Type 0
ClosedStatementsAreNotTheLast = (s : Statements) →
    ((after_close 1 (record s { last = Some 1 })).last ≡ None)
    × ((after_close 2 (record s { last = Some 1 })).last ≡ Some 1)

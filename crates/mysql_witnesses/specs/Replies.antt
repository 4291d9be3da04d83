-- What the definitions of whole replies exclude. MySQL: Client/Server Protocol, "Sequence ID", "COM_QUERY
-- Response", "Text Resultset", "LOCAL INFILE Request", "OK_Packet", "Status Flags"; MariaDB: Client/Server
-- Protocol, "OK_Packet" (server status).
use Rattle.std.specs.Prelude.{◌≡◌, ◌+◌, ℕ, true, List, [], ◌∷◌, ◌++◌, length, Some, None, Option, Result, Ok, Err}
use Rattle.mysql_columns.specs.Columns.{ColumnDefinition}
use Rattle.mysql_ok_packets.specs.OkPackets.{OkPacket}
use Rattle.mysql_replies.specs.Borrowing.{BorrowsNext, BorrowsRow, rows_listed}
use Rattle.mysql_replies.specs.Holding.{ReaderState, count_of, fresh_reader}
use Rattle.mysql_replies.specs.Reply.{FaultAt, GoingOn, OpenReply, answer_behind, end_behind, fault_of, is_over, led_by}
use Rattle.mysql_replies.specs.Taking.{results_in, without_results}
use Rattle.mysql_replies.specs.Together.{FileResult, NoPart, OkResult, RowsPart, RowsResult, SetPart, makes_whole}
use Rattle.mysql_replies.specs.Together.{put}
use Rattle.mysql_replies.specs.declared.fault.ReplyFault.{ReplyFault}
use Rattle.mysql_replies.specs.declared.fault.ReplyFault.TheVariants.{AfterEnd}
use Rattle.mysql_reply_events.specs.Events as events
use Rattle.mysql_reply_events.specs.Events.Event.{ColumnsEndEvent, FileEvent, OkEvent}
use Rattle.mysql_reply_events.specs.Table as table
use Rattle.mysql_reply_events.specs.declared.context.Context.{Context}
use Rattle.mysql_reply_events.specs.declared.fault.ReplyFault.{ReplyFault as EventFault}
use Rattle.mysql_row_refs.specs.declared.row_ref.RowRef.{RowRef}
use Rattle.mysql_rows.specs.Rows.{Row}
use Rattle.mysql_wire.specs.Stream.Rest.{Open}

-- BYTES

-- A reply begins with the number behind the command's packets, here 2 behind a command of two chunks.
-- Excluded: a reader that always begins with 1. MySQL: Client/Server Protocol, "Sequence ID".
abbrev pub RepliesBeginBehindCommands : Type 0
RepliesBeginBehindCommands = (c : Context) (limit : ℕ) → (fresh_reader c 2 limit).number ≡ 2

-- Bytes behind the last result are a fault as soon as they come, also where they are less than a packet.
-- Excluded: bytes that are held. MySQL: Client/Server Protocol, "COM_QUERY Response".
abbrev pub NothingFollowsTheEnd : Type 0
NothingFollowsTheEnd = end_behind true 1 Open ≡ FaultAt 1 AfterEnd

-- COUNTS

-- a reply of which no payload came
abbrev pub nothing_read : Context → OpenReply
nothing_read c =
    record { context = c; so_far = table.fresh None; results = []; progress = []; part = NoPart; count = 0 }

-- A payload that has no place isn't counted: of one alone the fault is at 0. Excluded: 1, by which it would
-- have been read. MySQL: Client/Server Protocol, "COM_QUERY Response".
abbrev pub OnlyWhatIsReadIsCounted : Type 0
OnlyWhatIsReadIsCounted = (c : Context) (fault : EventFault) →
    answer_behind (led_by (nothing_read c) (Err fault)) Open ≡
    record { results = []; progress = []; end = FaultAt 0 (fault_of fault) }

-- Payloads up to a row that is borrowed are counted, each. Excluded: a row that isn't counted.
-- MySQL: Client/Server Protocol, "Text Resultset".
abbrev pub BorrowedRowsAreCounted : Type 0
BorrowedRowsAreCounted = (old new : ReaderState) (piece rest : List ℕ) (row : Row)
    (borrowed : BorrowsRow old piece row new rest) →
    count_of new.so_far ≡ count_of old.so_far + length borrowed.feeds.takes.split.payloads

-- ROWS

-- A row that is borrowed isn't kept. Excluded: one that is, so that a long result takes memory row by row.
-- MySQL: C API, "mysql_use_result()".
abbrev pub BorrowedRowsAreNotKept : Type 0
BorrowedRowsAreNotKept = (old new : ReaderState) (piece rest : List ℕ) (r : Result (Option RowRef) ReplyFault) →
    rows_listed old.so_far ≡ [] → BorrowsNext old piece r new rest → rows_listed new.so_far ≡ []

-- a reply of which a row came, under these columns
abbrev pub with_row : OpenReply → List ColumnDefinition → Row → OpenReply
with_row s columns row = record s { part = RowsPart columns (row ∷ []) }

-- A row that is handed out has its columns, and those behind it are read by the same. Excluded: a take that drops
-- them. MySQL: Client/Server Protocol, "Text Resultset".
abbrev pub TakesLeaveTheColumns : Type 0
TakesLeaveTheColumns = (s : OpenReply) (columns : List ColumnDefinition) (row : Row) →
    (results_in (GoingOn (with_row s columns row)) ≡ s.results ++ RowsResult columns (row ∷ []) None ∷ [])
    × (without_results (GoingOn (with_row s columns row))
    ≡ GoingOn (record s { results = []; part = RowsPart columns [] }))

-- PAYLOADS

-- fb in an OK packet's place asks for a file, and ends the reply. Excluded: a result set of no columns.
-- MySQL: Client/Server Protocol, "LOCAL INFILE Request".
abbrev pub FilesAreAskedFor : Type 0
FilesAreAskedFor = (c : Context) (s : events.ReplySoFar) (name : List ℕ) →
    (table.first_of_result c s (0xfb ∷ name) ≡ Ok (FileEvent name, record s { awaited = events.FileData }))
    × (put NoPart (FileEvent name) (record s { awaited = events.FileData }) ≡ makes_whole (FileResult name))
    × (is_over events.FileData ≡ true)

-- A status with MariaDB's bit of ANSI_QUOTES, 0x8000, is kept in a whole reply. Excluded: one that drops it.
-- MySQL: Client/Server Protocol, "Status Flags"; MariaDB: "OK_Packet" (server status).
abbrev pub MariadbsBitIsKept : Type 0
MariadbsBitIsKept = (ok : OkPacket) (next : events.ReplySoFar) →
    put NoPart (OkEvent (record ok { status_flags = 0x8000 })) next ≡
    makes_whole (OkResult (record ok { status_flags = 0x8000 }))

-- The EOF of a cursor behind the columns of an execution ends its rows. Excluded: rows that are awaited for ever.
-- MySQL: Client/Server Protocol, "Binary Protocol Resultset", "Status Flags".
abbrev pub CursorsEndRows : Type 0
CursorsEndRows = (columns : List ColumnDefinition) (ok : OkPacket) →
    put (SetPart true) (ColumnsEndEvent ok) (record { awaited = events.Nothing; columns = Some columns }) ≡
    makes_whole (RowsResult columns [] (Some ok))

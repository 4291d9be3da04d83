-- What the definitions of replies exclude. MySQL: Client/Server Protocol, "COM_QUERY Response", "Text
-- Resultset", "Column Definition", "OK_Packet", "EOF_Packet", "LOCAL INFILE Request" and "Sequence ID".
use Rattle.std.specs.Prelude.{◌≡◌, ℕ, true, false, List, [], ◌∷◌, length, None, Option, Some}
use Rattle.mysql_columns.specs.Columns.{ColumnDefinition}
use Rattle.mysql_handshake.specs.Capabilities.{both_words}
use Rattle.mysql_ok_packets.specs.OkPackets.{OkPacket}
use Rattle.mysql_reply_event_writer.specs.Puts.{IsPut, RefusesEvent}
use Rattle.mysql_reply_event_writer.specs.Written.{event_payload}
use Rattle.mysql_reply_event_writer.specs.declared.refusal.ReplyPutRefusal.TheVariants.{BadEvent}
use Rattle.mysql_reply_events.specs.Behind.{behind_column}
use Rattle.mysql_reply_events.specs.Events.{Awaited, Event, ReplySoFar}
use Rattle.mysql_reply_events.specs.Events.Awaited.{Columns, First, Nothing}
use Rattle.mysql_reply_events.specs.Events.Event.{CountEvent, LineEvent, OkEvent, RowsEndEvent}
use Rattle.mysql_reply_events.specs.Events.Group.{ResultSet}
use Rattle.mysql_reply_events.specs.Reader.{ReaderState}
use Rattle.mysql_reply_events.specs.Readings.{begins_terminator}
use Rattle.mysql_reply_events.specs.Table.{column_came}
use Rattle.mysql_reply_events.specs.declared.context.Context.{Context}
use Rattle.mysql_reply_events.specs.declared.context.ReplyKind.TheVariants.{Text}
use Rattle.mysql_reply_writer.specs.Written.{eof_due, with_more}
use Rattle.mysql_reply_writer.specs.Puts.{number_behind}

-- a query on a connection with these capabilities
abbrev pub query_by : ℕ → Context
query_by protocol = record { kind = Text; capabilities = both_words protocol 0 }

-- a reader of its reply of which this is awaited, without capabilities
abbrev pub reader_awaiting : Awaited → ReaderState
reader_awaiting awaited = record {
  context = query_by 0;
  so_far = record { awaited = awaited; columns = None };
  fault = None;
  rows = None;
}

-- an OK packet of zeros, with this info
abbrev pub ok_with : Option (List ℕ) → OkPacket
ok_with info = record {
  affected_rows = 0;
  last_insert_id = None;
  status_flags = 0;
  warnings = 0;
  info = info;
  session_state_info = None;
}

-- READING

-- Behind the first of two columns the second is awaited, and the first is kept. Excluded: a reader
-- that goes on without it, as where memory for it was refused. MySQL: Client/Server Protocol, "Column Definition".
abbrev pub ColumnsThatCameAreKept : Type 0
ColumnsThatCameAreKept = (context : Context) (so_far : ReplySoFar) (column : ColumnDefinition) →
    (behind_column context so_far (Columns ResultSet 1 []) column).awaited ≡ Columns ResultSet 0 (column ∷ [])

-- Behind the last column of a result set its columns stand, whatever stood before. Excluded: later
-- rows that are read by the first columns. MySQL: Client/Server Protocol, "Text Resultset".
abbrev pub LaterColumnsStand : Type 0
LaterColumnsStand = (context : Context) (so_far : ReplySoFar) (columns : List ColumnDefinition) →
    (column_came context so_far ResultSet 0 columns).columns ≡ Some columns

-- Without DEPRECATE_EOF a payload of nine bytes that begins with fe is a row. Excluded: the end of
-- rows. MySQL: Client/Server Protocol, "EOF_Packet".
abbrev pub RowsMayBeginWithFe : Type 0
RowsMayBeginWithFe =
    begins_terminator (query_by 0) (254 ∷ 0 ∷ 0 ∷ 0 ∷ 0 ∷ 0 ∷ 0 ∷ 0 ∷ 0 ∷ []) ≡ false

-- WRITING

-- An OK packet with an info of no bytes is read as one without an info, so that it isn't put.
-- Excluded: a writer that doesn't compare infos. MySQL: Client/Server Protocol, "OK_Packet".
abbrev pub EmptyInfosAreNotPut : Type 0
EmptyInfosAreNotPut = (new : ReaderState) (before after : List ℕ) →
    IsPut (reader_awaiting First) (OkEvent (ok_with (Some []))) new before after → ⊥

-- A line fb is read as the request of a file, so that it isn't put as a line. Excluded: a writer
-- that puts what reads otherwise. MySQL: Client/Server Protocol, "LOCAL INFILE Request".
abbrev pub EventsThatReadOtherwiseAreNotPut : Type 0
EventsThatReadOtherwiseAreNotPut = (new : ReaderState) (before after : List ℕ) →
    IsPut (reader_awaiting First) (LineEvent (251 ∷ [])) new before after → ⊥

-- Where nothing is due no event is refused as a bad one. Excluded: that cause in the other's place.
-- MySQL: Client/Server Protocol, "Command Phase".
abbrev pub NothingIsBadWhereNothingIsDue : Type 0
NothingIsBadWhereNothingIsDue = (event : Event) → RefusesEvent (reader_awaiting Nothing) event BadEvent → ⊥

-- With DEPRECATE_EOF rows end with an OK packet of seven bytes. Excluded: the EOF packet of five.
-- MySQL: Client/Server Protocol, "OK_Packet", "EOF_Packet".
abbrev pub RowsEndByTheCapabilities : Type 0
RowsEndByTheCapabilities = event_payload (query_by 0x1000000) (RowsEndEvent (ok_with None))
    ≡ Some (254 ∷ 0 ∷ 0 ∷ 0 ∷ 0 ∷ 0 ∷ 0 ∷ [])

-- By OPTIONAL_RESULTSET_METADATA the byte that says that columns follow stands before their count.
-- Excluded: MariaDB's order. MySQL: Client/Server Protocol, "Text Resultset" (metadata_follows).
abbrev pub FollowStandsBeforeTheCount : Type 0
FollowStandsBeforeTheCount = event_payload (query_by 0x2000000) (CountEvent 2 true) ≡ Some (1 ∷ 2 ∷ [])

-- The last result says that no more follow, whatever its packet says. Excluded: the bit that was
-- given. MySQL: Client/Server Protocol, "Status Flags" (SERVER_MORE_RESULTS_EXISTS).
abbrev pub LastResultsSayNoMore : Type 0
LastResultsSayNoMore = with_more false 10 ≡ 2

-- Without DEPRECATE_EOF an EOF packet stands behind columns. Excluded: none.
-- MySQL: Client/Server Protocol, "Text Resultset".
abbrev pub EofsStandBehindColumns : Type 0
EofsStandBehindColumns = (column : ColumnDefinition) →
    eof_due (query_by 0) (column ∷ []) ≡ (254 ∷ 0 ∷ 0 ∷ 0 ∷ 0 ∷ []) ∷ []

-- Behind a payload of 16777215 bytes, which takes two chunks, the number is greater by two. Excluded:
-- by one. MySQL: Client/Server Protocol, "Sending More Than 16Mb", "Sequence ID".
abbrev pub NumbersCountChunks : Type 0
NumbersCountChunks = (payload : List ℕ) → length payload ≡ 16777215 → number_behind (payload ∷ []) 0 ≡ 2

-- How the payloads of a reply are read, each by itself.
-- MySQL: Client/Server Protocol, "Text Resultset", "Binary Protocol Resultset", "Column Definition", "OK_Packet",
-- "EOF_Packet", "ERR_Packet" and "COM_STMT_PREPARE Response" (metadata_follows: "Optional Resultset Metadata");
-- MariaDB: "Result Set Packets" ('Column count packet') and 'Progress report' of "ERR_Packet".
-- A reading takes bytes from the front: x.0 is what was read and x.1 the bytes left; the first refusal counts.
use Rattle.std.specs.Prelude.{ℕ, zero, suc, List, [], ◌∷◌, length, take, Bool, true, false, Option, Some, None, Result}
use Rattle.std.specs.Prelude.{Ok, Err, nat_lt, ◌==◌, ◌&&◌, ◌||◌, if◌then◌else◌, bytes_eq}
use Rattle.mysql_fields.specs.Forms.{fixed_number_at, lenenc_number_at}
use Rattle.mysql_fields.specs.Wire.{Reading, ◌>>=◌}
use Rattle.mysql_field_constants.specs.Constants.{named_at}
use Rattle.mysql_field_constants.specs.Flags.{contains}
use Rattle.mysql_columns.specs.Columns.{ColumnDefinition}
use Rattle.mysql_columns.specs.Extended.{ExtendedDefinition, ListedDefinition, extended_column_at, listed_column_at}
use Rattle.mysql_ok_packets.specs.OkPackets.{OkPacket, old_eof_at, ok_packet_at, result_set_terminator_at}
use Rattle.mysql_row_refs.specs.Lines.{begins_with, terminator_limit}
use Rattle.mysql_rows.specs.Rows.{Row, as_row, binary_resultset_row_at, text_row_at}
use Rattle.mysql_server_packets.specs.Packets.{PrepareOk, ProgressReport, ServerError, error_at, prepare_ok_at}
use Rattle.mysql_server_packets.specs.Packets.{progress_obsolete, progress_report_at}
use Rattle.mysql_reply_events.specs.declared.context.Context.{Context}
use Rattle.mysql_reply_events.specs.declared.context.ReplyKind.{ReplyKind}
use Rattle.mysql_reply_events.specs.declared.context.ReplyKind.TheVariants.{Binary, Fetch, Line}
use Rattle.mysql_reply_events.specs.declared.fault.ReplyFault.{ReplyFault}
use Rattle.mysql_reply_events.specs.declared.fault.ReplyFault.TheVariants.{BadColumn, BadCount, BadError, BadOk}
use Rattle.mysql_reply_events.specs.declared.fault.ReplyFault.TheVariants.{BadPrepare, BadRow, BadTerminator}
use Rattle.mysql_reply_events.specs.Events.{Payload}

-- The capabilities of the protocol that are in force, and MariaDB's own.
abbrev pub protocol : Context → ℕ
protocol c = c.capabilities.protocol.0

abbrev pub mariadb : Context → ℕ
mariadb c = c.capabilities.mariadb.0

-- No EOF packet stands behind columns, and an OK packet ends rows.
abbrev pub deprecate_eof : Context → Bool
deprecate_eof c = contains (protocol c) 0x1000000

-- MySQL's: a byte says of each result and statement whether its columns follow.
abbrev pub optional_metadata : Context → Bool
optional_metadata c = contains (protocol c) 0x2000000

-- MariaDB's: a byte says so behind each count of columns.
abbrev pub cached_metadata : Context → Bool
cached_metadata c = contains (mariadb c) 0x10

-- MariaDB's: progress is reported, as old servers and newer ones agree on it.
abbrev pub reports_progress : Context → Bool
reports_progress c = progress_obsolete (protocol c) || contains (mariadb c) 1

-- What was read, whatever bytes follow it, or the fault of this name.
abbrev pub or_fault : {A : Type 0} → ReplyFault → Reading A → Result A ReplyFault
or_fault fault (Ok x) = Ok x.0
or_fault fault (Err e) = Err fault

-- What was read, where no bytes follow it, or the fault of this name.
abbrev pub whole_or_fault : {A : Type 0} → ReplyFault → Reading A → Result A ReplyFault
whole_or_fault fault (Ok x) = if length x.1 == 0 then Ok x.0 else Err fault
whole_or_fault fault (Err e) = Err fault

-- A reply with one line has no progress reports: its line is whatever comes.
abbrev pub has_reports : ReplyKind → Bool
has_reports Line = false
has_reports kind = true

-- A payload in the form of a progress report, whether or not it can be read as one.
abbrev pub has_report_form : Context → Payload → Bool
has_report_form c payload =
    has_reports c.kind && reports_progress c && bytes_eq (take 3 payload) (255 ∷ 255 ∷ 255 ∷ [])

abbrev pub report : Payload → Result ProgressReport ReplyFault
report payload = or_fault BadError (progress_report_at payload)

abbrev pub ok_packet : Context → Payload → Result OkPacket ReplyFault
ok_packet c payload = or_fault BadOk (ok_packet_at (protocol c) payload)

abbrev pub server_error : Context → Payload → Result ServerError ReplyFault
server_error c payload = or_fault BadError (error_at (protocol c) payload)

-- A byte that says whether columns follow: 0 or 1.
abbrev pub truth : ℕ → Option Bool
truth zero = Some false
truth (suc zero) = Some true
truth n = None

abbrev pub follow_at : List ℕ → Reading Bool
follow_at bytes = named_at truth (fixed_number_at 1) bytes

-- How many columns a result has, and whether they follow: MySQL's byte stands before the count, MariaDB's behind it,
-- and where neither is agreed on they do.
abbrev pub count_at : Context → List ℕ → Reading (ℕ × Bool)
count_at c bytes =
    if optional_metadata c then (do
      follow ← follow_at bytes
      count ← lenenc_number_at follow.1
      Ok ((count.0, follow.0), count.1))
    else if cached_metadata c then (do
      count ← lenenc_number_at bytes
      follow ← follow_at count.1
      Ok ((count.0, follow.0), follow.1))
    else (do
      count ← lenenc_number_at bytes
      Ok ((count.0, true), count.1))

-- A count of columns: from 1 to 65535.
abbrev pub within : ℕ × Bool → Result (ℕ × Bool) ReplyFault
within count = if nat_lt 0 count.0 && nat_lt count.0 65536 then Ok count else Err BadCount

abbrev pub column_count : Context → Payload → Result (ℕ × Bool) ReplyFault
column_count c payload = whole_or_fault BadCount (count_at c payload) >>= within

-- With MySQL's byte a count may begin with 00 as an OK packet does, which has 7 bytes at least.
abbrev pub begins_ok : Context → Payload → Bool
begins_ok c payload =
    begins_with 0 payload && (if optional_metadata c then nat_lt 6 (length payload) else true)

-- A statement packet, and whether its parameters and columns follow: with MySQL's optional metadata a byte behind
-- the warnings says so.
abbrev pub prepared_at : Context → List ℕ → Reading (PrepareOk × Bool)
prepared_at c bytes = do
  statement ← prepare_ok_at bytes
  if optional_metadata c then (follow_at statement.1 >>= λ follow. Ok ((statement.0, follow.0), follow.1))
      else Ok ((statement.0, true), statement.1)

abbrev pub prepared : Context → Payload → Result (PrepareOk × Bool) ReplyFault
prepared c payload = or_fault BadPrepare (prepared_at c payload)

-- A column packet, with MariaDB's extended metadata where they are agreed on.
abbrev pub column : Context → Payload → Result ExtendedDefinition ReplyFault
column c payload = or_fault BadColumn (extended_column_at (mariadb c) payload)

-- A column of a table, and its default value.
abbrev pub field : Context → Payload → Result ListedDefinition ReplyFault
field c payload = or_fault BadColumn (listed_column_at (mariadb c) payload)

-- The EOF packet: fe, below nine bytes.
abbrev pub eof : Payload → Result OkPacket ReplyFault
eof payload = if nat_lt (length payload) 9 then or_fault BadTerminator (old_eof_at payload) else Err BadTerminator

-- A payload that begins with fe is a terminator below this length: 16777215 with DEPRECATE_EOF, else 9.
abbrev pub begins_terminator : Context → Payload → Bool
begins_terminator c payload =
    begins_with 254 payload && nat_lt (length payload) (terminator_limit (deprecate_eof c))

-- A terminator: the OK packet with fe with DEPRECATE_EOF, else the EOF packet.
abbrev pub terminator : Context → Payload → Result OkPacket ReplyFault
terminator c payload =
    or_fault BadTerminator
    (if deprecate_eof c then result_set_terminator_at (protocol c) payload else old_eof_at payload)

-- Rows of executions and fetches are binary, others text.
abbrev pub is_binary : ReplyKind → Bool
is_binary Binary = true
is_binary Fetch = true
is_binary kind = false

-- A row under these columns.
abbrev pub row : Context → List ColumnDefinition → Payload → Result Row ReplyFault
row c columns payload =
    whole_or_fault BadRow (as_row columns
    (if is_binary c.kind then binary_resultset_row_at columns payload else text_row_at columns payload))

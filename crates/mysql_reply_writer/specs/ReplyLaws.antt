-- The laws of replies as they are written. MySQL: Client/Server Protocol, "COM_QUERY Response",
-- "Text Resultset" and "COM_STMT_PREPARE Response"; MariaDB: 'Progress report' of "ERR_Packet".
use Rattle.std.specs.Prelude.{◌≡◌, ℕ, List, None}
use Rattle.mysql_wire.specs.Stream.{framings}
use Rattle.mysql_wire.specs.Stream.Numbering.{OnFrom}
use Rattle.mysql_server_packets.specs.Packets.{ProgressReport}
use Rattle.mysql_reply_events.specs.declared.context.Context.{Context}
use Rattle.mysql_replies.specs.Bytes.{IsReplyOf}
use Rattle.mysql_reply_events.specs.Readings.{mariadb}
use Rattle.mysql_replies.specs.Together.{Outcome}
use Rattle.mysql_replies.specs.Manual.{IsFramedReply, IsWholeReply}
use Rattle.mysql_replies.specs.Reply.{Whole}
use Rattle.mysql_reply_writer.specs.Fits.{StepsFit}
use Rattle.mysql_reply_writer.specs.Refusals.{refusal_of}
use Rattle.mysql_reply_writer.specs.Written.{reply_payloads, reply_steps, reports_read, results_read}

-- The payloads of a reply against which nothing speaks are a whole reply, with what its results and
-- its reports are read as. None of MariaDB's own capabilities is in force, here and below.
abbrev pub WrittenRepliesAreWhole : Type 0
WrittenRepliesAreWhole = (c : Context) (limit : ℕ) (results : List Outcome) (progress : List ProgressReport) →
    mariadb c ≡ 0 → StepsFit (reply_steps results progress) → refusal_of c limit results progress ≡ None →
    IsWholeReply c (reply_payloads c results progress) (results_read c results) (reports_read c progress)

-- They are few, and within the limit: framed they are such a reply's framings.
abbrev pub WrittenRepliesAreFramed : Type 0
WrittenRepliesAreFramed = (c : Context) (first_id limit : ℕ) (results : List Outcome) (progress : List ProgressReport) →
    mariadb c ≡ 0 → StepsFit (reply_steps results progress) → refusal_of c limit results progress ≡ None →
    IsFramedReply c first_id limit (framings (reply_payloads c results progress) (OnFrom first_id))
    (results_read c results) (reports_read c progress)

-- So those bytes have the answer Whole with these results and reports.
abbrev pub WrittenRepliesReadBack : Type 0
WrittenRepliesReadBack = (c : Context) (first_id limit : ℕ) (results : List Outcome) (progress : List ProgressReport) →
    mariadb c ≡ 0 → StepsFit (reply_steps results progress) → refusal_of c limit results progress ≡ None →
    IsReplyOf c first_id limit (framings (reply_payloads c results progress) (OnFrom first_id))
    (record { results = results_read c results; progress = reports_read c progress; end = Whole })

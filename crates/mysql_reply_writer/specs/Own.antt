-- Replies that were read are written in their own form: what is read of that is what was read, but
-- for the sign of an all-zero time. MySQL: Client/Server Protocol, "COM_QUERY Response", "Binary
-- Protocol Value".
use Rattle.std.specs.Prelude.{◌≡◌, ◌<◌, ◌^◌, ℕ, List, length, map, Option, Some, None, option_map, if◌then◌else◌, ⊤}
use Rattle.std.specs.List.{AllByRecursion}
use Rattle.mysql_buf.specs.Bytes.{AreBytes}
use Rattle.mysql_cells.specs.Values.{without_zero_sign}
use Rattle.mysql_cells.specs.declared.value.Value.{Value}
use Rattle.mysql_server_packets.specs.Packets.{ProgressReport}
use Rattle.mysql_rows.specs.Rows.{Row}
use Rattle.mysql_reply_events.specs.declared.context.Context.{Context}
use Rattle.mysql_reply_events.specs.Readings.{is_binary, mariadb}
use Rattle.mysql_replies.specs.Reply.{Payload}
use Rattle.mysql_replies.specs.Together.{Outcome, RowsResult}
use Rattle.mysql_replies.specs.Manual.{IsWholeReply}
use Rattle.mysql_reply_writer.specs.declared.refusal.ReplyRefusal.{ReplyRefusal}
use Rattle.mysql_reply_writer.specs.declared.refusal.ReplyRefusal.TheVariants.{PacketTooLarge}
use Rattle.mysql_reply_writer.specs.Refusals.{refusal_of}
use Rattle.mysql_reply_writer.specs.Fits.{StepsFit}
use Rattle.mysql_reply_writer.specs.Written.{reply_payloads, reply_steps, reports_read, results_read}

-- A binary row can have an all-zero time with the sign of a negative one, which is written without a sign.
abbrev pub cells_without_zero_signs : Context → List (Option Value) → List (Option Value)
cells_without_zero_signs c cells = if is_binary c.kind then map (option_map without_zero_sign) cells else cells

abbrev pub row_without_zero_signs : Context → Row → Row
row_without_zero_signs c row = record row { cells = cells_without_zero_signs c row.cells }

-- A result without such signs.
abbrev pub without_zero_signs : Context → Outcome → Outcome
without_zero_signs c (RowsResult columns rows end) = RowsResult columns (map (row_without_zero_signs c) rows) end
without_zero_signs c result = result

-- Bytes whose number fits 64 bits.
pub record AreFewBytes (payload : Payload) : Type 0 where
  pub bytes : AreBytes payload
  pub few : length payload < 2 ^ 64

-- What a whole reply was read as is what is read of it once it was written again, but for those signs.
abbrev pub ReadResultsAreTheirOwn : Type 0
ReadResultsAreTheirOwn = (c : Context) (payloads : List Payload) (results : List Outcome)
    (progress : List ProgressReport) → mariadb c ≡ 0 →
    AllByRecursion (λ payload. AreFewBytes payload) payloads →
    IsWholeReply c payloads results progress → results_read c results ≡
    map (without_zero_signs c) results

abbrev pub ReadReportsAreTheirOwn : Type 0
ReadReportsAreTheirOwn = (c : Context) (payloads : List Payload) (results : List Outcome)
    (progress : List ProgressReport) → mariadb c ≡ 0 →
    AllByRecursion (λ payload. AreFewBytes payload) payloads →
    IsWholeReply c payloads results progress → reports_read c progress ≡ progress

-- Nothing speaks against a reply, or a payload's size alone.
abbrev pub IsSizeAlone : Option ReplyRefusal → Type 0
IsSizeAlone None = ⊤
IsSizeAlone (Some (PacketTooLarge number)) = ⊤
IsSizeAlone (Some refusal) = ⊥

-- Against what a whole reply was read as nothing speaks but a payload's size.
abbrev pub ReadRepliesCanBeWritten : Type 0
ReadRepliesCanBeWritten =
    (c : Context) (limit : ℕ) (payloads : List Payload) (results : List Outcome)
    (progress : List ProgressReport) → mariadb c ≡ 0 →
    AllByRecursion (λ payload. AreFewBytes payload) payloads →
    IsWholeReply c payloads results progress → IsSizeAlone (refusal_of c limit results progress)

-- Results and reports that are read equally are written equally, up to those signs: what is read of
-- them once they were written is written in the same payloads.
abbrev pub ReadFormsAreWrittenAgain : Type 0
ReadFormsAreWrittenAgain =
    (c : Context) (payloads : List Payload) (results : List Outcome)
    (progress : List ProgressReport) → mariadb c ≡ 0 →
    AllByRecursion (λ payload. AreFewBytes payload) payloads → IsWholeReply c payloads results progress →
    reply_payloads c (results_read c results) (reports_read c progress) ≡ reply_payloads c results progress

-- And where two whole replies are written in the same payloads, nothing speaking against either,
-- they were read equally, up to those signs.
abbrev pub EqualFormsWereReadEqually : Type 0
EqualFormsWereReadEqually =
    (c : Context) (limit : ℕ) (payloads others : List Payload) (results more : List Outcome)
    (progress reports : List ProgressReport) → mariadb c ≡ 0 →
    AllByRecursion (λ payload. AreFewBytes payload) payloads → AllByRecursion (λ payload. AreFewBytes payload) others →
    IsWholeReply c payloads results progress → IsWholeReply c others more reports →
    StepsFit (reply_steps results progress) → StepsFit (reply_steps more reports) →
    refusal_of c limit results progress ≡ None → refusal_of c limit more reports ≡ None →
    reply_payloads c results progress ≡ reply_payloads c more reports →
    (map (without_zero_signs c) results ≡ map (without_zero_signs c) more) × (progress ≡ reports)

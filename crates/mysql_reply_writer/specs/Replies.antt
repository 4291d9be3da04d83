-- The front page of replies: what is promised of the results that `write_reply` appends. MySQL:
-- Client/Server Protocol, "MySQL Packets", "COM_QUERY Response" and "COM_STMT_PREPARE Response";
-- MariaDB: 'Progress report' of "ERR_Packet".
use Rattle.std.specs.Prelude.{◌≡◌, ◌↔◌, ℕ, List, ◌∷◌, ◌++◌, None}
use Rattle.std.specs.List.{concat}
use Rattle.mysql_wire.specs.Stream.{framings}
use Rattle.mysql_wire.specs.Stream.Numbering.{OnFrom}
use Rattle.mysql_server_packets.specs.Packets.{ProgressReport}
use Rattle.mysql_reply_events.specs.declared.context.Context.{Context}
use Rattle.mysql_replies.specs.Bytes.{IsReplyOf}
use Rattle.mysql_replies.specs.Together.{Outcome}
use Rattle.mysql_replies.specs.Reply.{Answer, Whole}
use Rattle.mysql_reply_writer.specs.Fronts.{IsFrontAnswer}
use Rattle.mysql_reply_writer.specs.Refusals.{refusal_of}
use Rattle.mysql_reply_writer.specs.Written.{reply_payloads, reports_read, results_read}

-- The bytes of a reply: the framing of each of its payloads, whose chunks are numbered on from the first id.
abbrev pub reply_stream : Context → ℕ → List Outcome → List ProgressReport → List ℕ
reply_stream c first_id results progress = framings (reply_payloads c results progress) (OnFrom first_id)

-- What results and progress reports are read as, with nothing missing.
abbrev pub whole_answer : Context → List Outcome → List ProgressReport → Answer
whole_answer c results progress =
    record { results = results_read c results; progress = reports_read c progress; end = Whole }

-- A reply of these results and progress reports was appended.
pub record Replies (c : Context) (first_id limit : ℕ) (results : List Outcome)
    (progress : List ProgressReport) (old new : List ℕ) : Type 0 where
  -- No cause speaks against writing it.
  pub no_cause : refusal_of c limit results progress ≡ None
  -- Its stream is appended.
  pub appended : new ≡ old ++ reply_stream c first_id results progress
  -- The stream, in whichever pieces it comes, has one answer: what the results and the reports are read as, and Whole.
  pub read_back : (pieces : List (List ℕ)) (answer : Answer) → concat pieces ≡
      reply_stream c first_id results progress →
      IsReplyOf c first_id limit (concat pieces) answer ↔ (answer ≡ whole_answer c results progress)
  -- Each front of it has an answer without a fault: unfinished, with a front of these results and
  -- of these reports; each result and each row is there that stands in the payloads that the front
  -- splits into.
  pub fronts : (front back : List ℕ) (next : ℕ) (answer : Answer) →
      reply_stream c first_id results progress ≡ front ++ next ∷ back →
      (read : IsReplyOf c first_id limit front answer) →
      IsFrontAnswer c read.split.payloads (results_read c results) (reports_read c progress)
      answer

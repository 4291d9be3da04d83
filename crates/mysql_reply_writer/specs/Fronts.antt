-- Fronts of a whole reply: what is read while the end is still to come.
-- MySQL: Client/Server Protocol, "COM_QUERY Response", "Text Resultset", "Binary Protocol Resultset" and
-- "COM_STMT_PREPARE Response"; MariaDB: 'Progress report' of "ERR_Packet".
use Rattle.std.specs.Prelude.{◌≡◌, ℕ, List, ◌∷◌, ◌++◌}
use Rattle.mysql_wire.specs.Stream.{Rest, IsFault}
use Rattle.mysql_server_packets.specs.Packets.{ProgressReport}
use Rattle.mysql_reply_events.specs.declared.context.Context.{Context}
use Rattle.mysql_replies.specs.Together.{Outcome}
use Rattle.mysql_replies.specs.Reply.{Answer, IsReply, Payload, Whole, Unfinished}
use Rattle.mysql_replies.specs.Beginnings.{IsFrontOf, HasWhatStands}
use Rattle.mysql_replies.specs.Bytes.{IsReplyOf}
use Rattle.mysql_replies.specs.Manual.{IsWholeReply, IsFramedReply}

-- The answer to a front of a reply with these results and reports, of which these payloads stand
-- whole: it is unfinished, and it has a front of the results, with each result and each row that
-- stands in the payloads, and of the reports some from the first on.
pub record IsFrontAnswer (c : Context) (payloads : List Payload) (listed : List Outcome)
    (reports : List ProgressReport) (answer : Answer) : Type 0 where
  pub end : answer.end ≡ Unfinished
  pub results : IsFrontOf answer.results listed
  pub stands : HasWhatStands c payloads answer.results
  pub later : List ProgressReport
  pub progress : reports ≡ answer.progress ++ later

-- Where a whole reply is cut off before one of its payloads, or within that payload's framing, each
-- answer is that to a front.
abbrev pub EachFrontIsUnfinished : Type 0
EachFrontIsUnfinished = (c : Context) (front back : List Payload) (next : Payload)
    (listed : List Outcome) (reports : List ProgressReport) (rest : Rest) (answer : Answer) →
    IsWholeReply c (front ++ next ∷ back) listed reports → ¬ IsFault rest →
    IsReply c front rest answer → IsFrontAnswer c front listed reports answer

-- Of two fronts of a whole reply, the answer to the shorter one is that to a front of the longer
-- one's results and reports.
abbrev pub LongerFrontsGoOn : Type 0
LongerFrontsGoOn = (c : Context) (front between back : List Payload) (next : Payload)
    (listed : List Outcome) (reports : List ProgressReport) (rest other : Rest)
    (answer longer : Answer) →
    IsWholeReply c ((front ++ between) ++ next ∷ back) listed reports → ¬ IsFault rest → ¬ IsFault other →
    IsReply c front rest answer → IsReply c (front ++ between) other longer →
    IsFrontAnswer c front longer.results longer.progress answer

-- Where a framed reply is cut off before one of its bytes, each answer is that
-- to a front, of which the payloads stand that the bytes split into.
abbrev pub EachFramedFrontIsUnfinished : Type 0
EachFramedFrontIsUnfinished =
    (c : Context) (first_id limit : ℕ) (front back : List ℕ) (next : ℕ) (listed : List Outcome)
    (reports : List ProgressReport) (answer : Answer) →
    IsFramedReply c first_id limit (front ++ next ∷ back) listed reports →
    (read : IsReplyOf c first_id limit front answer) →
    IsFrontAnswer c read.split.payloads listed reports answer

-- Of two fronts of the bytes of a framed reply, the answer to the shorter one is that to a front of
-- the longer one's results and reports.
abbrev pub LongerFramedFrontsGoOn : Type 0
LongerFramedFrontsGoOn = (c : Context) (first_id limit : ℕ) (front between back : List ℕ) (next : ℕ)
    (listed : List Outcome) (reports : List ProgressReport) (answer longer : Answer) →
    IsFramedReply c first_id limit ((front ++ between) ++ next ∷ back) listed reports →
    (read : IsReplyOf c first_id limit front answer) →
    IsReplyOf c first_id limit (front ++ between) longer →
    IsFrontAnswer c read.split.payloads longer.results longer.progress answer

-- Where nothing of a framed reply is cut off, each answer is whole, with all results and reports.
abbrev pub EachFramedReplyIsWhole : Type 0
EachFramedReplyIsWhole = (c : Context) (first_id limit : ℕ) (bytes : List ℕ) (listed : List Outcome)
    (reports : List ProgressReport) (answer : Answer) →
    IsFramedReply c first_id limit bytes listed reports → IsReplyOf c first_id limit bytes answer →
    answer ≡ record { results = listed; progress = reports; end = Whole }

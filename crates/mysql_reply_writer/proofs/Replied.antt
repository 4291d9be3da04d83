-- A reply that was appended reads back, whole and of each front.
use Rattle.std.proofs.Common.{◌≡◌, ℕ, List, ◌++◌, None, sym, ◌∙◌, subst}
use Rattle.std.specs.List.{concat}
use Rattle.std.proofs.lemmas.List.{append_cancel_left}
use Rattle.mysql_server_packets.specs.Packets.{ProgressReport}
use Rattle.mysql_reply_events.specs.declared.context.Context.{Context}
use Rattle.mysql_replies.specs.Bytes.{IsReplyOf}
use Rattle.mysql_replies.specs.Together.{Outcome}
use Rattle.mysql_replies.specs.Manual.{EachFramingIsWhole, IsFramedReply}
use Rattle.mysql_replies.specs.Reply.{Answer}
use Rattle.mysql_reply_writer.specs.Fronts.{EachFramedFrontIsUnfinished, EachFramedReplyIsWhole}
use Rattle.mysql_reply_writer.specs.Refusals.{refusal_of}
use Rattle.mysql_reply_writer.specs.Written.{reports_read, results_read}
use Rattle.mysql_reply_writer.specs.Replies.{Replies, reply_stream, whole_answer}
use Rattle.mysql_reply_writer.specs.Writer.{AppendsReply}

pub replied : EachFramingIsWhole → EachFramedReplyIsWhole → EachFramedFrontIsUnfinished
    → (c : Context) (first_id limit : ℕ) (results : List Outcome) (progress : List ProgressReport) (old new : List ℕ)
    → refusal_of c limit results progress ≡ None → new ≡ old ++ reply_stream c first_id results progress
    → AppendsReply c first_id limit (results_read c results) (reports_read c progress) old new
    → Replies c first_id limit results progress old new
replied each only unfinished c first_id limit results progress old new none put is =
    let stream : List ℕ = reply_stream c first_id results progress in
    let same : is.0 ≡ stream = append_cancel_left old is.0 stream (sym is.1 ∙ put) in
    let framed : IsFramedReply c first_id limit stream (results_read c results) (reports_read c progress) =
    subst (λ (l : List ℕ). IsFramedReply c first_id limit l (results_read c results)
    (reports_read c progress)) same is.2 in
    record {
      no_cause = none;
      appended = put;
      read_back = λ pieces answer joined. (
        λ reply. only c first_id limit stream (results_read c results) (reports_read c progress) answer framed
            (subst (λ (l : List ℕ). IsReplyOf c first_id limit l answer) joined reply),
        λ whole. subst (λ (a : Answer). IsReplyOf c first_id limit (concat pieces) a) (sym whole)
            (subst (λ (l : List ℕ). IsReplyOf c first_id limit l (whole_answer c results progress)) (sym joined)
            (each c first_id limit stream (results_read c results) (reports_read c progress) framed)),
      );
      fronts = λ front back next answer cut reply. unfinished c first_id limit front back next
          (results_read c results) (reports_read c progress) answer
          (subst (λ (l : List ℕ). IsFramedReply c first_id limit l (results_read c results)
          (reports_read c progress)) cut framed) reply;
    }

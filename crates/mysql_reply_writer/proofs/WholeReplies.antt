-- A whole reply that was written.
use Rattle.std.proofs.Common.{◌≡◌, ℕ, ◌==◌, false, List, [], ◌∷◌, ◌++◌, length, None, refl, sym, ap, subst, ◌∙◌}
use Rattle.mysql_server_packets.specs.Packets.{ProgressReport}
use Rattle.mysql_wire.specs.Stream.{framings}
use Rattle.mysql_wire.specs.Stream.Numbering.{OnFrom}
use Rattle.mysql_reply_events.specs.declared.context.Context.{Context}
use Rattle.mysql_reply_events.specs.Readings.{mariadb}
use Rattle.mysql_replies.specs.declared.results.ReplyResult.{ReplyResult}
use Rattle.mysql_replies.specs.Views.{outcome_views}
use Rattle.mysql_reply_writer.specs.ReplyLaws.{WrittenRepliesAreFramed}
use Rattle.mysql_reply_writer.specs.Refusals.{nothing_written, refusal_of, whole_cause}
use Rattle.mysql_reply_writer.specs.Written.{reply_payloads, reply_steps, reports_read, results_read}
use Rattle.mysql_reply_writer.specs.Laws.{WholeWritingsAreReplies}
use Rattle.mysql_reply_writer.specs.Writer.{AppendsReply, Writer, Wrote, fresh_writer}
use Rattle.mysql_reply_writer.proofs.Ends.{whole_end}
use Rattle.mysql_reply_writer.specs.Refusals.{end_cause}

-- where there is a result, what speaks against the reply speaks against its steps or their end
pub refusal_is : (c : Context) (limit : ℕ) (results : List ReplyResult)
    (progress : List ProgressReport) → (length results == 0) ≡ false
    → refusal_of c limit (outcome_views results) progress ≡
    whole_cause (nothing_written c limit) (reply_steps (outcome_views results) progress)
refusal_is c limit [] progress h = absurd cc
refusal_is c limit (r ∷ rs) progress h = refl

module _ (c : Context) (first_id limit : ℕ) (results : List ReplyResult)
    (progress : List ProgressReport) (some : (length results == 0) ≡ false) (old : Writer)
    (fresh : old ≡ fresh_writer c first_id limit) where
  -- a refusal of its steps or their end
  module _ (new : Writer) (before after : List ℕ)
      (wrote : Wrote old (reply_steps (outcome_views results) progress) new before after)
      (end : end_cause new.so_far ≡ None) where
    pub reply_allowed : refusal_of c limit (outcome_views results) progress ≡ None
    reply_allowed =
        refusal_is c limit results progress some
        ∙ ap (λ (w : Writer). whole_cause w.so_far (reply_steps (outcome_views results) progress)) (sym fresh)
        ∙ whole_end old new (reply_steps (outcome_views results) progress) before after wrote ∙ end

    pub reply_written : after ≡ before ++ framings (reply_payloads c (outcome_views results) progress) (OnFrom first_id)
    reply_written =
        (subst (λ (w : Writer). Wrote w (reply_steps (outcome_views results) progress) new before
        after) fresh wrote).appended

    pub reply_read : mariadb c ≡ 0 → WrittenRepliesAreFramed →
        AppendsReply c first_id limit (results_read c (outcome_views results))
        (reports_read c progress) before after
    reply_read plain law = (
      framings (reply_payloads c (outcome_views results) progress) (OnFrom first_id),
      reply_written,
      law c first_id limit (outcome_views results) progress plain wrote.fit
          reply_allowed,
    )

-- the same of any results, the first of which there is
pub whole_writing : WrittenRepliesAreFramed → WholeWritingsAreReplies
whole_writing law c first_id limit first others progress new before after plain wrote end =
    let none : refusal_of c limit (first ∷ others) progress ≡ None =
    whole_end (fresh_writer c first_id limit) new (reply_steps (first ∷ others) progress) before after wrote ∙ end in (
      framings (reply_payloads c (first ∷ others) progress) (OnFrom first_id),
      wrote.appended,
      law c first_id limit (first ∷ others) progress plain wrote.fit none,
    )

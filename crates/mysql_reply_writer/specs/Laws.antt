-- The laws of writing.
-- MySQL: Client/Server Protocol, "COM_QUERY Response" and "COM_STMT_PREPARE Response".
use Rattle.std.specs.Prelude.{◌≡◌, ℕ, List, ◌∷◌, ◌++◌, None}
use Rattle.mysql_server_packets.specs.Packets.{ProgressReport}
use Rattle.mysql_reply_events.specs.declared.context.Context.{Context}
use Rattle.mysql_reply_events.specs.Readings.{mariadb}
use Rattle.mysql_replies.specs.Together.{Outcome}
use Rattle.mysql_reply_writer.specs.Refusals.{end_cause}
use Rattle.mysql_reply_writer.specs.Written.{Step, reply_steps, reports_read, results_read}
use Rattle.mysql_reply_writer.specs.Writer.{AppendsReply, Writer, Wrote, fresh_writer}

-- What was written call by call was written at once.
abbrev pub WritingsGoOn : Type 0
WritingsGoOn = (old now new : Writer) (xs ys : List Step) (before mid after : List ℕ) →
    Wrote old xs now before mid → Wrote now ys new mid after → Wrote old (xs ++ ys) new before after

-- A writer that wrote the steps of some results, and may end there, has appended that reply.
abbrev pub WholeWritingsAreReplies : Type 0
WholeWritingsAreReplies =
    (c : Context) (first_id limit : ℕ) (first : Outcome) (others : List Outcome)
    (progress : List ProgressReport) (new : Writer) (before after : List ℕ) → mariadb c ≡ 0 →
    Wrote (fresh_writer c first_id limit) (reply_steps (first ∷ others) progress) new before after →
    end_cause new.so_far ≡ None →
    AppendsReply c first_id limit (results_read c (first ∷ others)) (reports_read c progress) before after

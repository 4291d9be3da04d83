-- The end of a reply.
use Rattle.std.proofs.Common.{◌≡◌, ℕ, List, Option, Result, Ok, Err, OnOk, IfErr, sym, ap, ◌∙◌}
use Rattle.mysql_reply_writer.specs.declared.refusal.ReplyRefusal.{ReplyRefusal}
use Rattle.mysql_reply_writer.specs.Refusals.{Writing, after_steps, end_cause, or_cause, whole_cause}
use Rattle.mysql_reply_writer.specs.Written.{Step}
use Rattle.mysql_reply_writer.specs.Puts.{IsCause}
use Rattle.mysql_reply_writer.specs.Views.{cause_in}
use Rattle.mysql_reply_writer.specs.Writer.{Refuses, Writer, Wrote}

-- what speaks against the steps speaks against the whole
pub whole_refused : (old : Writer) (steps : List Step) (refusal : ReplyRefusal) →
    Refuses old steps refusal → IsCause (whole_cause old.so_far steps) refusal
whole_refused old steps refusal refuses other =
    ap (λ (c : Option ReplyRefusal). or_cause c (end_cause (after_steps old.so_far steps))) (refuses other)

pub whole_end : (old new : Writer) (steps : List Step) (before after : List ℕ) →
    Wrote old steps new before after → whole_cause old.so_far steps ≡ end_cause new.so_far
whole_end old new steps before after wrote =
    ap (λ (c : Option ReplyRefusal). or_cause c (end_cause (after_steps old.so_far steps))) wrote.allowed
    ∙ ap (λ (w : Writing). end_cause w) (sym wrote.so_far)

-- what speaks against the end too, where they were written
pub end_refused : (old new : Writer) (steps : List Step) (before after : List ℕ)
    (result : Result (Unit {0}) ReplyRefusal) → Wrote old steps new before after
    → cause_in result ≡ end_cause new.so_far → IfErr result (IsCause (whole_cause old.so_far steps))
end_refused old new steps before after (Ok done) wrote h = tt
end_refused old new steps before after (Err refusal) wrote h =
    λ other. whole_end old new steps before after wrote ∙ sym h

pub whatever : {P : Type 0} (result : Result (Unit {0}) ReplyRefusal) → P → OnOk result P
whatever (Ok done) p = p
whatever (Err refusal) p = tt

-- What the calls that read replies say of the object that a handle stands for.
use Rattle.std.specs.Prelude.{◌≡◌, ℕ, ◌==◌, List, [], Option, Some, None, Result, Ok, Err, MatchOption, if◌then◌else◌}
use Rattle.mysql_reply_events.specs.declared.context.ReplyKind.{ReplyKind}
use Rattle.mysql_reply_events.specs.declared.context.ReplyKind.TheVariants.{Text, Binary, Prepare}
use Rattle.mysql_replies.specs.Reply.{context_by}
use Rattle.mysql_replies.specs.declared.fault.ReplyFault.{ReplyFault}
use Rattle.mysql_replies.specs.declared.results.Reply.{Reply}
use Rattle.mysql_replies.specs.Holding.{HasFoundNoFault, ReaderDecides, fault_of, fresh_reader}
use Rattle.mysql_replies.specs.Taking.{Feeds, results_in, without_reports, without_results}
use Rattle.mysql_replies.specs.Views.{answer_view, outcome_views}
use Rattle.mysql_c_handles.specs.declared.code.Code.{Code}
use Rattle.mysql_c_handles.specs.declared.code.Code.TheVariants as code
use Rattle.mysql_c_handles.specs.declared.object.Object.{Object}
use Rattle.mysql_c_handles.specs.declared.object.Object.TheVariants as object
use Rattle.mysql_c_handles.specs.declared.object.ReplyInParts.{ReplyInParts}
use Rattle.mysql_c_handles.specs.declared.shown.ShownEnd.{ShownEnd}
use Rattle.mysql_c_handles.specs.Codes.{Stays, code_number}
use Rattle.mysql_c_replies.specs.Shown.{reply_end_shown}

-- the object is a reader of a reply of which this is said
abbrev pub IsReply : Object → (ReplyInParts → Type 0) → Type 0
IsReply (object.Reply r) Says = Says r
IsReply held Says = ⊥

-- the object is what was read of a reply, of which this is said
abbrev pub IsAnswer : Object → (Reply → Type 0) → Type 0
IsAnswer (object.Answer a) Says = Says a
IsAnswer held Says = ⊥

-- Of a reader of a reply what is said. Any other object stays, and the number says why.
abbrev pub OfReply : Object → ℕ → Object → (ReplyInParts → Type 0) → Type 0
OfReply (object.Reply r) number new Says = Says r
OfReply held number new Says = Stays held number new

-- the kind of command of a number
abbrev pub kind_numbered : ℕ → Option ReplyKind
kind_numbered number = if number == 0 then Some Text else
    (if number == 1 then Some Binary else (if number == 2 then Some Prepare else None))

-- a reader of a reply of which nothing came; none is made for a number that names no kind
abbrev pub IsNewReply : ℕ → ℕ → ℕ → ℕ → ReplyInParts → Type 0
IsNewReply kind capabilities first limit r =
    MatchOption (kind_numbered kind) ⊥ (λ k. r.reader ≡
    fresh_reader (context_by k (record { 0 = capabilities })) first limit)
    × (r.taken.items ≡ [])

-- what a reader answers that has met this fault, or none
abbrev pub answer_of : Option ReplyFault → Result (Unit {0}) ReplyFault
answer_of None = Ok tt
answer_of (Some fault) = Err fault

-- the same as a code
abbrev pub reply_code : Option ReplyFault → Code
reply_code None = code.Done
reply_code (Some fault) = code.Reply fault

-- A reader was fed, and the number is that of the fault that it has met.
abbrev pub IsReplyFedBy : List ℕ → ℕ → Object → ReplyInParts → Type 0
IsReplyFedBy piece number new old =
    IsReply new (λ r. Feeds old.reader r.reader piece (answer_of (fault_of r.reader.so_far))
    × (fault_of r.reader.so_far ≡ None → HasFoundNoFault r.reader)
    × (number ≡ code_number (reply_code (fault_of r.reader.so_far)))
    × (r.taken ≡ old.taken))

-- The results so far are taken in place of those that were taken before. The reader goes on without
-- them, and without the progress reports that came.
abbrev pub OutcomesAreTaken : ℕ → Object → ReplyInParts → Type 0
OutcomesAreTaken number new old =
    (number ≡ 0) × IsReply new (λ r. (outcome_views r.taken.items ≡ results_in old.reader.so_far)
    × (r.reader ≡ record old.reader { so_far = without_reports (without_results old.reader.so_far) }))

-- A reader becomes what was read and not taken, and that stays; its end is shown.
abbrev pub RepliesEnd : Object → ℕ → Object → ShownEnd → Type 0
RepliesEnd (object.Reply r) number new shown =
    (number ≡ 0) × IsAnswer new (λ a. ReaderDecides r.reader [] (answer_view a) × (shown ≡ reply_end_shown a.end))
RepliesEnd (object.Answer a) number new shown = (number ≡ 0) × (new ≡ object.Answer a) × (shown ≡ reply_end_shown a.end)
RepliesEnd held number new shown = Stays held number new

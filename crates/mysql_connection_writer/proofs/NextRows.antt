-- Rows behind others: what they say, and what stands behind them.
use Rattle.std.proofs.Common.{◌≡◌, ◌==◌, ◌++◌, ◌∙◌, if◌then◌else◌, ℕ, List, length, Bool, true, false, Option, Some}
use Rattle.std.proofs.Common.{Result, Ok, Err}
use Rattle.std.proofs.Common.{refl, sym, ap, subst}
use Rattle.std.proofs.lemmas.Bool.{eq-eqb}
use Rattle.std.specs.declared.alloc.AllocError.{AllocError}
use Rattle.mysql_authentication.specs.Readings.{authentication_at, greeting_at, response_at}
use Rattle.mysql_columns.specs.Columns.{ColumnDefinition}
use Rattle.mysql_commands.specs.Commands.{Command, command_at}
use Rattle.mysql_connection_rules.specs.Puts.{step_for}
use Rattle.mysql_connection_rules.specs.declared.fault.Fault.TheVariants as faults
use Rattle.mysql_connection_rules.specs.Events.{Event}
use Rattle.mysql_connection_rules.specs.Events as events
use Rattle.mysql_connection_rules.specs.Standing.{About, Executing, InReply, OfStatement, Phase, Preparing, Resetting}
use Rattle.mysql_connection_rules.specs.Standing.{Standing, Streaming}
use Rattle.mysql_connection_rules.specs.Standing as phases
use Rattle.mysql_connection_rules.specs.StepLaws.{step_said, step_says}
use Rattle.mysql_connection_rules.specs.Steps.{about_after, after_authentication, after_command, after_event}
use Rattle.mysql_connection_rules.specs.Steps.{after_greeting, after_part}
use Rattle.mysql_connection_rules.specs.Steps.{after_response, changed_by, context_of, greets_anew, in_phase, in_turn}
use Rattle.mysql_connection_rules.specs.Steps.{of_login, parameters_in_question, reply_after, reply_step, says, step}
use Rattle.mysql_connection_rules.specs.Steps.{with_statements}
use Rattle.mysql_connection_state.specs.Follows.{IsReplyReader, ReadsReply}
use Rattle.mysql_connection_statements.specs.Statements.{Statements, counted}
use Rattle.mysql_reply_events.specs.declared.context.Context.{Context}
use Rattle.mysql_reply_events.specs.Behind.{EventsLeadOn}
use Rattle.mysql_reply_events.specs.Events.{Awaited, ReplySoFar}
use Rattle.mysql_reply_events.specs.Events.Awaited.{Rows}
use Rattle.mysql_reply_events.specs.Events.Event.{RowEvent}
use Rattle.mysql_reply_events.specs.Reader.{ReaderState}
use Rattle.mysql_reply_events.specs.Table.{event_at}
use Rattle.mysql_reply_event_writer.specs.NextRows as written
use Rattle.mysql_reply_event_writer.specs.NextRows.{under}
use Rattle.mysql_reply_event_writer.specs.Written.{event_payload}
use Rattle.mysql_rows.specs.Rows.{Row}
use Rattle.mysql_connection_writer.proofs.Lifting.{ok_same, said_of}
use Rattle.mysql_connection_writer.proofs.PlainBytes.{by_server}
use Rattle.mysql_connection_writer.proofs.Replies.{said_after}
use Rattle.mysql_connection_writer.specs.NextRows.{IsAmongRows, IsAnswered, RowsLeadToRows, WritesNextRow, columns_due}
use Rattle.mysql_connection_writer.specs.NextRows.{row_due, under_as_many}
use Rattle.mysql_connection_writer.specs.Payloads.{Payload, payload_in, payload_of}
use Rattle.mysql_connection_writer.specs.Phases.{is_file}

-- WHAT STANDS BEHIND A ROW

nothing_changed : (about : About) (size : ℕ) (row : Row) (s : Statements) → changed_by about size (RowEvent row) s ≡ s
nothing_changed phases.Nothing size row s = refl
nothing_changed (Preparing text more) size row s = refl
nothing_changed (OfStatement id) size row s = refl
nothing_changed (Executing pending) size row s = refl
nothing_changed Resetting size row s = refl
nothing_changed (Streaming reason) size row s = refl

-- behind a row another one changes nothing of what the reply is about
answered : (about : About) (row : Row) → IsAnswered (about_after about (RowEvent row))
answered phases.Nothing row other = refl
answered (Preparing text more) row other = refl
answered (OfStatement id) row other = refl
answered (Executing pending) row other = refl
answered Resetting row other = refl
answered (Streaming reason) row other = refl

stays_whole : (r : InReply) (event : ReplySoFar) (row : Row) (s : Standing) → r.so_far.awaited ≡ Rows true →
    after_part r (RowEvent row) s ≡ in_phase (phases.Reply r) s
stays_whole r event row s awaited = rw awaited refl

same_phase : (s : Standing) (phase : Phase) → s.phase ≡ phase → in_phase phase s ≡ s
same_phase s phase is = ap (λ (p : Phase). in_phase p s) (sym is)

same_reply : (r : InReply) (size : ℕ) (row : Row) → IsAnswered r.about → reply_after r size (RowEvent row) r.so_far ≡ r
same_reply r size row about = ap (λ (a : About). record r { about = a }) (about row)

-- a row among others changes nothing of what stands
nothing_after : (s : Standing) (r : InReply) (size : ℕ) (row : Row) → s.phase ≡ phases.Reply r →
    r.so_far.awaited ≡ Rows true →
    IsAnswered r.about → after_event r size (RowEvent row) r.so_far s ≡ s
nothing_after s r size row phase awaited about =
    ap (λ (st : Statements). after_part (reply_after r size (RowEvent row) r.so_far) (RowEvent row)
    (with_statements st s))
    (nothing_changed r.about size row s.statements)
    ∙ ap (λ (x : InReply). after_part x (RowEvent row) s) (same_reply r size row about)
    ∙ stays_whole r r.so_far row s awaited
    ∙ same_phase s (phases.Reply r) phase

rows_no_file : (awaited : Awaited) → awaited ≡ Rows true → is_file awaited ≡ false
rows_no_file awaited h = rw h refl

-- what is read as a row among others says it, and leaves what stands
row_step : (s : Standing) (r : InReply) (row : Row) (p : Payload) → s.phase ≡ phases.Reply r →
    r.so_far.awaited ≡ Rows true →
    IsAnswered r.about → event_at (context_of s r) r.so_far p ≡ Ok (RowEvent row, r.so_far) →
    step s p ≡ Ok (events.Replied (RowEvent row), s)
row_step s r row p phase awaited about reads =
    let in_reply : reply_step r s p ≡
    Ok (events.Replied (RowEvent row), after_event r (counted p) (RowEvent row) r.so_far s) =
    rw reads refl in
    let told : in_turn (phases.Reply r) s p ≡
    Ok (events.Replied (RowEvent row), after_event r (counted p) (RowEvent row) r.so_far s) =
    by_server r s p (rows_no_file r.so_far.awaited awaited) ∙ in_reply in
    step_says s p (events.Replied (RowEvent row)) s (ap (λ (x : Phase). in_turn x s p) phase ∙ told
    ∙ ap (λ (x : Standing). Ok (events.Replied (RowEvent row), x))
    (nothing_after s r (counted p) row phase awaited about))

-- WHAT A WRITER OF ROWS APPENDS

same_in_reply : (a b : InReply) → phases.Reply a ≡ phases.Reply b → a ≡ b
same_in_reply a b e = cc

-- the row that is due is the one under these columns
due_is_under : (s : Standing) (r : InReply) (row : Row) (columns : List ColumnDefinition) → s.phase ≡ phases.Reply r →
    r.so_far.columns ≡ Some columns → length columns ≡ length row.cells → row_due s row ≡ under columns row
due_is_under s r row columns phase known same =
    let due : columns_due s.phase ≡ Some columns = ap columns_due phase ∙ known in
    let many : (length columns == length row.cells) ≡ true = eq-eqb (length columns) (length row.cells) same in
    ap (λ (its : Option (List ColumnDefinition)). under_as_many its row) due
    ∙ ap (λ (b : Bool). if b then under columns row else row) many

payload_there : (s : Standing) (r : InReply) (row : Row) (p : Payload) → s.phase ≡ phases.Reply r →
    event_payload (context_of s r) (RowEvent row) ≡ Some p → payload_of s (events.Replied (RowEvent row)) ≡ Some p
payload_there s r row p phase is = ap (λ (x : Phase). payload_in (events.Replied (RowEvent row)) s x) phase ∙ is

row_appended : (s : Standing) (r : InReply) (reader : ReaderState) (row : Row)
    (columns : List ColumnDefinition) (old new : List ℕ) →
    r.so_far.awaited ≡ Rows true → IsAnswered r.about → ReadsReply s r reader → reader.so_far.columns ≡ Some columns →
    written.WritesNextRow reader.context (under columns row) (Ok true) old new → WritesNextRow s row old new (Ok true)
row_appended s r reader row columns old new awaited about its known w =
    let there : r.so_far.columns ≡ Some columns = ap (λ (x : ReplySoFar). x.columns) (sym its.so_far) ∙ known in
    let due : row_due s row ≡ under columns row = due_is_under s r row columns its.phase there w.4 in
    let payload : event_payload (context_of s r) (RowEvent (under columns row)) ≡ Some w.0 =
    ap (λ (c : Context). event_payload c (RowEvent (under columns row))) (sym its.context) ∙ w.1 in
    let reads : event_at (context_of s r) r.so_far w.0 ≡ Ok (RowEvent (under columns row), r.so_far) =
    ap (λ (c : Context). event_at c r.so_far w.0) (sym its.context) ∙ w.3 r.so_far awaited there in
    subst (λ (x : Row). (p : Payload) × (payload_of s (events.Replied (RowEvent x)) ≡ Some p) × (new ≡ old ++ p) ×
    (step_for (events.Replied (RowEvent x)) s p ≡ Ok (events.Replied (RowEvent x), s))) (sym due) (
      w.0,
      payload_there s r (under columns row) w.0 its.phase payload,
      w.2,
      row_step s r (under columns row) w.0 its.phase awaited about reads,
    )

pub next_row_written : (s : Standing) (reader : ReaderState) (row : Row)
    (columns : List ColumnDefinition) (old new : List ℕ)
    (result : Result Bool AllocError) → IsAmongRows s → IsReplyReader s (Some reader) →
    reader.so_far.columns ≡ Some columns →
    written.WritesNextRow reader.context (under columns row) result old new → WritesNextRow s row old new result
next_row_written s reader row columns old new (Ok true) among its known w =
    let same : among.0 ≡ its.0 = same_in_reply among.0 its.0 (sym among.1 ∙ its.1.phase) in
    row_appended s its.0 reader row columns old new (ap (λ (r : InReply). r.so_far.awaited) (sym same) ∙ among.2)
    (subst (λ (r : InReply). IsAnswered r.about) same among.3) its.1 known w
next_row_written s reader row columns old new (Ok false) among its known w = w
next_row_written s reader row columns old new (Err refused) among its known w = w

-- ROWS LEAD TO ROWS

reply_leads : EventsLeadOn → (r : InReply) (s after : Standing) (row : Row) (p : Payload) → s.phase ≡ phases.Reply r →
    (after_is : (next : ReplySoFar) × (event_at (context_of s r) r.so_far p ≡ Ok (RowEvent row, next)) ×
    (after ≡ after_event r (counted p) (RowEvent row) next s)) → IsAmongRows after
reply_leads law r s after row p phase is =
    let next : is.0 ≡ record r.so_far { awaited = Rows true } =
    law (context_of s r) r.so_far p (RowEvent row) is.0 is.1 in
    let r' : InReply = reply_after r (counted p) (RowEvent row) (record r.so_far { awaited = Rows true }) in
    let left : after ≡ after_event r (counted p) (RowEvent row) (record r.so_far { awaited = Rows true }) s =
    is.2 ∙ ap (λ (n : ReplySoFar). after_event r (counted p) (RowEvent row) n s) next in
    (r', ap (λ (x : Standing). x.phase) left, refl, answered r.about row)

replied_in : EventsLeadOn → (phase : Phase) (s after : Standing) (row : Row) (p : Payload) → s.phase ≡ phase →
    in_turn phase s p ≡ Ok (events.Replied (RowEvent row), after) → IsAmongRows after
replied_in law phases.Greeting s after row p is h =
    let x = said_of events.Greeting (after_greeting s) (of_login (greeting_at p))
    (events.Replied (RowEvent row)) after h in
    let differs : events.Greeting x.0 ≡ events.Replied (RowEvent row) = x.2 in absurd cc
replied_in law phases.Response s after row p is h =
    let x = said_of events.Response (after_response s)
    (of_login (response_at s.offered.protocol.0 p)) (events.Replied (RowEvent row)) after h in
    let differs : events.Response x.0 ≡ events.Replied (RowEvent row) = x.2 in absurd cc
replied_in law (phases.Authentication exchange) s after row p is h = go (greets_anew exchange p) h where
  go : (anew : Bool) → (if anew then Err faults.BadGreeting else says events.Authentication
      (after_authentication exchange s)
      (of_login (authentication_at s.capabilities.protocol.0 p))) ≡
      Ok (events.Replied (RowEvent row), after) → IsAmongRows after
  go true e = absurd cc
  go false e =
      let x = said_of events.Authentication (after_authentication exchange s)
      (of_login (authentication_at s.capabilities.protocol.0 p))
      (events.Replied (RowEvent row)) after e in
      let differs : events.Authentication x.0 ≡ events.Replied (RowEvent row) = x.2 in absurd cc
replied_in law (phases.Answer exchange) s after row p is h =
    let differs : events.Answer p ≡ events.Replied (RowEvent row) = ap (λ (q : Event × Standing). q.0)
    (ok_same (events.Answer p, in_phase (phases.Authentication exchange) s)
    (events.Replied (RowEvent row), after) h) in absurd cc
replied_in law phases.Command s after row p is h =
    let command : Command = command_at s.capabilities (parameters_in_question s.statements p) p in
    let differs : events.Asked command ≡ events.Replied (RowEvent row) = ap (λ (q : Event × Standing). q.0)
    (ok_same (events.Asked command, after_command s p command) (events.Replied (RowEvent row), after) h) in absurd cc
replied_in law (phases.Reply r) s after row p is h =
    reply_leads law r s after row p is (said_after s r (RowEvent row) after p h)
replied_in law (phases.Over reason) s after row p is h = absurd cc

pub rows_lead : EventsLeadOn → RowsLeadToRows
rows_lead law s after row p h =
    replied_in law s.phase s after row p refl (step_said s p (events.Replied (RowEvent row)) after h)

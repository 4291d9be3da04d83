-- What was read of a reply's payload is what the step of the reply says.
use Rattle.std.proofs.Common.{◌≡◌, ℕ, Bool, true, false, if◌then◌else◌, List, Ok, refl, ap, subst, sym, ◌∙◌}
use Rattle.mysql_connection_statements.specs.Statements.{Statements, counted}
use Rattle.mysql_reply_events.specs.Events.{Event as ReplySaid}
use Rattle.mysql_reply_events.specs.Events.Awaited.{Rows}
use Rattle.mysql_reply_events.specs.Events.Event.{RowEvent}
use Rattle.mysql_reply_events.specs.Reader.{ReaderState, ReadsRow}
use Rattle.mysql_reply_events.specs.Table.{event_at}
use Rattle.mysql_rows.specs.Rows.{Row}
use Rattle.mysql_connection_rules.specs.Events.Event.{Replied}
use Rattle.mysql_connection_rules.specs.Standing.{About, InReply, Standing}
use Rattle.mysql_connection_rules.specs.Standing.About.{Executing, Nothing, OfStatement, Preparing}
use Rattle.mysql_connection_rules.specs.Standing.About.{Resetting, Streaming}
use Rattle.mysql_connection_rules.specs.Standing.Phase.{Reply}
use Rattle.mysql_connection_rules.specs.Steps.{after_event, after_part, behind_reply, changed_by}
use Rattle.mysql_connection_rules.specs.Steps.{context_of, phase_behind}
use Rattle.mysql_connection_rules.specs.Steps.{with_columns}
use Rattle.mysql_connection_rules.specs.Steps.{in_phase, reply_after, reply_step, with_statements}
use Rattle.mysql_connection_state.specs.Reads.{SaysRow}
use Rattle.mysql_connection_state.specs.Views.{in_reply_view}
use Rattle.mysql_connection_state.specs.declared.due.InReply.{InReply as HeldReply}

-- a row changes nothing of the statements
pub no_change : (about : About) (n : ℕ) (row : Row) (s : Statements) →
    changed_by about n (RowEvent row) s ≡ s
no_change Nothing n row s = refl
no_change (Preparing text size) n row s = refl
no_change (OfStatement id) n row s = refl
no_change (Executing pending) n row s = refl
no_change Resetting n row s = refl
no_change (Streaming reason) n row s = refl

-- where rows are due, the reply goes on
goes_on : (r : InReply) (event : ReplySaid) (s : Standing) → r.so_far.awaited ≡ Rows true →
    after_part r event s ≡ in_phase (Reply r) s
goes_on r event s h = rw h refl

-- what stands behind a row
behind_row : (r : InReply) (event : ReplySaid) (s : Standing) (changed after : Statements) →
    r.so_far.awaited ≡ Rows true → changed ≡ after →
    after_part r event (with_statements changed s) ≡ in_phase (Reply r) (with_statements after s)
behind_row r event s changed after h same =
    goes_on r event (with_statements changed s) h ∙
    ap (λ (these : Statements). in_phase (Reply r) (with_statements these s)) same

pub row_said : (old new : HeldReply) (r : InReply) (s : Standing) (after : Statements)
    (payload : List ℕ) → in_reply_view old ≡ r →
    old.reader.context.capabilities ≡ s.capabilities →
    (said : SaysRow old s.statements payload new after) →
    reply_step r s payload ≡ Ok (
      Replied (RowEvent said.read.row),
      in_phase (Reply (in_reply_view new)) (with_statements after s),
    )
row_said old new r s after payload same c said =
    let event : event_at (context_of s (in_reply_view old)) old.reader.so_far payload ≡
    Ok (RowEvent said.read.row, new.reader.so_far) = rw (← c) said.read.event in
    let size = counted payload in
    let said_event : ReplySaid = RowEvent said.read.row in
    let changed = changed_by (in_reply_view old).about size said_event s.statements in
    let stepped : reply_step (in_reply_view old) s payload ≡ Ok (
      Replied said_event,
      after_event (in_reply_view old) size said_event new.reader.so_far s,
    ) = rw event refl in
    let moved : after_event (in_reply_view old) size said_event new.reader.so_far s ≡
    after_part (in_reply_view new) said_event (with_statements changed s) =
    ap (λ (r : InReply). after_part r said_event (with_statements changed s)) (sym said.reply) in
    let behind = behind_row (in_reply_view new) said_event s changed after said.read.awaits
    (no_change (in_reply_view old).about size said.read.row s.statements ∙
    sym said.statements) in
    subst (λ (r : InReply). reply_step r s payload ≡ Ok (
      Replied said_event,
      in_phase (Reply (in_reply_view new)) (with_statements after s),
    )) same
    (stepped ∙ ap (λ (w : Standing). Ok (Replied said_event, w)) (moved ∙ behind))

-- a row that was read where it lies, with what it is about
pub row_part : (old new : HeldReply) (reader : ReaderState) (before : Statements)
    (payload : List ℕ) → ReadsRow old.reader payload reader → new.reader ≡ reader →
    ((size : ℕ) (row : Row) → in_reply_view new ≡ reply_after
    (in_reply_view (record old { reader = reader })) size (RowEvent row) reader.so_far) →
    SaysRow old before payload new before
row_part old new reader before payload first same came =
    let read : ReadsRow old.reader payload new.reader =
    subst (λ (reader : ReaderState). ReadsRow old.reader payload reader) (sym same) first in
    let context = first.goes_on.context in
    let this = came (counted payload) read.row in
    record { read = read; reply = cc; statements = refl }

-- what stands behind an event, by whether the reply is whole
pub by_whole : (whole : Bool) (r : InReply) (event : ReplySaid) (s : Standing) (these : Statements) →
    (if whole then behind_reply r.about event (with_statements (with_columns r r.about these)
    (with_statements these s)) else in_phase (Reply r) (with_statements these s)) ≡
    in_phase (if whole then phase_behind r.about event else Reply r)
    (with_statements (if whole then with_columns r r.about these else these) s)
by_whole true r event s these = refl
by_whole false r event s these = refl

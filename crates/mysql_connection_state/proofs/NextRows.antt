-- A row that is read where it lies is the one of the table of steps.
use Rattle.std.proofs.Common.{◌≡◌, ◌≤◌, ℕ, List, Bool, true, false, ◌&&◌, Some, Ok, Err, arith, inl, inr, refl, ap}
use Rattle.std.proofs.Common.{subst, sym, ◌∙◌}
use Rattle.mysql_const.specs.declared.capabilities.Capabilities.{Capabilities}
use Rattle.mysql_connection_statements.specs.Statements.{Statements, counted}
use Rattle.mysql_reply_events.specs.Events.{Awaited, ReplySoFar}
use Rattle.mysql_reply_events.specs.Events.Awaited.{Columns, ColumnsEnd, Fields, FileData, First, Nothing as NothingDue}
use Rattle.mysql_reply_events.specs.Events.Awaited.{Rows}
use Rattle.mysql_reply_events.specs.Events.Event.{RowEvent}
use Rattle.mysql_reply_events.specs.NextRows.{TakesNoRow}
use Rattle.mysql_reply_events.specs.Reader.{awaits_rows, is_row_due}
use Rattle.mysql_reply_events.specs.declared.context.Context.{Context}
use Rattle.mysql_reply_events.specs.Standing.{RowAt}
use Rattle.mysql_reply_events.specs.Table.{event_at}
use Rattle.mysql_reply_events.specs.declared.fault.ReplyFault.TheVariants.{BadRow}
use Rattle.mysql_row_refs.specs.declared.reader.RowReader.{RowReader}
use Rattle.mysql_rows.specs.Rows.{Row}
use Rattle.std.specs.Prelude.{Option}
use Rattle.mysql_connection_rules.specs.Events.Event.{Replied}
use Rattle.mysql_connection_rules.specs.Standing.{About, InReply, Phase, Standing, about_size, kept, phase_size}
use Rattle.mysql_connection_rules.specs.Standing.About.{Executing, Nothing, OfStatement, Preparing}
use Rattle.mysql_connection_rules.specs.Standing.About.{Resetting, Streaming}
use Rattle.mysql_connection_rules.specs.Standing.Phase.{Reply}
use Rattle.mysql_connection_rules.specs.Steps.{about_after, by_turn, context_of, in_phase, in_turn, reply_after}
use Rattle.mysql_connection_rules.specs.StepLaws.{step_fails, step_says}
use Rattle.mysql_connection_rules.specs.Steps.{reply_step, turn, turn_in_reply}
use Rattle.mysql_connection_rules.specs.declared.fault.Fault.TheVariants.{BadReply}
use Rattle.mysql_connection_rules.specs.declared.side.Side.{Side}
use Rattle.mysql_connection_rules.specs.declared.side.Side.TheVariants.{Server}
use Rattle.mysql_connection_state.specs.NextRows.{LendsRow, LendsRowOfReply, ReadsNextRow, ReadsNoNextRow, TakesRow}
use Rattle.mysql_connection_state.specs.NextRows.{TakesRowOfReply, awaits_next_row}
use Rattle.mysql_connection_state.specs.Reads.{SaysRow}
use Rattle.mysql_connection_state.specs.Views.{ConnectionState, ReadsBy, in_reply_view}
use Rattle.mysql_connection_state.specs.declared.due.InReply.{InReply as HeldReply}
use Rattle.mysql_connection_state.proofs.Parts.{row_said}

-- behind a row no more is kept of what the reply is about
about_keeps : (s : Statements) (about : About) (row : Row) →
    about_size s (about_after about (RowEvent row)) ≤ about_size s about
about_keeps s Nothing row = omega arith
about_keeps s (Preparing text size) row = omega arith
about_keeps s (OfStatement id) row = omega arith
about_keeps s (Executing pending) row = omega arith
about_keeps s Resetting row = omega arith
about_keeps s (Streaming reason) row = omega arith

keeps : (s : Standing) (r : InReply) (size : ℕ) (row : Row) (so_far : ReplySoFar) → s.phase ≡ Reply r →
    kept (in_phase (Reply (reply_after r size (RowEvent row) so_far)) s) ≤ kept s
keeps s r size row so_far phase =
    omega (arith, about_keeps s.statements r.about row, ap (phase_size s.statements) phase)

-- where the server's payload is due, the step is that of the reply
server_turn : (s : Standing) (r : InReply) (payload : List ℕ) → s.phase ≡ Reply r →
    turn_in_reply r.so_far.awaited ≡ Server → in_turn s.phase s payload ≡ reply_step r s payload
server_turn s r payload phase server =
    ap (λ (phase : Phase). in_turn phase s payload) phase ∙
    ap (λ (side : Side). by_turn side r s payload) server

-- so it is where rows are due behind others
rows_server : (awaited : Awaited) → awaited ≡ Rows true → turn_in_reply awaited ≡ Server
rows_server awaited is = ap turn_in_reply is

-- and where a row is due that may be lent
due_server_by : (c : Context) (s : ReplySoFar) (awaited : Awaited) (a b : Bool) →
    (awaits_rows c s awaited && a && b) ≡ true →
    turn_in_reply awaited ≡ Server
due_server_by c s First a b h = refl
due_server_by c s (Columns group n columns) a b h = refl
due_server_by c s (ColumnsEnd group known) a b h = refl
due_server_by c s (Rows known) a b h = refl
due_server_by c s Fields a b h = refl
due_server_by c s FileData a b h = absurd (cc h)
due_server_by c s NothingDue a b h = refl

due_server : (c : Context) (s : ReplySoFar) (payload : List ℕ) → is_row_due c s payload ≡ true →
    turn_in_reply s.awaited ≡ Server
due_server c s payload h = due_server_by c s s.awaited _ _ h

no_row : (old : ConnectionState) (reply : HeldReply) (payload : List ℕ) →
    old.standing.phase ≡ Reply (in_reply_view reply) →
    reply.reader.context.capabilities ≡ old.standing.capabilities → old.rows ≡ reply.reader.rows →
    TakesNoRow reply.reader payload → ReadsNoNextRow old payload
no_row old reply payload phase same rows (inl none) = inl (rows ∙ none)
no_row old reply payload phase same rows (inr (inl other)) =
    inr (inl (ap (λ (phase : Phase). awaits_next_row phase payload) phase ∙ other))
no_row old reply payload phase same rows (inr (inr (awaited, bad))) =
    let r = in_reply_view reply in
    let event : event_at (context_of old.standing r) reply.reader.so_far payload ≡ Err BadRow = rw (← same) bad in
    let stepped : reply_step r old.standing payload ≡ Err (BadReply BadRow) = rw event refl in
    inr (inr (step_fails old.standing payload (BadReply BadRow)
    (server_turn old.standing r payload phase
    (rows_server reply.reader.so_far.awaited awaited) ∙ stepped)))

-- a row that was read of the reply
row_taken : (old new : ConnectionState) (reply after : HeldReply) (payload : List ℕ) →
    old.standing.phase ≡ Reply (in_reply_view reply) →
    reply.reader.context.capabilities ≡ old.standing.capabilities →
    new.standing ≡ in_phase (Reply (in_reply_view after)) old.standing → new.rows ≡ after.reader.rows →
    turn_in_reply reply.reader.so_far.awaited ≡ Server →
    ((these : Statements) → SaysRow reply these payload after these) → ReadsNextRow old payload new
row_taken old new reply after payload phase same stands lends server says =
    let s = old.standing in
    let r = in_reply_view reply in
    let said : SaysRow reply s.statements payload after s.statements = says s.statements in
    let stepped = row_said reply after r s s.statements payload refl same said in
    record {
      turn = ap turn phase ∙ ap (λ (side : Side). Some side) server;
      row = said.read.row;
      lies = subst (λ (rows : Option RowReader). RowAt rows payload said.read.row) (sym lends) said.read.lies;
      step = step_says s payload (Replied (RowEvent said.read.row)) new.standing
          (server_turn s r payload phase server ∙ stepped ∙
          ap (λ (w : Standing). Ok (Replied (RowEvent said.read.row), w)) (sym stands));
      kept = subst (λ (w : Standing). kept w ≤ kept s)
          (ap (λ (r : InReply). in_phase (Reply r) s) (sym said.reply) ∙ sym stands)
          (keeps s r (counted payload) said.read.row after.reader.so_far phase);
    }

-- nothing but what reads rows has changed
untaken : (old new : ConnectionState) (reply after : HeldReply) → old.standing.phase ≡ Reply (in_reply_view reply) →
    new.standing ≡ in_phase (Reply (in_reply_view after)) old.standing →
    after ≡ record reply { reader = record reply.reader { rows = after.reader.rows } } → new.standing ≡ old.standing
untaken old new reply after phase stands same =
    stands ∙ ap (λ (r : HeldReply). in_phase (Reply (in_reply_view r)) old.standing) same ∙
    ap (λ (phase : Phase). in_phase phase old.standing) (sym phase)

-- by what the reply answers
pub taken : (old new : ConnectionState) (reply after : HeldReply) (payload : List ℕ) (took : Bool) →
    old.standing.phase ≡ Reply (in_reply_view reply) →
    reply.reader.context.capabilities ≡ old.standing.capabilities → old.rows ≡ reply.reader.rows →
    new.standing ≡ in_phase (Reply (in_reply_view after)) old.standing → new.rows ≡ after.reader.rows →
    TakesRowOfReply reply payload took after → TakesRow old payload took new
taken old new reply after payload true phase same rows stands lends took =
    row_taken old new reply after payload phase same stands lends
    (rows_server reply.reader.so_far.awaited took.0) took.1
taken old new reply after payload false phase same rows stands lends took =
    (untaken old new reply after phase stands took.0, no_row old reply payload phase same rows took.1)

pub lent : (old new : ConnectionState) (reply after : HeldReply) (payload : List ℕ) (took : Bool) →
    old.standing.phase ≡ Reply (in_reply_view reply) →
    reply.reader.context.capabilities ≡ old.standing.capabilities →
    new.standing ≡ in_phase (Reply (in_reply_view after)) old.standing → new.rows ≡ after.reader.rows →
    LendsRowOfReply reply payload took after → LendsRow old payload took new
lent old new reply after payload true phase same stands lends took =
    row_taken old new reply after payload phase same stands lends
    (due_server reply.reader.context reply.reader.so_far payload took.0) took.1
lent old new reply after payload false phase same stands lends took =
    untaken old new reply after phase stands took

-- the reply's reader goes on
row_fits : (reply after : HeldReply) (payload : List ℕ) (s : Statements) (capabilities : Capabilities) →
    SaysRow reply s payload after s → ReadsBy capabilities reply → ReadsBy capabilities after
row_fits reply after payload s capabilities said fits = record {
  fault = said.read.goes_on.fault;
  context = rw said.read.goes_on.context fits.context;
}

same_fits : (reply after : HeldReply) (capabilities : Capabilities) →
    after ≡ record reply { reader = record reply.reader { rows = after.reader.rows } } →
    ReadsBy capabilities reply → ReadsBy capabilities after
same_fits reply after capabilities same fits =
    subst (λ (r : HeldReply). ReadsBy capabilities r) (sym same)
    (record { fault = fits.fault; context = fits.context })

pub still_fits : (reply after : HeldReply) (payload : List ℕ) (took : Bool) (s : Statements)
    (capabilities : Capabilities) →
    TakesRowOfReply reply payload took after → ReadsBy capabilities reply → ReadsBy capabilities after
still_fits reply after payload true s capabilities took fits =
    row_fits reply after payload s capabilities (took.1 s) fits
still_fits reply after payload false s capabilities took fits = same_fits reply after capabilities took.0 fits

pub lent_fits : (reply after : HeldReply) (payload : List ℕ) (took : Bool) (s : Statements)
    (capabilities : Capabilities) →
    LendsRowOfReply reply payload took after → ReadsBy capabilities reply → ReadsBy capabilities after
lent_fits reply after payload true s capabilities took fits =
    row_fits reply after payload s capabilities (took.1 s) fits
lent_fits reply after payload false s capabilities took fits = same_fits reply after capabilities took fits

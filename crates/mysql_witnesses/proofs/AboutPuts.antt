-- Refusals of what is put, what an execution is read as, rows under other columns, and packets past the turn.
use Rattle.std.proofs.Common.{◌≡◌, ◌<◌, ◌≤◌, ℕ, List, [], ◌∷◌, ◌++◌, None, Some, Result, Ok, Err}
use Rattle.std.proofs.Common.{refl, sym, ap, subst, ◌∙◌, arith}
use Rattle.bitflags.proofs.OnLiterals.{bitflags_on_literals}
use Rattle.mysql_buf.specs.Reading.{first}
use Rattle.mysql_cells.specs.Cells.{cell_at, text_cell_at}
use Rattle.mysql_columns.specs.Columns.{ColumnDefinition}
use Rattle.mysql_connection_machine.specs.Machines.{LendingWorld, Machine}
use Rattle.mysql_connection_machine.specs.PuttingPackets.{PutsAll, StandFirst}
use Rattle.mysql_connection_rules.specs.Events.{Event, side_of}
use Rattle.mysql_connection_rules.specs.Events.Event.{Replied}
use Rattle.mysql_connection_rules.specs.Standing as phases
use Rattle.mysql_connection_rules.specs.Standing.{InReply, Phase, Standing, kept}
use Rattle.mysql_connection_rules.specs.Standing.About.{Nothing}
use Rattle.mysql_connection_rules.specs.Steps.{Step, after_event, context_of, in_turn, of_reply, says, step}
use Rattle.mysql_connection_rules.specs.Streams.{World, room_to_keep}
use Rattle.mysql_connection_rules.specs.declared.fault.Fault.{Fault}
use Rattle.mysql_connection_rules.specs.declared.side.Side.{Side}
use Rattle.mysql_connection_rules.specs.declared.side.Side.TheVariants.{Client, Server}
use Rattle.mysql_connection_state.specs.Views.{event_view}
use Rattle.mysql_connection_statements.specs.Statements.{counted}
use Rattle.mysql_execution_writer.specs.Cells.{are_parameters, parameters_bytes}
use Rattle.mysql_execution_writer.specs.Written.{can_be_put, execution_bytes}
use Rattle.mysql_executions.specs.Executions.{binding_at, execution_at, execution_head, readable_head}
use Rattle.mysql_executions.specs.Fields.{each_at}
use Rattle.mysql_executions.specs.Types.{types_read}
use Rattle.mysql_field_lists.specs.Lists.{elements_at}
use Rattle.mysql_reply_events.specs.Events.{Event as ReplySaid, ReplySoFar}
use Rattle.mysql_reply_events.specs.Events.Event.{RowEvent}
use Rattle.mysql_reply_events.specs.Table.{event_at, fresh}
use Rattle.mysql_reply_events.specs.declared.context.ReplyKind.TheVariants.{Plain}
use Rattle.mysql_stmt.specs.Executions.{null_bitmap, null_bits}
use Rattle.mysql_wire.specs.FirstPacket.{Found, OutOfSync, Short, TooLarge, Whole}
use Rattle.mysql_witnesses.specs.Puts.{HasThatPayload, NumbersAreNotPutAsOthers, PacketsWaitForTheirTurn}
use Rattle.mysql_witnesses.specs.Puts.{RefusedEventsChangeNothing, RefusedPayloadsChangeNothing}
use Rattle.mysql_witnesses.specs.Puts.{RowsAreDueBehindColumns, RowsAreNotPutUnderOtherColumns}
use Rattle.mysql_witnesses.specs.Puts.{WhatIsHeldBackIsNotPut, client_of_bytes, null_under, rows_due}
use Rattle.mysql_witnesses.specs.Streams.{ping}

pub refused_events_change_nothing : RefusedEventsChangeNothing
refused_events_change_nothing old new event before behind cause h =
    (ap (λ (l : LendingWorld). l.world) h.0.0, h.0.1)

pub refused_payloads_change_nothing : RefusedPayloadsChangeNothing
refused_payloads_change_nothing old new side payload before behind cause h =
    (ap (λ (l : LendingWorld). l.world) h.0.0, h.0.1)

-- ---- held back

after_of : Standing → Step → Standing
after_of none (Ok said) = said.1
after_of none (Err fault) = none

-- what a step leaves has room or not, by whichever name it is called
held_or_put : (s : Step) (event other : Event) (after there : Standing) (most : ℕ) →
    s ≡ Ok (event, after) → most < kept after → s ≡ Ok (other, there) → kept there ≤ most → ⊥
unfolding after_of
held_or_put s event other after there most e more f within =
    let same : after ≡ there = ap (after_of after) (sym e ∙ f) in omega (arith, more, within, ap kept same)

pub what_is_held_back_is_not_put : WhatIsHeldBackIsNotPut
what_is_held_back_is_not_put old new side payload before behind event refused puts =
    let put = puts.0.0 in
    held_or_put (step old.world.standing payload) refused.1 (event_view event) refused.2 put.written.after
    (room_to_keep old.world.limits) refused.3 refused.4 put.says put.written.may.keeps

-- ---- executions

pub has_that_payload : HasThatPayload
unfolding first cell_at execution_at readable_head execution_head binding_at each_at types_read
    execution_bytes can_be_put parameters_bytes are_parameters null_bitmap null_bits bitflags_on_literals
has_that_payload = refl

pub numbers_are_not_put_as_others : NumbersAreNotPutAsOthers
unfolding first cell_at execution_at readable_head execution_head binding_at each_at types_read
    execution_bytes can_be_put parameters_bytes are_parameters null_bitmap null_bits bitflags_on_literals
numbers_are_not_put_as_others = refl

pub rows_are_due_behind_columns : RowsAreDueBehindColumns
unfolding step bitflags_on_literals
rows_are_due_behind_columns = refl

-- ---- rows under other columns

columns_in : Event → List ColumnDefinition
columns_in (Replied (RowEvent row)) = row.columns
columns_in event = []

columns_said : Step → List ColumnDefinition
columns_said (Ok said) = columns_in said.0
columns_said (Err fault) = []

its_column : (column : ColumnDefinition) → columns_said (step (rows_due column) (0xfb ∷ [])) ≡ column ∷ []
unfolding columns_said columns_in step text_cell_at elements_at bitflags_on_literals
its_column column = refl

-- what the payload says that was written
said_of : (s after : Standing) (event : Event) (written payload : List ℕ) → Some written ≡ Some payload →
    step s payload ≡ Ok (event, after) → step s written ≡ Ok (event, after)
said_of s after event written payload e h =
    let f : payload ≡ written = cc in subst (λ (p : List ℕ). step s p ≡ Ok (event, after)) f h

pub rows_are_not_put_under_other_columns : RowsAreNotPutUnderOtherColumns
unfolding columns_said columns_in
rows_are_not_put_under_other_columns m new column other before behind differ puts =
    let put = puts.0.0 in
    let event = Replied (RowEvent (null_under other)) in
    let said = said_of (rows_due column) put.2.after event (0xfb ∷ []) put.0 put.1 put.2.may.says in
    let e : ◌≡◌ {A = List ColumnDefinition} (column ∷ []) (other ∷ []) = sym (its_column column) ∙
    ap columns_said said in
    differ cc

-- ---- packets past the turn

payload_found : Found → List ℕ
payload_found (Whole payload number rest) = payload
payload_found Short = []
payload_found TooLarge = []
payload_found (OutOfSync number) = []

rest_found : Found → List ℕ
rest_found (Whole payload number rest) = rest
rest_found Short = []
rest_found TooLarge = []
rest_found (OutOfSync number) = []

phase_behind : Step → Phase
phase_behind (Ok said) = said.1.phase
phase_behind (Err fault) = phases.Command

side_said : Step → Side
side_said (Ok said) = side_of said.0
side_said (Err fault) = Server

-- behind a ping a reply is due
abbrev ping_reply : InReply
ping_reply = record { kind = Plain; so_far = fresh None; about = Nothing; earlier = 0; coming = 0; parameters = 0 }

reply_is_due : phase_behind (step client_of_bytes.world.standing (0x0e ∷ [])) ≡ phases.Reply ping_reply
unfolding phase_behind step
reply_is_due = refl

-- of which each payload is the server's
by_server : {X : Type 0} (s : Standing) (said : X → ReplySaid) (behind : X → Standing) (read : Result X Fault) →
    side_said (says (λ x. Replied (said x)) behind read) ≡ Server
unfolding side_said
by_server s said behind (Ok x) = refl
by_server s said behind (Err fault) = refl

server_replies : (s : Standing) (payload : List ℕ) → s.phase ≡ phases.Reply ping_reply →
    side_said (step s payload) ≡ Server
unfolding side_said step
server_replies s payload e =
    let r = ping_reply in
    let said : ReplySaid × ReplySoFar → ReplySaid = λ x. x.0 in
    let behind : ReplySaid × ReplySoFar → Standing = λ x. after_event r (counted payload) x.0 x.1 s in
    subst (λ (phase : Phase). side_said (in_turn phase s payload) ≡ Server) (sym e)
    (by_server s said behind (of_reply (event_at (context_of s r) r.so_far payload)))

-- the payloads of both pings can't have been put
not_both : (new : Machine) (before behind : List ℕ) (payloads : List (List ℕ)) →
    StandFirst 1 (ping ++ ping) payloads [] → PutsAll client_of_bytes Client payloads before new behind → ⊥
unfolding payload_found rest_found phase_behind side_said
not_both new before behind [] stand puts = let e : ping ++ ping ≡ [] = stand in cc
not_both new before behind (p ∷ []) stand puts = let e : ping ≡ [] = ap rest_found stand.2 ∙ stand.3 in cc
not_both new before behind (p ∷ q ∷ payloads) stand puts =
    let one = puts.2.puts.0.1 in
    let other = puts.3.2.puts.0.1 in
    let said = subst (λ (bytes : List ℕ). step client_of_bytes.world.standing bytes ≡
    Ok (puts.2.puts.0.0, one.written.after))
    (sym (ap payload_found stand.2)) one.says in
    let phase = ap (λ (w : World). w.standing.phase) one.written.goes ∙ sym (ap phase_behind said) ∙ reply_is_due in
    let e : Server ≡ Client = sym (server_replies puts.0.world.standing q phase) ∙
    ap side_said other.says ∙ other.its_own in
    cc

pub packets_wait_for_their_turn : PacketsWaitForTheirTurn
packets_wait_for_their_turn new before behind puts =
    not_both new before behind puts.1.payloads puts.1.stand puts.1.puts

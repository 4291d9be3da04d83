use Rattle.std.proofs.Common.{Err, Result, ap, sym, ◌∙◌}
use Rattle.mysql_connection_rules.specs.Events as events
use Rattle.mysql_connection_rules.specs.declared.fault.Fault.{Fault}
use Rattle.mysql_connection_state.specs.declared.event.Event.{Event as HeldEvent}
use Rattle.mysql_server_packets.specs.Views.{server_error_view}
use Rattle.mysql_connection_state.specs.Peeks.{saying}
use Rattle.mysql_connection_state.proofs.Phases.{farewell_said, gives_fault, gives_so, nothing_bidden}
use Rattle.mysql_connection_state.proofs.farewell.peek_farewell.Goals as goal

pub returns-then-not-begins_error : goal.returns-then-not-begins_error
returns-then-not-begins_error c =
    λ s. nothing_bidden s c.args.payload.now (sym c.begins_error.ensures ∙
    c.if-not-begins_error.true)

pub returns-in-Ok : goal.returns-in-Ok
returns-in-Ok c = λ s.
    farewell_said s c.args.payload.now (sym c.begins_error.ensures ∙ c.if-not-begins_error.false) ∙
    ap (saying events.Farewell) c.in-Ok.ensures

pub returns-in-Err : goal.returns-in-Err
returns-in-Err c = λ s.
    gives_so _ _ (let r : Result HeldEvent Fault = Err c.in-Err.fault in r)
    (farewell_said s c.args.payload.now (sym c.begins_error.ensures ∙ c.if-not-begins_error.false))
    (gives_fault server_error_view events.Farewell c.in-Err.fault _ c.in-Err.ensures)

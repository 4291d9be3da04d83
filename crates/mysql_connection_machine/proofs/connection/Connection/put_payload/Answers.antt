use Rattle.std.proofs.Common.{◌≡◌, None, Some, Ok, Err, ap, subst, sym}
use Rattle.mysql_connection_state.specs.Views.{event_view}
use Rattle.mysql_connection_machine.specs.Machines.{Machine}
use Rattle.mysql_connection_machine.specs.PuttingPayloads.{PutsPayloadOf}
use Rattle.mysql_connection_machine.proofs.Knowing.{taken_known}
use Rattle.mysql_connection_machine.proofs.connection.Connection.put_payload.Goals as goal

pub returns-in-Ok-clause-puts : goal.returns-in-Ok-clause-puts
returns-in-Ok-clause-puts c = λ none. (
  subst (λ (m : Machine). PutsPayloadOf (record { world = m.world; row = m.row }) c.args.side c.args.payload.now
      c.args.out.now.items (Ok c.in-Ok.event)
      (record { world = c.put_due_payload.new.self.world; row = c.put_due_payload.new.self.row })
      c.put_due_payload.new.out.items) c.self.view_is c.in-Ok.ensures.puts,
  subst (λ (m : Machine). m.failure ≡ None) (sym c.self.view_is) none,
)

pub returns-in-Err-clause-puts : goal.returns-in-Err-clause-puts
returns-in-Err-clause-puts c = λ none. (
  subst (λ (m : Machine). PutsPayloadOf (record { world = m.world; row = m.row }) c.args.side c.args.payload.now
      c.args.out.now.items (Err c.in-Err.refusal)
      (record { world = c.put_due_payload.new.self.world; row = c.put_due_payload.new.self.row })
      c.put_due_payload.new.out.items) c.self.view_is c.in-Err.ensures.puts,
  subst (λ (m : Machine). m.failure ≡ None) (sym c.self.view_is) none,
)

pub returns-in-Ok-clause-mode : goal.returns-in-Ok-clause-mode
returns-in-Ok-clause-mode c =
    taken_known c.put_due_payload.new.self.world.standing c.state-in-Ok.result.now.standing c.args.self.now.mode
    c.self.inside.mode c.mode_behind-self-inside.result (Some (event_view c.in-Ok.event))
    (ap (λ (m : Machine). m.mode) c.self.view_is)
    c.state-in-Ok.ensures c.mode_behind-self-inside.ensures

pub returns-in-Err-clause-mode : goal.returns-in-Err-clause-mode
returns-in-Err-clause-mode c = ap (λ (m : Machine). m.mode) c.self.view_is

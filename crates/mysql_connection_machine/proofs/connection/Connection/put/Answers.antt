use Rattle.std.proofs.Common.{Some, ap}
use Rattle.mysql_connection_state.specs.Views.{event_view}
use Rattle.mysql_connection_machine.specs.Machines.{Machine}
use Rattle.mysql_connection_machine.proofs.Knowing.{taken_known}
use Rattle.mysql_connection_machine.proofs.connection.Connection.put.Goals as goal

pub returns-then-put_among_rows-clause-mode : goal.returns-then-put_among_rows-clause-mode
returns-then-put_among_rows-clause-mode c =
    taken_known c.put_among_rows.new.self.world.standing c.state-then-put_among_rows.result.now.standing
    c.args.self.now.mode c.self.inside.mode c.mode_behind-self-inside.result (Some (event_view c.args.event.now))
    (ap (λ (m : Machine). m.mode) c.self.view_is) c.state-then-put_among_rows.ensures c.mode_behind-self-inside.ensures

pub returns-in-Ok-clause-mode : goal.returns-in-Ok-clause-mode
returns-in-Ok-clause-mode c =
    taken_known c.put.new.self.world.standing c.state-in-Ok.result.now.standing c.args.self.now.mode
    c.self.inside.mode c.mode_behind-self-inside-in-Ok.result (Some (event_view c.args.event.now))
    (ap (λ (m : Machine). m.mode) c.self.view_is)
    c.state-in-Ok.ensures c.mode_behind-self-inside-in-Ok.ensures

pub returns-in-Err-clause-mode : goal.returns-in-Err-clause-mode
returns-in-Err-clause-mode c = ap (λ (m : Machine). m.mode) c.self.view_is

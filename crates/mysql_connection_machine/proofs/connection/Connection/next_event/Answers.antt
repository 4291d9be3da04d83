use Rattle.std.proofs.Common.{ap}
use Rattle.std.specs.Option.{option_map}
use Rattle.mysql_connection_state.specs.Views.{event_view}
use Rattle.mysql_connection_machine.specs.Machines.{Machine}
use Rattle.mysql_connection_machine.proofs.Knowing.{taken_known}
use Rattle.mysql_connection_machine.proofs.Limits.{answers_stay}
use Rattle.mysql_connection_machine.proofs.connection.Connection.next_event.Goals as goal

pub invariant_of-self : goal.invariant_of-self
invariant_of-self c =
    answers_stay c.held_stays.ensures.events c.self.inside.reader.world
    c.next_event.new.self.world c.in-Ok.event c.in-Ok.ensures.answers c.self.invariant

pub returns-in-Ok-clause-mode : goal.returns-in-Ok-clause-mode
returns-in-Ok-clause-mode c =
    taken_known c.next_event.new.self.world.standing c.state.result.now.standing c.args.self.now.mode c.self.inside.mode
    c.mode_taken-self-inside.result (option_map event_view c.in-Ok.event)
    (ap (λ (m : Machine). m.mode) c.self.view_is) c.state.ensures
    c.mode_taken-self-inside.ensures

pub returns-in-Err-clause-mode : goal.returns-in-Err-clause-mode
returns-in-Err-clause-mode c = ap (λ (m : Machine). m.mode) c.self.view_is

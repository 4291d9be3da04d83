use Rattle.std.proofs.Common.{Ok, Some, ap, subst}
use Rattle.mysql_connection_machine.specs.Machines.{Machine}
use Rattle.mysql_connection_machine.specs.Writing.{IsReadFrom}
use Rattle.mysql_connection_writer.specs.Executions.{execution_said}
use Rattle.mysql_connection_machine.proofs.Knowing.{taken_known}
use Rattle.mysql_connection_machine.proofs.PutEvents.{read_put}
use Rattle.mysql_connection_machine.proofs.connection.Connection.put_execution.Goals as goal

pub returns-in-Ok-clause-read : goal.returns-in-Ok-clause-read
returns-in-Ok-clause-read c =
    subst (λ (m : Machine). IsReadFrom m.world
    (execution_said m.world.standing c.args.id c.args.values.now) c.args.out.now.items
    c.put_execution.new.out.items c.put_execution.new.self.world) c.self.view_is
    (read_put c.puts_are_read.ensures c.self.inside.reader c.put_execution.new.self _ c.args.out.now.items
    c.put_execution.new.out.items (Ok tt)
    (rw (← c.state.ensures, ← c.number-number.ensures) c.number-number.type_inv)
    c.in-Ok.ensures)

pub returns-in-Ok-clause-mode : goal.returns-in-Ok-clause-mode
returns-in-Ok-clause-mode c =
    taken_known c.put_execution.new.self.world.standing c.state-in-Ok.result.now.standing c.args.self.now.mode
    c.self.inside.mode c.mode_executed-self-inside.result
    (Some (execution_said c.args.self.now.world.standing c.args.id c.args.values.now))
    (ap (λ (m : Machine). m.mode) c.self.view_is)
    c.state-in-Ok.ensures c.mode_executed-self-inside.ensures

pub returns-in-Err-clause-mode : goal.returns-in-Err-clause-mode
returns-in-Err-clause-mode c = ap (λ (m : Machine). m.mode) c.self.view_is

use Rattle.mysql_connection_writer.proofs.Settled.{written}
use Rattle.mysql_connection_writer.proofs.executions.write_execution.Goals as goal

pub returns : goal.returns
returns c =
    written c.args.state.now.standing c.args.id c.args.statement.now c.args.values.now
    c.requires.phase c.requires.settled
    c.executions_read_back.ensures c.read_types_are_carried.ensures c.ranges.id.fits
    (rw (← c.count-count.ensures) c.count-count.type_inv) c.all_fields_fit.ensures
    c.capabilities.result c.parameters.result.now c.capabilities.ensures c.parameters.ensures
    c.args.out.now.items c.put_in_force.new.out.items c.put_in_force.result c.put_in_force.ensures

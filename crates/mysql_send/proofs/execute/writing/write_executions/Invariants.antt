use Rattle.mysql_command_rules.specs.declared.road.Road.TheVariants.{Execute}
use Rattle.mysql_command_rules.specs.Writing.{WrittenSoFar}
use Rattle.mysql_send.proofs.execute.writing.write_executions.Given as goal

abbrev pub invariant-sets : goal.invariant-sets
invariant-sets g l = WrittenSoFar Execute l.statement.sql l.sets l.statement.id l.limit
    (g.W.Write.contents l.fn.to) (g.W.Write.contents l.to) l.buffer.items l.set

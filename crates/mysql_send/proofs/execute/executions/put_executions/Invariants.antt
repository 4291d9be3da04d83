use Rattle.mysql_command_rules.specs.declared.road.Road.TheVariants.{Execute}
use Rattle.mysql_command_rules.specs.OneSet.{first_sets}
use Rattle.mysql_command_rules.specs.Reading.{SentReadable}
use Rattle.mysql_command_rules.specs.Sets.{all_given}
use Rattle.mysql_send.proofs.execute.executions.put_executions.Given as goal

abbrev pub invariant-sets : goal.invariant-sets
invariant-sets l = SentReadable Execute l.statement.sql (first_sets l.set (all_given l.sets))
    l.statement.id l.limit l.fn.out.items l.out.items

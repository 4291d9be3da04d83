use Rattle.mysql_command_rules.specs.declared.road.Road.TheVariants.{Execute}
use Rattle.mysql_command_rules.specs.MadeSets.{MadeUpTo}
use Rattle.mysql_command_rules.specs.OneSet.{first_sets}
use Rattle.mysql_command_rules.specs.Reading.{SentReadable}
use Rattle.mysql_send.proofs.execute.made_executions.put_made_executions.Given as goal

abbrev pub invariant-loop-number : goal.invariant-loop-number
invariant-loop-number g l =
    MadeUpTo (g.S.SetMaker.given l.sets) l.number
    × SentReadable Execute l.statement.sql (first_sets l.number (g.S.SetMaker.given l.sets))
    l.statement.id l.limit l.fn.out.items l.out.items

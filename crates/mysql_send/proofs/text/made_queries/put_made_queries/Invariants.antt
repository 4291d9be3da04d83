use Rattle.std.proofs.Common.{ℕ}
use Rattle.mysql_command_rules.specs.declared.road.Road.TheVariants.{Text}
use Rattle.mysql_command_rules.specs.MadeSets.{MadeUpTo}
use Rattle.mysql_command_rules.specs.OneSet.{first_sets}
use Rattle.mysql_command_rules.specs.Reading.{SentReadable}
use Rattle.mysql_send.proofs.text.made_queries.put_made_queries.Given as goal

abbrev pub invariant-loop-number : goal.invariant-loop-number
invariant-loop-number g l =
    MadeUpTo (g.S.SetMaker.given l.sets) l.number
    × ((id : ℕ) → SentReadable Text l.query.sql (first_sets l.number (g.S.SetMaker.given l.sets)) id
    l.limit l.fn.out.items l.out.items)

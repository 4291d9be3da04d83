use Rattle.std.proofs.Common.{ℕ}
use Rattle.mysql_command_rules.specs.declared.road.Road.TheVariants.{Text}
use Rattle.mysql_command_rules.specs.OneSet.{first_sets}
use Rattle.mysql_command_rules.specs.Reading.{SentReadable}
use Rattle.mysql_command_rules.specs.Sets.{all_given}
use Rattle.mysql_send.proofs.text.text_queries.put_queries.Given as goal

abbrev pub invariant-sets : goal.invariant-sets
invariant-sets l = (id : ℕ) →
    SentReadable Text l.query.sql (first_sets l.set (all_given l.sets)) id l.limit l.fn.out.items
    l.out.items

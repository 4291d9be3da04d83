use Rattle.std.proofs.Common.{ℕ}
use Rattle.mysql_command_rules.specs.declared.road.Road.TheVariants.{Text}
use Rattle.mysql_command_rules.specs.Writing.{WrittenSoFar}
use Rattle.mysql_send.proofs.text.writing.write_queries.Given as goal

abbrev pub invariant-sets : goal.invariant-sets
invariant-sets g l = (id : ℕ) →
    WrittenSoFar Text l.query.sql l.sets id l.limit (g.W.Write.contents l.fn.to)
    (g.W.Write.contents l.to) l.buffer.items l.set

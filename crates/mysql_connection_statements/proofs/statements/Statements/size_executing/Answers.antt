use Rattle.mysql_connection_statements.proofs.Totals.{executing_stored}
use Rattle.mysql_connection_statements.proofs.statements.Statements.size_executing.Goals as goal

pub returns-in-Some-clause-size : goal.returns-in-Some-clause-size
returns-in-Some-clause-size c = λ refused.
    rw (
      executing_stored c.args.self.now c.args.id c.in-Some.statement.now refused c.args.types.now (c.in-Some.ensures),
      ← c.size_executing-after.ensures.size c.args.id refused,
      ← c.size.ensures.size,
      ← c.stored.ensures,
    ) c.changed_sum.ensures.size

use Rattle.mysql_connection_statements.specs.Statements.{having_columns}
use Rattle.mysql_connection_statements.proofs.Totals.{changed_stored}
use Rattle.mysql_connection_statements.proofs.statements.Statements.size_with_columns.Goals as goal

pub returns-in-Some-clause-size : goal.returns-in-Some-clause-size
returns-in-Some-clause-size c = λ columns.
    rw (
      changed_stored c.args.self.now c.args.id c.in-Some.statement.now
          (having_columns columns c.args.size) (c.in-Some.ensures),
      ← c.size_with_columns-after.ensures.size columns,
      ← c.size.ensures.size,
      ← c.stored.ensures,
    ) c.changed_sum.ensures.size

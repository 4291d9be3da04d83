use Rattle.mysql_connection_statements.specs.Statements.{having_columns, taken_back}
use Rattle.mysql_connection_statements.proofs.Totals.{twice_stored}
use Rattle.mysql_connection_statements.proofs.statements.Statements.size_taken_back_with_columns.Goals as goal

pub returns-in-Some-clause-size : goal.returns-in-Some-clause-size
returns-in-Some-clause-size c = λ columns.
    rw (
      twice_stored c.args.self.now c.args.pending.now.id c.in-Some.statement.now
          (taken_back c.args.code c.args.pending.now)
          (having_columns columns c.args.size) c.in-Some.ensures,
      ← c.size_taken_back_with_columns-after.ensures.size columns,
      ← c.size.ensures.size,
      ← c.stored.ensures,
    ) c.changed_sum.ensures.size

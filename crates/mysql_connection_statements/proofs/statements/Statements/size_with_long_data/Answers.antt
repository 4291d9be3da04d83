use Rattle.mysql_connection_statements.specs.Statements.{with_long_data}
use Rattle.mysql_connection_statements.proofs.Totals.{changed_stored}
use Rattle.mysql_connection_statements.proofs.statements.Statements.size_with_long_data.Goals as goal

pub returns-in-Some-clause-size : goal.returns-in-Some-clause-size
returns-in-Some-clause-size c = λ bytes.
    rw (
      changed_stored c.args.self.now c.args.id c.in-Some.statement.now
          (with_long_data c.args.place bytes c.args.size) (c.in-Some.ensures),
      ← c.size_with_long_data-after.ensures.size bytes,
      ← c.size.ensures.size,
      ← c.stored.ensures,
    ) c.changed_sum.ensures.size

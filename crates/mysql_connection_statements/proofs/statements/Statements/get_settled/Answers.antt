use Rattle.std.proofs.Common.{sym}
use Rattle.mysql_connection_statements.proofs.Changes.{kept_in_place, own_id}
use Rattle.mysql_connection_statements.proofs.statements.Statements.get_settled.Goals as goal

pub returns-then-size-self : goal.returns-then-size-self
returns-then-size-self c =
    let known = c.in_ok-statement.ensures.value in (
      own_id c.args.self.now c.args.id c.if-id.false,
      rw (← c.self.view_is) (sym known),
      c.is_settled.ensures c.if-is_settled.true,
      rw (← c.self.view_is) (kept_in_place _ c.args.id c.in_ok-statement.statement.now c.len.ensures.ordered known
          (rw (← c.size.ensures.size) c.if-size-self.true)),
    )

use Rattle.mysql_stmt.specs.Executions.{type_bytes}
use Rattle.mysql_stmt.proofs.Lists.{appends_over}
use Rattle.mysql_stmt.proofs.execute.TypesMySerialize.serialize.Goals as goal

pub returns : goal.returns
returns c = appends_over (λ value. value.now) _ _ _ type_bytes _ c.put_types.ensures

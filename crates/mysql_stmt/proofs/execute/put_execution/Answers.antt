use Rattle.std.proofs.Common.{ℕ, map, ap, sym, ◌∙◌, Global, Vec}
use Rattle.mysql_stmt.proofs.Put.{execution_put}
use Rattle.mysql_stmt.proofs.execute.put_execution.Goals as goal

pub returns-else-is_err : goal.returns-else-is_err
returns-else-is_err g c =
    execution_put c.args.id (map g.V.HasValue.value c.args.values.now) c.args.apart
    c.put_parameters-put.result c.args.out.now.items c.replace-whole.result.items
    c.put_parameters-put.new.out.items c.head.result
    (sym c.is_err.ensures.value ∙ c.if-is_err.false) c.head.ensures
    (ap (λ (v : Vec ℕ Global). v.items) c.replace-whole.ensures.value ∙
    c.in_ok-extend_from_slice.ensures.items) c.put_parameters-put.ensures.ok

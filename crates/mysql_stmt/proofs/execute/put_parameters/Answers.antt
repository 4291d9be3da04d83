use Rattle.std.proofs.Common.{sym, ◌∙◌}
use Rattle.mysql_stmt.proofs.Put.{parameters_put, where_appended}
use Rattle.mysql_stmt.proofs.execute.put_parameters.Goals as goal

pub returns-clause-ok : goal.returns-clause-ok
returns-clause-ok g c =
    where_appended c.put_cells.result c.put_types.new.buf.items c.put_cells.new.buf.items _
    (λ put.
    parameters_put g.V.HasValue.value c.args.values.now c.args.apart c.args.out.now.items
    c.make_room.new.out.items c.push_reserved.new.self.items c.put_types.new.buf.items
    c.put_cells.new.buf.items _ (sym c.if-is_empty.false ∙ c.is_empty.ensures)
    (c.make_room.ensures.items ∙ c.in_ok-put_null_bitmap.ensures.ok) c.push_reserved.ensures.items
    c.in_ok-put_types.ensures put)
    c.put_cells.ensures

use Rattle.std.proofs.Common.{arith}
use Rattle.mysql_bulk_builder.proofs.RequestRows.{flat_count, new_view}
use Rattle.mysql_bulk_builder.proofs.request.ComStmtBulkExecuteRequest.new.Goals as goal

pub from_flat-requires : goal.from_flat-requires
from_flat-requires c =
    flat_count c.args.rows.items c.in_ok-values.values.items c.len-count.result c.in_ok-arity.arity
    (rw c.deref.ensures.value at c.in_ok-arity.ensures.ok.0) c.in_ok-values.ensures
    (omega (arith, c.len-count.ensures))
    (rw c.deref.ensures.value at c.in_ok-arity.ensures.ok.1)

pub returns-clause-ok : goal.returns-clause-ok
returns-clause-ok c =
    new_view _ c.args.stmt_id c.args.bulk_flags.0 c.len-count.result c.in_ok-arity.arity
    c.args.rows.items c.in_ok-values.values.items
    c.in_ok-values.ensures (omega (arith, c.len-count.ensures))
    (rw c.deref.ensures.value at c.in_ok-arity.ensures.ok.1) c.in_ok-made.ensures.ok

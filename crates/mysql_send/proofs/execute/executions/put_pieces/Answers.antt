use Rattle.std.proofs.Common.{arith}
use Rattle.mysql_send.proofs.Pieces.{all_pieces, next_piece, same_piece}
use Rattle.mysql_send.proofs.execute.executions.put_pieces.Goals as goal

pub values-preserved : goal.values-preserved
values-preserved g c =
    next_piece c.args.id g.V.HasValue.value c.args.values.now c.args.out.now.items
    c.values.out.items c.put_piece.new.out.items c.values.place _ c.index-values-place.result
    c.values.invariant c.values-test.true c.index-values-place.is
    (omega arith) (same_piece c.args.id _ c.values.out.items c.put_piece.new.out.items
    c.value.result.now (g.V.HasValue.value c.index-values-place.result) c.value.ensures
    c.in_ok-put_piece.ensures.ok)

pub returns-clause-ok : goal.returns-clause-ok
returns-clause-ok g c = all_pieces c.args.id g.V.HasValue.value c.args.values.now
    c.args.out.now.items c.values.out.items c.values.place c.values.invariant (omega arith)

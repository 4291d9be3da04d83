use Rattle.std.proofs.Common.{◌+◌, inl, arith, subst, Some, sym}
use Rattle.std.specs.Prelude.{unwrap_or}
use Rattle.mysql_bulk_builder.specs.Builder.{Builder, HasOneMore, LacksRoom}
use Rattle.mysql_bulk_builder.specs.BuilderView.{builder_of, values_in}
use Rattle.mysql_bulk_builder.proofs.Kept.{length_rows, has_beside}
use Rattle.mysql_bulk_builder.proofs.builder.ComStmtBulkExecuteRequestBuilder.with_one_more.Goals as goal

pub returns-then-self : goal.returns-then-self
returns-then-self c =
    subst (λ (b : Builder). LacksRoom b c.args.row.now) c.self.view_is
    (inl (omega (
      arith,
      c.if-self.true,
      length_rows c.self.inside.count (unwrap_or c.self.inside.arity 0)
          (values_in c.self.inside.values.items),
    )))

pub returns : goal.returns
returns c =
    subst (λ (b : Builder). HasOneMore b c.args.row.now
    (Some (c.self.inside.held + c.in_ok-size.size, c.self.inside.count + 1))) c.self.view_is
    (has_beside (builder_of c.self.inside) c.args.row.now c.self.inside.held c.self.inside.count
    c.in_ok-size.size c.self.invariant.bytes
    (sym (length_rows c.self.inside.count (unwrap_or c.self.inside.arity 0)
    (values_in c.self.inside.values.items))) (omega (arith, c.if-self.false))
    c.in_ok-size.ensures.0 c.in_ok-size.ensures.1)

use Rattle.std.proofs.Common.{◌∙◌, ap, arith, length}
use Rattle.std.specs.Prelude.{unwrap_or}
use Rattle.mysql_bulk_builder.specs.Builder.{Builder, request_of}
use Rattle.mysql_bulk_builder.specs.BuilderView.{values_in}
use Rattle.mysql_bulk_builder.specs.RequestView.{execution_of}
use Rattle.mysql_bulk_builder.proofs.Kept.{execution_is, length_rows}
use Rattle.mysql_bulk_builder.proofs.builder.ComStmtBulkExecuteRequestBuilder.build.Goals as goal

pub returns-clause-built : goal.returns-clause-built
returns-clause-built c =
    c.in_ok-request.ensures.ok ∙
    execution_is c.self.inside c.bulk_flags.result.0 c.unwrap_or.result c.self.invariant
    (omega (arith, c.if-self-eq0.false)) c.bulk_flags.ensures c.unwrap_or.ensures ∙
    ap (λ (b : Builder). execution_of (request_of b)) c.self.view_is

pub returns-clause-some : goal.returns-clause-some
returns-clause-some c = λ none.
    omega (
      arith,
      c.if-self-eq0.false,
      length_rows c.self.inside.count (unwrap_or c.self.inside.arity 0)
          (values_in c.self.inside.values.items),
      ap (λ (b : Builder). length b.rows) c.self.view_is,
      ap length none,
    )

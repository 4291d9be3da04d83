use Rattle.std.proofs.Common.{◌∙◌, sym}
use Rattle.mysql_bulk_builder.specs.contracts.param_value.StmtBulkExecuteParamValuePartialEq.TheImpl.{ghosts}
use Rattle.mysql_bulk_builder.specs.SameBuilder.{same_builder}
use Rattle.mysql_bulk_builder.proofs.Kept.{same_by_fields}
use Rattle.mysql_bulk_builder.proofs.builder.ComStmtBulkExecuteRequestBuilderPartialEq.eq.Goals as goal

pub returns : goal.returns
returns c =
    c.same_fields.ensures ∙
    sym (same_by_fields ghosts.eq c.self.inside c.other.inside c.deref.result.now
    c.deref-2.result.now c.self.invariant c.other.invariant c.deref.ensures.value
    c.deref-2.ensures.value) ∙
    (λ i. same_builder ghosts.eq (c.self.view_is i) (c.other.view_is i))

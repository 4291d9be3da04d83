use Rattle.std.proofs.Common.{Option, Some, arith, subst, ℕ}
use Rattle.mysql_send.proofs.Pieces.{not_empty}
use Rattle.mysql_send.proofs.PlainSizes.{FoundPlain, plain_none, plain_size}
use Rattle.mysql_send.proofs.execute.executions.put_values.Goals as goal

pub put_short-requires-clause-size : goal.put_short-requires-clause-size
put_short-requires-clause-size g c =
    plain_size c.executions_have_sizes.ensures g.V.HasValue.value c.args.values.now c.min.result
    (not_empty c.args.values.now c.is_empty.result c.is_empty.ensures c.if-not-is_empty.true)
    (Some c.in-Some.size)
    (subst (λ (found : Option ℕ). FoundPlain g.V.HasValue.value c.args.values.now c.min.result
    found) c.in-Some.is c.size_without_floats.ensures) c.args.id

pub returns-in-Some-clause-ok : goal.returns-in-Some-clause-ok
returns-in-Some-clause-ok g c = record {
  none = plain_none c.executions_have_sizes.ensures g.V.HasValue.value c.args.values.now
      c.args.places c.args.room c.min.result
      (not_empty c.args.values.now c.is_empty.result c.is_empty.ensures c.if-not-is_empty.true)
      (omega arith) (omega arith) (Some c.in-Some.size)
      (subst (λ (found : Option ℕ). FoundPlain g.V.HasValue.value c.args.values.now c.min.result
      found) c.in-Some.is c.size_without_floats.ensures) c.args.set c.args.id;
  fit = c.values_fit.ensures;
  appended = c.in_ok-put_short.ensures.ok;
}

use Rattle.std.proofs.Common.{◌≡◌, ◌++◌, ◌∷◌, [], sym, ap, ◌∙◌, append_assoc, arith}
use Rattle.std.proofs.lemmas.List.{length_push}
use Rattle.std.proofs.lemmas.Result.{err_from_is_err_and}
use Rattle.mysql_field_lists.specs.NullBitmap.{is_null_at}
use Rattle.mysql_executions.specs.Executions.{attribute_at, attributes_at}
use Rattle.mysql_executions.proofs.Loops.{each_goes_on, each_fails, each_done, fails_as, nothing_left}
use Rattle.mysql_executions.proofs.value_reading.read_attributes.Goals as goal

pub returns-in_err-next : goal.returns-in_err-next
returns-in_err-next c =
    let p = err_from_is_err_and c.from_residual-in_err-next.result c.from_residual-in_err-next.ensures.1 in
    let read = attribute_at (is_null_at 0 c.args.nulls.now c.loop-bound_type.place)
    c.in-Some.bound_type c.loop-bound_type.rest.now in
    rw (p.1, p.2) (each_fails (λ at t b. attribute_at (is_null_at 0 c.args.nulls.now at) t b)
    c.loop-bound_type.attributes.items c.loop-bound_type.place
    c.loop-bound_type.bound_type-iterator.rest.items c.loop-bound_type.rest.now
    (attributes_at c.args.nulls.now c.args.first c.args.types.items c.args.bytes.now)
    c.in_err-next.field-0.0 c.in-Some.bound_type c.next.new.self.rest.items
    c.in-Some.ensures.steps.0
    (fails_as c.in_err-next.field-0.0
    (attribute_at c.is_null-null.result c.in-Some.bound_type c.loop-bound_type.rest.now) read
    (ap (λ b. attribute_at b c.in-Some.bound_type c.loop-bound_type.rest.now)
    (sym c.is_null-null.ensures)) c.in_err-next.ensures)
    c.loop-bound_type.invariant.2)

pub loop-bound_type-preserved : goal.loop-bound_type-preserved
loop-bound_type-preserved c =
    let e : c.push.new.self.items ≡ c.loop-bound_type.attributes.items ++ c.in_ok-next.next ∷ [] =
    c.in_ok-push.ensures.items in (
      c.loop-bound_type.invariant.0 ∙
          ap (λ l. c.loop-bound_type.yielded ++ l) c.in-Some.ensures.steps.0 ∙
          sym (append_assoc c.loop-bound_type.yielded (c.in-Some.bound_type ∷
          []) c.next.new.self.rest.items),
      omega (arith, c.loop-bound_type.invariant.1, length_push c.loop-bound_type.yielded c.in-Some.bound_type),
      rw e (each_goes_on (λ at t b. attribute_at (is_null_at 0 c.args.nulls.now at) t b)
          c.loop-bound_type.attributes.items c.loop-bound_type.place
          c.loop-bound_type.bound_type-iterator.rest.items c.loop-bound_type.rest.now
          (attributes_at c.args.nulls.now c.args.first c.args.types.items c.args.bytes.now)
          c.in-Some.bound_type c.next.new.self.rest.items c.in_ok-next.next
          c.in_ok-next.after.now c.in-Some.ensures.steps.0
          (ap (λ b. attribute_at b c.in-Some.bound_type c.loop-bound_type.rest.now)
          (sym c.is_null-null.ensures) ∙ c.in_ok-next.ensures)
          c.loop-bound_type.invariant.2),
    )

pub returns : goal.returns
returns c =
    each_done (λ at t b. attribute_at (is_null_at 0 c.args.nulls.now at) t b)
    c.loop-bound_type.attributes.items c.loop-bound_type.place
    c.loop-bound_type.bound_type-iterator.rest.items c.loop-bound_type.rest.now
    (attributes_at c.args.nulls.now c.args.first c.args.types.items c.args.bytes.now)
    (nothing_left c.loop-bound_type.bound_type-iterator.rest.items
    (omega (arith, c.in-None.ensures.steps.0, c.loop-bound_type.bound_type-iterator.rest.ok.0)))
    c.loop-bound_type.invariant.2

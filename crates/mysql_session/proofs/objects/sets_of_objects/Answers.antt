use Rattle.std.proofs.Common.{◌≡◌, Some, map, subst, arith}
use Rattle.mysql_convert.specs.Sets.{IsMadeOf, too_long}
use Rattle.mysql_convert.specs.Sets.Parts.{InOrder}
use Rattle.mysql_session.proofs.ObjectSets.{made_all, made_before, made_next}
use Rattle.mysql_session.proofs.objects.sets_of_objects.Goals as goal

pub loop-list-preserved : goal.loop-list-preserved
loop-list-preserved g c =
    let made = rw c.in-Ok.is at c.in_ok-params.ensures.made in
    record {
      made = rw c.push_reserved.ensures.items
          (made_next (λ list. map (λ object.
          (goal.ToValue-dyn g (object.vtable, object.value)).as_value object.value) list.items)
          c.args.lists.now c.loop-list.list-index c.list-item.result c.loop-list.sets.items
          c.in-Ok.params c.loop-list-test.true c.list-item.is c.loop-list.invariant.made
          (subst (λ objects. IsMadeOf
          (InOrder (map (λ object. (goal.ToValue-dyn g (object.vtable, object.value)).as_value
          object.value) objects)) c.in-Ok.params) c.deref.ensures.value made));
      room = omega arith;
    }

pub returns-in-Err-clause-made : goal.returns-in-Err-clause-made
returns-in-Err-clause-made g c =
    let long = rw c.in-Err.is at c.in_ok-params.ensures.made in
    made_before (λ list. map (λ object. (goal.ToValue-dyn g (object.vtable, object.value)).as_value
    object.value) list.items) c.args.lists.now c.loop-list.list-index c.list-item.result
    c.loop-list.sets.items c.in-Err.error c.loop-list-test.true c.list-item.is
    c.loop-list.invariant.made
    (subst (λ objects. too_long 0
    (map (λ object. (goal.ToValue-dyn g (object.vtable, object.value)).as_value object.value)
    objects) ≡ Some c.in-Err.error) c.deref.ensures.value long)

pub returns-clause-made : goal.returns-clause-made
returns-clause-made g c =
    made_all (λ list. map (λ object. (goal.ToValue-dyn g (object.vtable, object.value)).as_value
    object.value) list.items) c.args.lists.now c.loop-list.list-index c.loop-list.sets.items
    (omega (arith, c.loop-list-test.false)) c.loop-list.invariant.made

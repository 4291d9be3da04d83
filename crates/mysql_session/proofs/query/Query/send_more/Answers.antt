use Rattle.std.proofs.Common.{◌-◌, ◌<◌, ◌^◌, ◌∙◌, List, arith, length, map, subst, ℕ}
use Rattle.std.specs.Prelude.{OnOk}
use Rattle.mysql_wire.specs.Bytes.{AreBytes}
use Rattle.mysql_send.specs.Executions.{AppendsMore}
use Rattle.mysql_session.specs.Kept.{AppendsFurther, KeptQuery}
use Rattle.mysql_session.proofs.OnAnswers.{on_ok}
use Rattle.mysql_session.proofs.query.Query.send_more.Goals as goal

pub returns-else-is_err-clause-delivered : goal.returns-else-is_err-clause-delivered
returns-else-is_err-clause-delivered c =
    let sent = c.put_more_executions-sent in
    let sets = map (λ set. set.items) c.args.sets.now in
    let old = c.args.out.now.items in
    let is = c.place_count-places.ensures.is in
    let count = c.place_count-places.ensures.count ∙ is.count in
    let id = c.self.inside.statement.id in
    on_ok sent.result
    (λ appends before start delivery number. c.further_sets_are_delivered.ensures c.args.self.now
    before c.args.limit c.args.first sets start old sent.new.out.items
    (subst (λ (k : KeptQuery). k.id < 2 ^ 32) c.self.view_is (omega arith)) c.requires.limit
    (subst (λ (l : List ℕ). length l < 2 ^ 64) c.as_slice.ensures.value c.are_bytes.ensures.few)
    (subst (λ (l : List ℕ). AreBytes l) c.as_slice.ensures.value c.are_bytes.ensures.bytes)
    delivery number appends)
    (subst (λ (k : KeptQuery). OnOk sent.result
    (AppendsFurther k c.args.limit c.args.first sets old sent.new.out.items)) c.self.view_is
    (on_ok sent.result
    (λ appends. record {
      tokens = is.tokens;
      has = is.has;
      few = omega (arith, count);
      appends = subst (λ (n : ℕ). AppendsMore id (record { places = n; bytes = c.args.limit - 4 })
          c.args.first sets old sent.new.out.items) count
          (subst (λ (n : ℕ). AppendsMore n
          (record { places = c.place_count-places.result; bytes = c.args.limit - 4 })
          c.args.first sets old sent.new.out.items) c.id-id.ensures appends);
    })
    sent.ensures.ok))

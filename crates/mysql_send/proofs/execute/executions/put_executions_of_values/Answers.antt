use Rattle.std.proofs.Common.{map, ◌-◌}
use Rattle.mysql_send.specs.Executions.{AppendsMore, RefusesMore}
use Rattle.mysql_send.proofs.Lists.{on_err, on_ok}
use Rattle.mysql_send.proofs.Statements.{all_refused, all_sent, said_over}
use Rattle.mysql_send.proofs.execute.executions.put_executions_of_values.Goals as goal

pub returns-clause-ok : goal.returns-clause-ok
returns-clause-ok c =
    let s = c.args.statement.now in
    on_ok c.put_value_sets.result
    (λ sent. all_sent c.tokens_of_a_text.ensures.one s.sql s.parsed s.places
    c.place_count.ensures.is s.id c.args.limit (map (λ set. set.items) c.args.sets.now)
    c.args.out.now.items c.put_prepare.new.out.items
    c.in_ok-put_prepare.ensures.ok c.sent_in_turn.ensures c.further_sets_are_sent.ensures c.put_value_sets.new.out.items
    (said_over (λ id places. AppendsMore id (record { places = places; bytes = c.args.limit - 4 }) 0
    (map (λ set. set.items) c.args.sets.now) c.put_prepare.new.out.items
    c.put_value_sets.new.out.items) c.id.result s.id c.place_count.result s.places c.id.ensures
    c.place_count.ensures.count sent))
    c.put_value_sets.ensures.ok

pub returns-clause-err : goal.returns-clause-err
returns-clause-err c =
    let s = c.args.statement.now in
    on_err c.put_value_sets.result
    (λ refusal why. all_refused c.tokens_of_a_text.ensures.one s.sql s.parsed s.places
    c.place_count.ensures.is s.id c.args.limit (map (λ set. set.items) c.args.sets.now)
    c.args.out.now.items c.put_prepare.new.out.items
    c.in_ok-put_prepare.ensures.ok refusal
    (said_over (λ id places. RefusesMore id (record { places = places; bytes = c.args.limit - 4 }) 0
    (map (λ set. set.items) c.args.sets.now) refusal) c.id.result s.id c.place_count.result
    s.places c.id.ensures c.place_count.ensures.count why))
    c.put_value_sets.ensures.err

use Rattle.std.proofs.Common.{map, subst, sym, ◌≢◌, ◌∙◌, ◌-◌, ℕ}
use Rattle.std.specs.Cow.{cow_slice_items}
use Rattle.std.proofs.lemmas.Result.{err_from_is_err_and}
use Rattle.mysql_command_rules.specs.Sets.{given_up_to}
use Rattle.mysql_send.specs.BulkSets.{AppendsAll, RefusesAll}
use Rattle.mysql_send.proofs.Lists.{kept_on, on_err, on_ok}
use Rattle.mysql_send.proofs.SentRequests.{all_requested, refused_all, refused_no_places, refused_prepare, said_over}
use Rattle.mysql_send.proofs.bulk.requests.put_requests.Goals as goal

pub returns-in_err-put_prepare-clause-err : goal.returns-in_err-put_prepare-clause-err
returns-in_err-put_prepare-clause-err c =
    let p = err_from_is_err_and c.from_residual.result c.from_residual.ensures.1 in
    let s = c.args.statement.now in
    rw (p.1, p.2) (refused_prepare s.sql (given_up_to c.args.sets.now c.args.stop) s.id c.args.limit
    c.in_err-put_prepare.field-0.0 c.in_err-put_prepare.ensures.err)

pub returns-then-target-eq0-clause-err : goal.returns-then-target-eq0-clause-err
returns-then-target-eq0-clause-err c =
    let s = c.args.statement.now in
    refused_no_places c.tokens_of_a_text.ensures.one s.sql s.parsed s.places
    c.place_count.ensures.is c.args.sets.now c.args.stop s.id c.args.limit c.args.out.now.items
    c.put_prepare.new.out.items c.in_ok-put_prepare.ensures.ok
    (sym c.place_count.ensures.count ∙ c.if-target-eq0.true)

pub returns-clause-ok : goal.returns-clause-ok
returns-clause-ok c =
    let s = c.args.statement.now in
    let mid = c.put_prepare.new.out.items in
    let some = subst (λ (n : ℕ). n ≢ 0) c.place_count.ensures.count c.if-target-eq0.false in
    on_ok c.put_sets.result (λ all.
    let here = said_over (λ id places names. AppendsAll id
    (record { places = places; bytes = c.args.limit - 4 })
    (given_up_to c.args.sets.now c.args.stop names) mid c.put_sets.new.out.items)
    c.id.result s.id c.place_count.result s.places (map cow_slice_items c.names.result.now)
    s.parsed.names c.id.ensures c.place_count.ensures.count c.names.ensures all in
    all_requested c.tokens_of_a_text.ensures.one s.sql s.parsed s.places c.place_count.ensures.is
    c.args.sets.now c.args.stop s.id c.args.limit c.args.out.now.items mid
    c.in_ok-put_prepare.ensures.ok
    here.rows here.gives some c.put_sets.new.out.items here.sent) c.put_sets.ensures.ok

pub returns-clause-err : goal.returns-clause-err
returns-clause-err c =
    let s = c.args.statement.now in
    let some = subst (λ (n : ℕ). n ≢ 0) c.place_count.ensures.count c.if-target-eq0.false in
    on_err c.put_sets.result (λ refusal why.
    refused_all c.tokens_of_a_text.ensures.one s.sql s.parsed s.places c.place_count.ensures.is
    c.args.sets.now c.args.stop s.id c.args.limit c.args.out.now.items
    c.put_prepare.new.out.items c.in_ok-put_prepare.ensures.ok some refusal
    (said_over (λ id places names. RefusesAll (record { places = places; bytes = c.args.limit - 4 })
    (given_up_to c.args.sets.now c.args.stop names) refusal)
    c.id.result s.id c.place_count.result s.places (map cow_slice_items c.names.result.now)
    s.parsed.names c.id.ensures c.place_count.ensures.count c.names.ensures why))
    c.put_sets.ensures.err

pub returns-clause-kept : goal.returns-clause-kept
returns-clause-kept c = kept_on c.args.out.now.items c.put_prepare.new.out.items
    c.put_sets.new.out.items c.put_prepare.ensures.kept c.put_sets.ensures.kept

use Rattle.std.proofs.Common.{subst, sym, ℕ}
use Rattle.mysql_values.specs.Sql.{Sql, read_by}
use Rattle.mysql_recoding.specs.AsItComes.{RefusesQuery}
use Rattle.mysql_recoding.specs.Causes.{error_for}
use Rattle.mysql_recoding.specs.Steps.{CanBePrepared}
use Rattle.mysql_recoding.proofs.QueryCauses.{can_be_prepared, not_prepared}
use Rattle.mysql_recoding.proofs.recoder.prepared.Goals as goal

pub returns-in-Ok-put_prepare-clause-ok : goal.returns-in-Ok-put_prepare-clause-ok
returns-in-Ok-put_prepare-clause-ok c =
    let s = c.in-Ok.statement in
    let new = c.put_prepare.new.out.items in
    subst (λ (n : ℕ). CanBePrepared (read_by c.args.mode c.args.spelling c.args.query.now)
    c.args.stmt_id c.args.limit n new) (sym c.place_count.ensures.count)
    (subst (λ (id : ℕ). CanBePrepared (read_by c.args.mode c.args.spelling c.args.query.now) id
    c.args.limit s.places new) c.in-Ok.ensures.made.id_is
    (subst (λ (query : Sql). CanBePrepared query s.id c.args.limit s.places new) c.in-Ok.ensures.made.sql_is
    (can_be_prepared c.tokens_of_a_text.ensures.one s.sql s.parsed s.places c.place_count.ensures.is
    s.id c.args.limit c.new-prepare.result.items new c.new-prepare.ensures.items
    c.in-Ok-put_prepare.ensures.ok)))

pub returns-clause-err : goal.returns-clause-err
returns-clause-err c =
    let s = c.in-Ok.statement in
    let refusal = c.in-Err-put_prepare.refusal in
    rw c.refused-in-Err-put_prepare.ensures
    (subst (λ (id : ℕ). RefusesQuery (read_by c.args.mode c.args.spelling c.args.query.now) id
    c.args.limit (error_for refusal)) c.in-Ok.ensures.made.id_is
    (subst (λ (query : Sql). RefusesQuery query s.id c.args.limit (error_for refusal)) c.in-Ok.ensures.made.sql_is
    (not_prepared s.sql s.id c.args.limit refusal c.in-Err-put_prepare.ensures.err)))

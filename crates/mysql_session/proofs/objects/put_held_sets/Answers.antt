use Rattle.std.proofs.Common.{List, subst}
use Rattle.std.specs.Prelude.{IfErr, OnOk}
use Rattle.mysql_values.specs.Sql.{read_by_default}
use Rattle.mysql_values.specs.declared.params.Params.{Params}
use Rattle.mysql_command_rules.specs.Reading.{SentReadable}
use Rattle.mysql_command_rules.specs.Sending.{RefusesGiven}
use Rattle.mysql_command_rules.specs.Sets.{given_up_to}
use Rattle.mysql_command_rules.specs.declared.road.Road.TheVariants as roads
use Rattle.mysql_session.proofs.OnAnswers.{on_err, on_ok, over_same}
use Rattle.mysql_session.proofs.ObjectSets.{refused, sent}
use Rattle.mysql_session.proofs.objects.put_held_sets.Goals as goal

pub returns-clause-err : goal.returns-clause-err
returns-clause-err g c =
    on_err c.put_requests.result
    (refused roads.Bulk (read_by_default c.args.query.now) _ c.in_ok-sets.field-0.sets.items
    c.args.stmt_id c.args.limit c.in_ok-sets.field-0.refusal c.in_ok-sets.ensures.made)
    (over_same (λ sql id. IfErr c.put_requests.result
    (RefusesGiven roads.Bulk sql
    (given_up_to c.in_ok-sets.field-0.sets.items c.in_ok-sets.field-0.refusal) id c.args.limit))
    _ _ _ _ c.in_ok-statement.ensures.made.sql_is c.in_ok-statement.ensures.made.id_is
    (subst (λ (l : List Params). IfErr c.put_requests.result
    (RefusesGiven roads.Bulk c.in_ok-statement.statement.sql
    (given_up_to l c.in_ok-sets.field-0.refusal) c.in_ok-statement.statement.id c.args.limit))
    c.deref.ensures.value c.put_requests.ensures.err))

pub returns-clause-ok : goal.returns-clause-ok
returns-clause-ok g c =
    on_ok c.put_requests.result
    (λ is. (sent roads.Bulk (read_by_default c.args.query.now) _ c.in_ok-sets.field-0.sets.items
    c.args.stmt_id c.args.limit c.in_ok-sets.field-0.refusal c.args.out.now.items
    c.put_requests.new.out.items c.in_ok-sets.ensures.made is))
    (over_same (λ sql id. OnOk c.put_requests.result
    (SentReadable roads.Bulk sql
    (given_up_to c.in_ok-sets.field-0.sets.items c.in_ok-sets.field-0.refusal) id c.args.limit
    c.args.out.now.items c.put_requests.new.out.items)) _ _ _ _
    c.in_ok-statement.ensures.made.sql_is c.in_ok-statement.ensures.made.id_is
    (subst (λ (l : List Params). OnOk c.put_requests.result
    (SentReadable roads.Bulk c.in_ok-statement.statement.sql
    (given_up_to l c.in_ok-sets.field-0.refusal) c.in_ok-statement.statement.id c.args.limit
    c.args.out.now.items c.put_requests.new.out.items)) c.deref.ensures.value
    c.put_requests.ensures.ok))

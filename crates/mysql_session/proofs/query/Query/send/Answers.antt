use Rattle.std.proofs.Common.{◌<◌, ◌^◌, List, arith, length, subst, ℕ}
use Rattle.std.specs.Prelude.{IfErr, OnOk}
use Rattle.mysql_wire.specs.Bytes.{AreBytes}
use Rattle.mysql_values.specs.Sql.{Sql}
use Rattle.mysql_command_rules.specs.declared.road.Road.TheVariants.{Text}
use Rattle.mysql_command_rules.specs.Reading.{SentReadable}
use Rattle.mysql_command_rules.specs.Sending.{RefusesGiven}
use Rattle.mysql_command_rules.specs.Sets.{all_given}
use Rattle.mysql_session.specs.Kept.{KeptQuery}
use Rattle.mysql_session.proofs.OnAnswers.{on_err, on_ok}
use Rattle.mysql_session.proofs.OneKind.{never_mixed}
use Rattle.mysql_session.proofs.query.Query.send.Goals.{in-Bulk, in-Execute, in-Text}
use Rattle.mysql_session.proofs.query.Query.send.Goals as goal

pub returns-else-is_err-clause-delivered : goal.returns-else-is_err-clause-delivered
returns-else-is_err-clause-delivered c =
    let query = c.self.inside in
    let old = c.args.out.now.items in
    on_ok c.match-road.sent
    (λ sent. c.readable_sets_are_delivered.ensures c.args.road c.args.self.now.sql _
    c.args.self.now.id c.args.limit old c.match-road.out.items
    (subst (λ (k : KeptQuery). k.id < 2 ^ 32) c.self.view_is (omega arith)) c.requires
    (subst (λ (l : List ℕ). length l < 2 ^ 64) c.as_slice.ensures.value c.are_bytes.ensures.few)
    (subst (λ (l : List ℕ). AreBytes l) c.as_slice.ensures.value c.are_bytes.ensures.bytes)
    sent)
    (subst (λ (k : KeptQuery). OnOk c.match-road.sent
    (SentReadable c.args.road k.sql (all_given c.args.sets.now) k.id c.args.limit old
    c.match-road.out.items)) c.self.view_is
    (elim c.match-road.branch [
      | in-Text w ↦ rw (
        w.sent-is,
        w.out-is,
        w.in-Text.is,
      ) (on_ok w.put_queries-sent.result
          (λ sent. subst (λ (sql : Sql). SentReadable Text sql (all_given c.args.sets.now)
          query.statement.id c.args.limit old w.put_queries-sent.new.out.items) w.query.ensures.text
          (sent query.statement.id)) w.put_queries-sent.ensures.ok)
      | in-Execute w ↦ rw (w.sent-is, w.out-is, w.in-Execute.is) w.put_executions-sent.ensures.ok
      | in-Bulk w ↦ rw (w.sent-is, w.out-is, w.in-Bulk.is) w.put_requests-sent.ensures.ok
    ]))

pub returns-then-is_err-clause-refused : goal.returns-then-is_err-clause-refused
returns-then-is_err-clause-refused c =
    let query = c.self.inside in
    subst (λ (k : KeptQuery). IfErr c.match-road.sent
    (RefusesGiven c.args.road k.sql (all_given c.args.sets.now) k.id c.args.limit))
    c.self.view_is
    (elim c.match-road.branch [
      | in-Text w ↦ rw (
        w.sent-is,
        w.in-Text.is,
      ) (on_err w.put_queries-sent.result
          (λ refusal why. subst (λ (sql : Sql). RefusesGiven Text sql (all_given c.args.sets.now)
          query.statement.id c.args.limit refusal) w.query.ensures.text (why query.statement.id))
          w.put_queries-sent.ensures.err)
      | in-Execute w ↦ rw (w.sent-is, w.in-Execute.is) w.put_executions-sent.ensures.err
      | in-Bulk w ↦ rw (w.sent-is, w.in-Bulk.is) w.put_requests-sent.ensures.err
    ])

pub returns-then-is_err-clause-never_mixed : goal.returns-then-is_err-clause-never_mixed
returns-then-is_err-clause-never_mixed c =
    on_err c.match-road.sent
    (λ refusal why. never_mixed c.tokens_of_a_text.ensures.one c.args.road c.args.self.now.sql
    (all_given c.args.sets.now) c.args.self.now.id c.args.limit refusal
    c.text-text.ensures.one_kind why)
    (returns-then-is_err-clause-refused c)

use Rattle.std.proofs.Common.{◌≡◌, ◌<◌, ◌^◌, ◌∙◌, List, Result, Ok, Err, ap, arith, length, subst, take, ℕ}
use Rattle.std.specs.Prelude.{IfErr, OnErr, OnOk}
use Rattle.mysql_wire.specs.Bytes.{AreBytes}
use Rattle.mysql_values.specs.Sql.{Sql, read_by_default}
use Rattle.mysql_command_rules.specs.declared.road.Road.TheVariants.{Bulk, Execute, Text}
use Rattle.mysql_command_rules.specs.Reading.{SentReadable}
use Rattle.mysql_command_rules.specs.Sending.{RefusesGiven}
use Rattle.mysql_command_rules.specs.Sets.{all_given}
use Rattle.mysql_session.proofs.OnAnswers.{on_err, on_ok, over_same}
use Rattle.mysql_session.proofs.sender.send.Goals.{in-Text+in_ok-query-in-Text}
use Rattle.mysql_session.proofs.sender.send.Goals.{in-Execute+in_ok-statement-in-Execute+in-Owned-1}
use Rattle.mysql_session.proofs.sender.send.Goals.{in-Execute+in_ok-statement-in-Execute+in-Borrowed-1}
use Rattle.mysql_session.proofs.sender.send.Goals.{in-Bulk+in_ok-statement-in-Bulk+in-Owned-1}
use Rattle.mysql_session.proofs.sender.send.Goals.{in-Bulk+in_ok-statement-in-Bulk+in-Borrowed-1}
use Rattle.mysql_session.proofs.sender.send.Goals as goal

pub returns-then-is_err-clause-refused : goal.returns-then-is_err-clause-refused
returns-then-is_err-clause-refused c =
    elim c.match-road.branch [
      | in-Text+in_ok-query-in-Text w ↦ rw (
        w.sent-is,
        w.in-Text.is,
      ) (on_err w.put_queries-sent.result
          (λ refusal why. subst (λ (query : Sql). RefusesGiven Text query
          (all_given c.args.sets.now) c.args.stmt_id c.args.limit refusal)
          w.in_ok-query-in-Text.ensures.text (why c.args.stmt_id)) w.put_queries-sent.ensures.err)
      | in-Execute+in_ok-statement-in-Execute+in-Owned-1 w ↦ rw (
        w.sent-is,
        w.in-Execute.is,
      ) (over_same
          (λ query id. IfErr w.put_executions-sent.result
          (RefusesGiven Execute query (all_given c.args.sets.now) id c.args.limit)) _ _ _ _
          w.in_ok-statement-in-Execute.ensures.made.sql_is
          w.in_ok-statement-in-Execute.ensures.made.id_is w.put_executions-sent.ensures.err)
      | in-Execute+in_ok-statement-in-Execute+in-Borrowed-1 w ↦ rw (
        w.sent-is,
        w.in-Execute.is,
      ) (over_same
          (λ query id. IfErr w.put_executions-sent.result
          (RefusesGiven Execute query (all_given c.args.sets.now) id c.args.limit)) _ _ _ _
          w.in_ok-statement-in-Execute.ensures.made.sql_is
          w.in_ok-statement-in-Execute.ensures.made.id_is w.put_executions-sent.ensures.err)
      | in-Bulk+in_ok-statement-in-Bulk+in-Owned-1 w ↦ rw (
        w.sent-is,
        w.in-Bulk.is,
      ) (over_same (λ query id. IfErr w.put_requests-sent.result
          (RefusesGiven Bulk query (all_given c.args.sets.now) id c.args.limit)) _ _ _ _
          w.in_ok-statement-in-Bulk.ensures.made.sql_is w.in_ok-statement-in-Bulk.ensures.made.id_is
          w.put_requests-sent.ensures.err)
      | in-Bulk+in_ok-statement-in-Bulk+in-Borrowed-1 w ↦ rw (
        w.sent-is,
        w.in-Bulk.is,
      ) (over_same (λ query id. IfErr w.put_requests-sent.result
          (RefusesGiven Bulk query (all_given c.args.sets.now) id c.args.limit)) _ _ _ _
          w.in_ok-statement-in-Bulk.ensures.made.sql_is w.in_ok-statement-in-Bulk.ensures.made.id_is
          w.put_requests-sent.ensures.err)
    ]

-- what holds whatever the answer holds of an error
whatever : {E P : Type 0} (answer : Result (Unit {0}) E) → P → OnErr answer P
whatever (Ok done) holds = tt
whatever (Err error) holds = holds

pub returns-then-is_err-clause-kept : goal.returns-then-is_err-clause-kept
returns-then-is_err-clause-kept c =
    let old = c.args.out.now.items in
    let front : take (length old) c.match-road.out.items ≡ old = elim c.match-road.branch [
      | in-Text+in_ok-query-in-Text w ↦ rw (w.out-is) w.put_queries-sent.ensures.kept
      | in-Execute+in_ok-statement-in-Execute+in-Owned-1 w ↦ rw (w.out-is) w.put_executions-sent.ensures.kept
      | in-Execute+in_ok-statement-in-Execute+in-Borrowed-1 w ↦ rw (w.out-is) w.put_executions-sent.ensures.kept
      | in-Bulk+in_ok-statement-in-Bulk+in-Owned-1 w ↦ rw (w.out-is) w.put_requests-sent.ensures.kept
      | in-Bulk+in_ok-statement-in-Bulk+in-Borrowed-1 w ↦ rw (w.out-is) w.put_requests-sent.ensures.kept
    ] in
    let count : c.len-start.result ≡ length old = omega (arith, c.len-start.ensures, c.args.out.now.ok.0) in
    whatever c.match-road.sent (c.truncate.ensures.items ∙ ap (λ n. take n c.match-road.out.items) count ∙ front)

pub returns-else-is_err-clause-delivered : goal.returns-else-is_err-clause-delivered
returns-else-is_err-clause-delivered c =
    let old = c.args.out.now.items in
    let readable : OnOk c.match-road.sent
    (SentReadable c.args.road (read_by_default c.args.query.now) (all_given c.args.sets.now)
    c.args.stmt_id c.args.limit old c.match-road.out.items) = elim c.match-road.branch [
      | in-Text+in_ok-query-in-Text w ↦ rw (
        w.sent-is,
        w.out-is,
        w.in-Text.is,
      ) (on_ok w.put_queries-sent.result
          (λ sent. subst (λ (query : Sql). SentReadable Text query (all_given c.args.sets.now)
          c.args.stmt_id c.args.limit old w.put_queries-sent.new.out.items)
          w.in_ok-query-in-Text.ensures.text (sent c.args.stmt_id)) w.put_queries-sent.ensures.ok)
      | in-Execute+in_ok-statement-in-Execute+in-Owned-1 w ↦ rw (
        w.sent-is,
        w.out-is,
        w.in-Execute.is,
      ) (over_same
          (λ query id. OnOk w.put_executions-sent.result
          (SentReadable Execute query (all_given c.args.sets.now) id c.args.limit old
          w.put_executions-sent.new.out.items)) _ _ _ _
          w.in_ok-statement-in-Execute.ensures.made.sql_is
          w.in_ok-statement-in-Execute.ensures.made.id_is w.put_executions-sent.ensures.ok)
      | in-Execute+in_ok-statement-in-Execute+in-Borrowed-1 w ↦ rw (
        w.sent-is,
        w.out-is,
        w.in-Execute.is,
      ) (over_same
          (λ query id. OnOk w.put_executions-sent.result
          (SentReadable Execute query (all_given c.args.sets.now) id c.args.limit old
          w.put_executions-sent.new.out.items)) _ _ _ _
          w.in_ok-statement-in-Execute.ensures.made.sql_is
          w.in_ok-statement-in-Execute.ensures.made.id_is w.put_executions-sent.ensures.ok)
      | in-Bulk+in_ok-statement-in-Bulk+in-Owned-1 w ↦ rw (
        w.sent-is,
        w.out-is,
        w.in-Bulk.is,
      ) (over_same (λ query id. OnOk w.put_requests-sent.result
          (SentReadable Bulk query (all_given c.args.sets.now) id c.args.limit old
          w.put_requests-sent.new.out.items)) _ _ _ _ w.in_ok-statement-in-Bulk.ensures.made.sql_is
          w.in_ok-statement-in-Bulk.ensures.made.id_is w.put_requests-sent.ensures.ok)
      | in-Bulk+in_ok-statement-in-Bulk+in-Borrowed-1 w ↦ rw (
        w.sent-is,
        w.out-is,
        w.in-Bulk.is,
      ) (over_same (λ query id. OnOk w.put_requests-sent.result
          (SentReadable Bulk query (all_given c.args.sets.now) id c.args.limit old
          w.put_requests-sent.new.out.items)) _ _ _ _ w.in_ok-statement-in-Bulk.ensures.made.sql_is
          w.in_ok-statement-in-Bulk.ensures.made.id_is w.put_requests-sent.ensures.ok)
    ] in
    on_ok c.match-road.sent
    (λ sent. c.readable_sets_are_delivered.ensures c.args.road (read_by_default c.args.query.now) _
    c.args.stmt_id c.args.limit old c.match-road.out.items (omega arith) c.requires
    (subst (λ (l : List ℕ). length l < 2 ^ 64) c.as_slice.ensures.value c.are_bytes.ensures.few)
    (subst (λ (l : List ℕ). AreBytes l) c.as_slice.ensures.value c.are_bytes.ensures.bytes)
    sent)
    readable

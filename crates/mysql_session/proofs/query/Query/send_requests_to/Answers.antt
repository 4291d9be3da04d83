use Rattle.std.proofs.Common.{ℕ, List, refl, subst}
use Rattle.std.proofs.KnownBytes.{Keeps-refl}
use Rattle.std.proofs.lemmas.Result.{err_from_is_err_and}
use Rattle.mysql_command_rules.specs.declared.road.Road.TheVariants.{Bulk}
use Rattle.mysql_command_rules.specs.Reading.{SentReadable}
use Rattle.mysql_command_rules.specs.Sending.{RefusesGiven}
use Rattle.mysql_command_rules.specs.Sets.{all_given}
use Rattle.mysql_command_rules.specs.Writing.{FailsWithin, Writes}
use Rattle.mysql_session.specs.Kept.{KeptQuery}
use Rattle.mysql_session.proofs.query.Query.send_requests_to.Goals as goal

pub returns-in_err-flush-in-Ok-clause-stopped : goal.returns-in_err-flush-in-Ok-clause-stopped
returns-in_err-flush-in-Ok-clause-stopped g c =
    let query = c.self.inside in
    let sets = c.args.sets.now in
    let stream = c.put_requests.new.out.items in
    let p = err_from_is_err_and c.from_residual.result c.from_residual.ensures.1 in
    let carries = subst (λ (l : List ℕ). SentReadable Bulk query.statement.sql (all_given sets)
    query.statement.id c.args.limit l stream) c.new-requests.ensures.items c.in-Ok.ensures.ok in
    rw (p.1, p.2) (subst (λ (k : KeptQuery). FailsWithin Bulk k.sql (all_given sets) k.id
    c.args.limit (g.W.Write.contents c.args.to.now) (g.W.Write.contents c.flush.new.to))
    c.self.view_is
    (record {
      stream = stream;
      bytes = c.flush.ensures.bytes;
      taken =
          c.in_err-flush-in-Ok.ensures.err;
      carries = carries;
    }))

pub returns-in-Ok-clause-written : goal.returns-in-Ok-clause-written
returns-in-Ok-clause-written g c =
    let query = c.self.inside in
    let sets = c.args.sets.now in
    let stream = c.put_requests.new.out.items in
    subst (λ (k : KeptQuery). Writes Bulk k.sql (all_given sets) k.id c.args.limit
    (g.W.Write.contents c.args.to.now) (g.W.Write.contents c.flush.new.to)) c.self.view_is
    (record {
      stream = stream;
      bytes = c.flush.ensures.bytes;
      taken = c.in_ok-flush-in-Ok.ensures.ok;
      carries = subst (λ (l : List ℕ). SentReadable Bulk query.statement.sql (all_given sets)
          query.statement.id c.args.limit l stream) c.new-requests.ensures.items c.in-Ok.ensures.ok;
    })

pub returns-clause-stopped : goal.returns-clause-stopped
returns-clause-stopped g c =
    let query = c.self.inside in (
      subst (λ (k : KeptQuery). RefusesGiven Bulk k.sql (all_given c.args.sets.now) k.id
          c.args.limit c.in-Err.refusal) c.self.view_is c.in-Err.ensures.err,
      refl,
      Keeps-refl _,
    )

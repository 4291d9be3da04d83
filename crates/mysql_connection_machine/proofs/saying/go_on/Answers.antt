use Rattle.std.proofs.Common.{◌≤◌, ℕ, ap, subst, ◌∙◌}
use Rattle.mysql_connection_rules.specs.Standing.{kept}
use Rattle.mysql_connection_rules.specs.Streams.{numbered}
use Rattle.mysql_connection_machine.proofs.Said.{fits}
use Rattle.mysql_connection_machine.proofs.saying.go_on.Goals as goal

pub returns-in-Ok : goal.returns-in-Ok
returns-in-Ok c = λ after leads.
    let follows = c.in-Ok.ensures after leads in (
      fits c.args.limits c.args.side c.args.next after
          (subst (λ (n : ℕ). kept after ≤ n) c.room_to_keep.ensures follows.1),
      c.set_number.ensures.standing ∙ ap (numbered c.args.side c.args.next) follows.0,
    )

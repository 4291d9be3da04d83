use Rattle.std.proofs.Common.{◌≡◌, ◌≤◌, ℕ, Ok, length, subst, sym, ◌∙◌}
use Rattle.mysql_connection_state.specs.Peeks.{said_in}
use Rattle.mysql_connection_rules.specs.Steps.{step}
use Rattle.mysql_connection_rules.specs.Streams.{limit_of}
use Rattle.mysql_connection_state.specs.Views.{event_view}
use Rattle.mysql_connection_machine.specs.Machines.{LendingWorld}
use Rattle.mysql_connection_machine.specs.PuttingPayloads.{IsDue}
use Rattle.mysql_connection_machine.proofs.PutPayloads.{appended, held_back, said}
use Rattle.mysql_connection_machine.proofs.both_streams.BothStreams.put_due_payload.Goals as goal

pub put_payload-requires : goal.put_payload-requires
put_payload-requires c =
    let peeked = subst (λ (r : LendingWorld). said_in (step r.world.standing c.args.payload.now) ≡
    Ok (event_view c.in-Ok.event))
    c.self.view_is c.in-Ok.ensures.peeks in
    record {
      said = said c.payloads_are_in_turn.ensures c.args.self.now.world c.args.payload.now
          (event_view c.in-Ok.event) peeked;
    }

pub returns-in-Ok-put_payload-clause-puts : goal.returns-in-Ok-put_payload-clause-puts
returns-in-Ok-put_payload-clause-puts c =
    let peeked = subst (λ (r : LendingWorld). said_in (step r.world.standing c.args.payload.now) ≡
    Ok (event_view c.in-Ok.event))
    c.self.view_is c.in-Ok.ensures.peeks in
    let due : IsDue c.args.self.now.world c.args.side c.args.payload.now = record {
      awaited = sym c.awaits_payload.ensures ∙ c.if-not-awaits_payload.false;
      within = subst (λ (r : LendingWorld). length c.args.payload.now ≤ limit_of c.args.side
          r.world.limits) c.self.view_is
          (subst (λ (n : ℕ). length c.args.payload.now ≤ n) c.limit_of.ensures c.if-payload-limit_of.false);
    } in
    appended c.payloads_are_in_turn.ensures c.args.self.now c.args.side c.args.payload.now (event_view c.in-Ok.event)
    c.args.out.now.items c.in-Ok-put_payload.field-0 c.put_payload.new.self c.put_payload.new.out.items due peeked
    c.in-Ok-put_payload.ensures

pub returns-in-Err-Held-clause-puts : goal.returns-in-Err-Held-clause-puts
returns-in-Err-Held-clause-puts c =
    let peeked = subst (λ (r : LendingWorld). said_in (step r.world.standing c.args.payload.now) ≡
    Ok (event_view c.in-Ok.event))
    c.self.view_is c.in-Ok.ensures.peeks in
    let due : IsDue c.args.self.now.world c.args.side c.args.payload.now = record {
      awaited = sym c.awaits_payload.ensures ∙ c.if-not-awaits_payload.false;
      within = subst (λ (r : LendingWorld). length c.args.payload.now ≤ limit_of c.args.side
          r.world.limits) c.self.view_is
          (subst (λ (n : ℕ). length c.args.payload.now ≤ n) c.limit_of.ensures c.if-payload-limit_of.false);
    } in
    held_back c.payloads_are_in_turn.ensures c.args.self.now c.args.side c.args.payload.now (event_view c.in-Ok.event)
    c.args.out.now.items c.put_payload.new.self c.put_payload.new.out.items due peeked
    (rw c.in-Err-Held.field-0-is at c.in-Err-Held.ensures)

use Rattle.mysql_connection_rules.specs.Steps.{step}
use Rattle.mysql_connection_machine.proofs.Said.{as_read, not_said, said_so}
use Rattle.mysql_connection_machine.proofs.saying.say_bytes.Goals as goal

pub returns-in-Ok-clause-says : goal.returns-in-Ok-clause-says
returns-in-Ok-clause-says c =
    let s = c.args.state.now.standing in
    said_so c.args.limits c.args.side c.args.next c.args.state.now c.go_on.new.state
    c.args.payload.now c.in_ok-event.event
    (step s c.args.payload.now) tt
    (as_read c.payloads_are_in_turn.ensures c.args.limits s c.args.payload.now)
    c.in_ok-event.ensures.peeks
    c.in-Ok.ensures

pub returns-in-Err-clause-says : goal.returns-in-Err-clause-says
returns-in-Err-clause-says c =
    let s = c.args.state.now.standing in
    not_said c.args.limits c.args.side c.args.next c.args.state.now c.go_on.new.state
    c.args.payload.now c.in_ok-event.event
    (step s c.args.payload.now) c.in-Err.fault c.go_on.new.state.standing
    (as_read c.payloads_are_in_turn.ensures c.args.limits s c.args.payload.now)
    c.in_ok-event.ensures.peeks c.in-Err.ensures

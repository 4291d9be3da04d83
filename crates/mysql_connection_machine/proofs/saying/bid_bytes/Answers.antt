use Rattle.mysql_connection_state.specs.Peeks.{words_step}
use Rattle.mysql_connection_rules.specs.declared.side.Side.TheVariants.{Server}
use Rattle.mysql_connection_machine.proofs.Said.{not_said, said_so, words_put}
use Rattle.mysql_connection_machine.proofs.saying.bid_bytes.Goals as goal

pub returns-in-Ok-clause-says : goal.returns-in-Ok-clause-says
returns-in-Ok-clause-says c =
    let s = c.args.state.now.standing in
    said_so c.args.limits Server c.args.next c.args.state.now c.go_on.new.state c.args.payload.now c.in_ok-event.event
    (words_step s c.args.payload.now) tt (words_put s c.args.payload.now) (c.in_ok-event.ensures s) c.in-Ok.ensures

pub returns-in-Err-clause-says : goal.returns-in-Err-clause-says
returns-in-Err-clause-says c =
    let s = c.args.state.now.standing in
    not_said c.args.limits Server c.args.next c.args.state.now c.go_on.new.state c.args.payload.now c.in_ok-event.event
    (words_step s c.args.payload.now) c.in-Err.fault c.go_on.new.state.standing
    (words_put s c.args.payload.now) (c.in_ok-event.ensures s) c.in-Err.ensures

use Rattle.std.proofs.Common.{ap, sym, ◌∙◌}
use Rattle.mysql_const.specs.declared.capabilities.Capabilities.{Capabilities}
use Rattle.mysql_connection_state.specs.Peeks.{said_in_exchange}
use Rattle.mysql_connection_state.proofs.Phases.{exchange_said, gives_so, reply_said}
use Rattle.mysql_connection_state.proofs.Unclear.{exchange_none, gives_none, reply_none}
use Rattle.mysql_connection_state.proofs.peeking.peek_event.Goals as goal

pub returns-in-Some-clause-peeks : goal.returns-in-Some-clause-peeks
returns-in-Some-clause-peeks c =
    gives_so _ _ c.peek_authentication.result
    (exchange_said c.args.state.now.standing c.args.payload.now c.in-Some.exchange (sym c.in-Some.ensures)
    ∙ ap (λ (x : Capabilities). said_in_exchange c.in-Some.exchange x.protocol.0 c.args.payload.now)
    (sym c.capabilities.ensures))
    c.peek_authentication.ensures

pub returns-in-Some-reply_reader-clause-peeks : goal.returns-in-Some-reply_reader-clause-peeks
returns-in-Some-reply_reader-clause-peeks c =
    let reads = c.in-Some-reply_reader.ensures in
    gives_so _ _ c.peek_in_reply.result
    (reply_said c.args.state.now.standing c.args.payload.now reads.0 c.in-Some-reply_reader.reader.now reads.1)
    c.peek_in_reply.ensures

pub returns-in-Some-clause-unclear : goal.returns-in-Some-clause-unclear
returns-in-Some-clause-unclear c =
    gives_none c.args.state.now.standing c.args.payload.now c.peek_authentication.result _
    (exchange_none c.in-Some.exchange _ c.args.payload.now)
    c.peek_authentication.ensures

pub returns-in-Some-reply_reader-clause-unclear : goal.returns-in-Some-reply_reader-clause-unclear
returns-in-Some-reply_reader-clause-unclear c =
    gives_none c.args.state.now.standing c.args.payload.now c.peek_in_reply.result _
    (reply_none _ c.in-Some-reply_reader.reader.now c.args.payload.now)
    c.peek_in_reply.ensures

use Rattle.mysql_receive.specs.Views.{state_of}
use Rattle.mysql_receive.proofs.step.on_command.Goals as goal

pub returns-in-3-clause-judged : goal.returns-in-3-clause-judged
returns-in-3-clause-judged c = rw c.in-3.is (c.read_text_query.ensures (state_of c.args.state.now))

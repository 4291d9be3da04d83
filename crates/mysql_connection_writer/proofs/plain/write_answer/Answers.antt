use Rattle.std.proofs.Common.{◌∙◌, sym}
use Rattle.mysql_connection_writer.proofs.PlainBytes.{answer_written, no_answer}
use Rattle.mysql_connection_writer.proofs.plain.write_answer.Goals as goal

pub returns-then-awaits_answer : goal.returns-then-awaits_answer
returns-then-awaits_answer c =
    answer_written c.args.state.now.standing c.args.bytes.now c.args.out.now.items c.put_bytes.new.out.items
    c.put_bytes.result (sym c.awaits_answer.ensures ∙ c.if-awaits_answer.true) c.put_bytes.ensures

pub returns-else-awaits_answer : goal.returns-else-awaits_answer
returns-else-awaits_answer c =
    no_answer c.args.state.now.standing c.args.bytes.now c.args.out.now.items
    (sym c.awaits_answer.ensures ∙ c.if-awaits_answer.false)

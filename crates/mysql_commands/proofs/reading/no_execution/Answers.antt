use Rattle.mysql_commands.proofs.Marks.{others_have_none}
use Rattle.mysql_commands.proofs.reading.no_execution.Goals as goal

pub returns-clause-unclear : goal.returns-clause-unclear
returns-clause-unclear c =
    λ parameters. others_have_none c.args.capabilities c.args.number c.args.bytes.now
    c.requires.no_execution c.requires.no_bulk parameters c.laid_out.result

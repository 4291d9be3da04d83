use Rattle.std.specs.Option.{option_copied}
use Rattle.mysql_commands.proofs.reading.numbered.Goals as goal

pub returns-in_default-clause-reads : goal.returns-in_default-clause-reads
returns-in_default-clause-reads c = c.no_execution.ensures.reads (option_copied c.args.parameters)

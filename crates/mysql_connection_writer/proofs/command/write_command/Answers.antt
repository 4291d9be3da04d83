use Rattle.std.proofs.Common.{◌∙◌, sym}
use Rattle.std.specs.Option.{option_copied}
use Rattle.mysql_commands.specs.Views.{command_view}
use Rattle.mysql_connection_writer.proofs.Commands.{command_written, no_command}
use Rattle.mysql_connection_writer.proofs.command.write_command.Goals as goal

pub returns-then-awaits_command : goal.returns-then-awaits_command
returns-then-awaits_command c =
    command_written c.args.state.now.standing c.capabilities.result
    (option_copied c.parameters_named-parameters.result) (command_view c.args.command.now) c.args.out.now.items
    c.put_own.new.out.items c.put_own.result (sym c.awaits_command.ensures ∙ c.if-awaits_command.true)
    c.parameters_named-parameters.ensures.fits c.capabilities.ensures c.parameters_named-parameters.ensures.named
    c.put_own.ensures

pub returns-else-awaits_command : goal.returns-else-awaits_command
returns-else-awaits_command c =
    no_command c.args.state.now.standing (command_view c.args.command.now) c.args.out.now.items
    (sym c.awaits_command.ensures ∙ c.if-awaits_command.false)

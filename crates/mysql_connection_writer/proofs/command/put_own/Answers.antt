use Rattle.std.proofs.Common.{◌≡◌, ◌∙◌, rules, arith, sym}
use Rattle.std.proofs.lemmas.Grind.{common_steps}
use Rattle.std.specs.Option.{option_copied}
use Rattle.mysql_commands.specs.Views.{command_view}
use Rattle.mysql_connection_writer.proofs.Commands.{not_own, own_written, refused}
use Rattle.mysql_connection_writer.proofs.command.put_own.Goals as goal

pub returns-in-Err : goal.returns-in-Err
returns-in-Err c =
    refused c.args.capabilities (option_copied c.args.parameters) (command_view c.args.command.now)
    c.args.out.now.items c.put_bytes.new.out.items c.in-Err.refusal c.refusal_of_command.result
    c.refusal_of_command.ensures c.in-Err.ensures.puts

pub returns-then-is_own_command : goal.returns-then-is_own_command
returns-then-is_own_command c =
    own_written c.read_commands_are_put.ensures c.args.capabilities (option_copied c.args.parameters)
    (command_view c.args.command.now) c.args.out.now.items c.put_bytes.new.out.items
    c.in_ok-values_fit.ensures c.in_default.ensures.bytes c.in_default.ensures.puts
    (sym c.is_own_command.ensures ∙ c.if-is_own_command.true)

pub returns : goal.returns
returns c =
    let told = not_own c.read_commands_are_put.ensures c.put_values_are_counted.ensures
    c.args.capabilities (option_copied c.args.parameters)
    (command_view c.args.command.now) c.args.out.now.items c.put_bytes.new.out.items
    c.in_ok-values_fit.ensures c.in_default.ensures.bytes c.in_default.ensures.puts
    (sym c.is_own_command.ensures ∙ c.if-is_own_command.false) in
    let back : c.truncate.new.self.items ≡ c.args.out.now.items =
    first_of (search rules, grind (arith, common_steps)) in
    (back, told.1, told.2)

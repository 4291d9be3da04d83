use Rattle.mysql_command_writer.proofs.ReadRows.{commands_are_put}
use Rattle.mysql_command_writer.proofs.laws.read_commands_are_put.Goals as goal

pub returns : goal.returns
returns c = commands_are_put c.read_attributes_are_written.ensures c.read_executions_are_written.ensures
    c.read_bulks_are_written.ensures c.changed_users_read_again.ensures

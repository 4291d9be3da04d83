use Rattle.std.proofs.Common.{◌≡◌, ap, subst, ◌∙◌}
use Rattle.mysql_commands.specs.Commands.{Command}
use Rattle.mysql_commands.specs.Views.{command_view}
use Rattle.mysql_connection_rules.specs.Steps as steps
use Rattle.mysql_connection_state.specs.Follows.{Goes, command_said}
use Rattle.mysql_connection_state.specs.Views.{ConnectionState}
use Rattle.mysql_connection_state.proofs.state.State.pass_read.Goals as goal

pub returns : goal.returns
returns c =
    let old : ConnectionState = c.args.self.now in
    let read : command_view c.in_ok-command.command.value ≡ command_said old.standing c.args.payload.now =
    c.in_ok-command.ensures in
    let said : command_view c.deref-said.result.now ≡ command_said old.standing c.args.payload.now =
    ap command_view c.deref-said.ensures ∙ read in
    subst (λ (k : Command). Goes old (steps.after_command old.standing c.args.payload.now k) c.args.room
    c.pass_command.result c.pass_command.new.self) said c.pass_command.ensures

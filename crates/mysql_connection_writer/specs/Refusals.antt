-- Words of the crate's own body: what a writer's refusal is here.
use Rattle.mysql_authentication.specs.declared.refusal.LoginRefusal.{LoginRefusal}
use Rattle.mysql_authentication.specs.declared.refusal.LoginRefusal.TheVariants as login
use Rattle.mysql_command_writer.specs.declared.refusal.CommandRefusal.{CommandRefusal}
use Rattle.mysql_command_writer.specs.declared.refusal.CommandRefusal.TheVariants as command
use Rattle.mysql_connection_writer.specs.declared.refusal.BadEvent.TheVariants as bad
use Rattle.mysql_connection_writer.specs.declared.refusal.EventRefusal.{EventRefusal}
use Rattle.mysql_connection_writer.specs.declared.refusal.EventRefusal.TheVariants as refusals

abbrev pub refusal_of_login : LoginRefusal → EventRefusal
refusal_of_login login.Memory = refusals.Memory
refusal_of_login cause = refusals.BadEvent (bad.Login cause)

abbrev pub refusal_of_command : CommandRefusal → EventRefusal
refusal_of_command command.Memory = refusals.Memory
refusal_of_command cause = refusals.BadEvent (bad.Command cause)

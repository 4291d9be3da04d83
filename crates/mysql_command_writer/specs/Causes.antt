-- The cause that a refusal of values is.
use Rattle.mysql_command_writer.specs.declared.refusal.CommandRefusal.{CommandRefusal}
use Rattle.mysql_command_writer.specs.declared.refusal.CommandRefusal.TheVariants as cause
use Rattle.mysql_execution_writer.specs.declared.refusal.PutRefusal.{PutRefusal}
use Rattle.mysql_execution_writer.specs.declared.refusal.PutRefusal.TheVariants.{Memory, Unreadable}

abbrev pub cause_of : PutRefusal → CommandRefusal
cause_of Unreadable = cause.ReadsOtherwise
cause_of Memory = cause.Memory

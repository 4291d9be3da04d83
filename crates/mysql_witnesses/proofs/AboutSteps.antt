-- Executions that are read by what is in force of their statement.
use Rattle.std.proofs.Common.{refl}
use Rattle.bitflags.proofs.OnLiterals.{bitflags_on_literals}
use Rattle.mysql_buf.specs.Reading.{first}
use Rattle.mysql_executions.specs.Executions.{binding_at, execution_at, execution_head, readable_head}
use Rattle.mysql_executions.specs.Fields.{each_at}
use Rattle.mysql_executions.specs.Types.{types_read}
use Rattle.mysql_witnesses.specs.Steps.{ExecutionsAreReadByTheirStatement, KnownExecutionsAreRead, OddExecutionsAreRead}

pub executions_are_read_by_their_statement : ExecutionsAreReadByTheirStatement
unfolding first execution_at readable_head execution_head binding_at each_at types_read bitflags_on_literals
executions_are_read_by_their_statement one other = refl

pub known_executions_are_read : KnownExecutionsAreRead
unfolding first execution_at readable_head execution_head binding_at each_at types_read bitflags_on_literals
known_executions_are_read text size other = refl

pub odd_executions_are_read : OddExecutionsAreRead
unfolding first execution_at readable_head execution_head binding_at each_at types_read bitflags_on_literals
odd_executions_are_read text size other = refl

use Rattle.std.proofs.Common.{◌≡◌, drop}
use Rattle.mysql_executions.specs.Views.{rows_of}
use Rattle.mysql_command_writer.specs.Refusals.{have_count}
use Rattle.mysql_command_writer.proofs.values.have_count.Given as goal

abbrev pub invariant-loop-row : goal.invariant-loop-row
invariant-loop-row l = have_count l.count (rows_of (drop l.row-index l.rows)) ≡ have_count l.count (rows_of l.rows)

use Rattle.std.proofs.Common.{take}
use Rattle.mysql_execution_writer.specs.Laws.{HaveLengths}
use Rattle.mysql_connection_writer.proofs.own.names_fit.Given as goal

abbrev pub invariant-loop-kind : goal.invariant-loop-kind
invariant-loop-kind l = HaveLengths (take l.kind-index l.types)

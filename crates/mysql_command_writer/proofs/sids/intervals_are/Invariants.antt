use Rattle.std.proofs.Common.{take}
use Rattle.std.specs.List.{AllByRecursion}
use Rattle.mysql_replication.specs.Blocks.{IsInterval}
use Rattle.mysql_command_writer.proofs.sids.intervals_are.Given as goal

abbrev pub invariant-loop-interval : goal.invariant-loop-interval
invariant-loop-interval l = AllByRecursion IsInterval (take l.interval-index l.intervals)

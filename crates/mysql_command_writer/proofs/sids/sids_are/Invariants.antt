use Rattle.std.proofs.Common.{map, take}
use Rattle.std.specs.List.{AllByRecursion}
use Rattle.mysql_replication.specs.Blocks.{IsSid}
use Rattle.mysql_replication.specs.Sids.{sid_view}
use Rattle.mysql_command_writer.proofs.sids.sids_are.Given as goal

abbrev pub invariant-loop-sid : goal.invariant-loop-sid
invariant-loop-sid l = AllByRecursion IsSid (map sid_view (take l.sid-index l.sids))

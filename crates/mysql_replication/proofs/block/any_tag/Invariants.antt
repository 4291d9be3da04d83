use Rattle.std.proofs.Common.{◌≡◌, drop, map}
use Rattle.mysql_replication.specs.Blocks.{any_tag}
use Rattle.mysql_replication.specs.Sids.{sid_view}
use Rattle.mysql_replication.proofs.block.any_tag.Given as goal

abbrev pub invariant-loop-sid : goal.invariant-loop-sid
invariant-loop-sid l = any_tag (map sid_view l.sids) ≡ any_tag (map sid_view (drop l.sid-index l.sids))

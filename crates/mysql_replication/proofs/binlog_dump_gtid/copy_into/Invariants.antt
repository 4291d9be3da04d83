use Rattle.std.proofs.Common.{◌≡◌, ◌++◌, map, take}
use Rattle.mysql_replication.specs.Sids.{sid_view}
use Rattle.mysql_replication.proofs.binlog_dump_gtid.copy_into.Given as goal

abbrev pub invariant-loop-sid : goal.invariant-loop-sid
invariant-loop-sid l = map sid_view l.copies.items ≡ map sid_view l.initial.copies.items ++
    map sid_view (take l.sid-index l.sids)

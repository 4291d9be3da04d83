use Rattle.std.proofs.Common.{◌≡◌, ◌-◌, ◌^◌, length, min, take}
use Rattle.std.specs.List.{flat_map}
use Rattle.mysql_replication.specs.Blocks.{sid_bytes}
use Rattle.mysql_replication.specs.Sids.{sid_view}
use Rattle.mysql_replication.proofs.block.sids_len.Given as goal

abbrev pub invariant-loop-sid : goal.invariant-loop-sid
invariant-loop-sid l = l.len ≡
    min (length (flat_map (λ sid. sid_bytes l.tagged (sid_view sid)) (take l.sid-index l.sids)))
    (2 ^ 32 - 1)

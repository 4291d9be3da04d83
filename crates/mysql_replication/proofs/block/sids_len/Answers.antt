use Rattle.std.proofs.Common.{◌-◌, ◌^◌, ◌∙◌, ap, length, List, min, ℕ}
use Rattle.mysql_replication.specs.Blocks.{sid_bytes}
use Rattle.mysql_replication.proofs.Blocks.{all_sids}
use Rattle.mysql_replication.proofs.block.sids_len.Goals as goal

pub returns : goal.returns
returns c = c.loop-sid.invariant ∙
    ap (λ (bytes : List ℕ). min (length bytes) (2 ^ 32 - 1))
    (all_sids (sid_bytes c.args.tagged) c.args.sids.now c.loop-sid.sid-index c.loop-sid-test.false)

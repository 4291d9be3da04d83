use Rattle.std.proofs.Common.{◌++◌, ◌∙◌, ap, List, ℕ}
use Rattle.mysql_replication.specs.Blocks.{sid_bytes}
use Rattle.mysql_replication.proofs.Blocks.{all_sids}
use Rattle.mysql_replication.proofs.block.put_sids.Goals as goal

pub returns : goal.returns
returns c = c.loop-sid.invariant ∙
    ap (λ (bytes : List ℕ). c.args.buf.now.items ++
    bytes) (all_sids (sid_bytes c.args.tagged) c.args.sids.now c.loop-sid.sid-index
    c.loop-sid-test.false)

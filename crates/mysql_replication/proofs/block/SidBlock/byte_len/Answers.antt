use Rattle.std.proofs.Common.{◌-◌, ◌^◌, ◌∙◌, ap, length, List, map, min}
use Rattle.mysql_replication.specs.Blocks.{block_bytes}
use Rattle.mysql_replication.specs.Sids.{sid_view}
use Rattle.mysql_replication.specs.declared.sid.Sid.{Sid}
use Rattle.mysql_replication.proofs.Blocks.{block_len}
use Rattle.mysql_replication.proofs.block.SidBlock.byte_len.Goals as goal

pub returns : goal.returns
returns c =
    block_len (map sid_view c.as_slice-sids.result.now) c.any_tag-tagged.result c.sids_len.result
    c.saturating_add.result c.any_tag-tagged.ensures c.sids_len.ensures c.saturating_add.ensures
    ∙ ap (λ (sids : List Sid). min (length (block_bytes (map sid_view sids))) (2 ^ 32 - 1))
    c.as_slice-sids.ensures.value

use Rattle.std.proofs.Common.{◌≡◌, ap, arith, length, ◌∙◌}
use Rattle.mysql_replication.specs.Sids.{sid_view}
use Rattle.mysql_replication.proofs.Blocks.{sid_bytes_len}
use Rattle.mysql_replication.proofs.block.sid_len.Goals as goal

pub returns : goal.returns
returns c =
    let len = sid_bytes_len c.args.tagged (sid_view c.args.sid.now) in
    let intervals : length c.intervals.result.now ≡ length (sid_view c.args.sid.now).intervals =
    ap length c.intervals.ensures in
    let uuid : length c.as_slice.result.now ≡ length (sid_view c.args.sid.now).uuid =
    ap length c.as_slice.ensures ∙ ap length c.uuid-uuid.ensures in
    omega (
      arith,
      len,
      intervals,
      uuid,
      c.min.ensures,
      c.saturating_add-len-2.ensures,
      c.saturating_add-len.ensures,
      c.tag_len.ensures.value,
      c.saturating_mul-intervals.ensures,
    )

use Rattle.std.proofs.Common.{arith}
use Rattle.mysql_replication.proofs.Blocks.{tag_bytes_len}
use Rattle.mysql_replication.proofs.block.tag_len.Goals as goal

pub returns-clause-value : goal.returns-clause-value
returns-clause-value c =
    let text = c.tag_text-len.result.now in
    rw (c.if-not-tagged.false, ← c.tag_text-len.ensures.text)
    (omega (
      arith,
      tag_bytes_len text c.tag_text-len.ensures.short,
      c.varlen_uint_size.ensures.bytes,
    ))

use Rattle.mysql_buf.proofs.ShortVarlen.{short_at-taken}
use Rattle.mysql_buf.proofs.varlen.read_short.Goals as goal

pub returns : goal.returns
returns c =
    short_at-taken c.args.buf.now.0.now c.in_ok-bytes.bytes.now c.checked_eat.new.self.0.now
    c.args.first c.trailing_ones.result c.read_uint.result
    c.trailing_ones.ensures c.in_ok-bytes.ensures c.read_uint.ensures

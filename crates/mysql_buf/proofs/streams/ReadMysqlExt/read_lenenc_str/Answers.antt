use Rattle.mysql_buf.proofs.Taken.{takes_counted_if_ok}
use Rattle.mysql_buf.proofs.streams.ReadMysqlExt.read_lenenc_str.Goals as goal

pub returns-clause-taken : goal.returns-clause-taken
returns-clause-taken g c =
    takes_counted_if_ok (g.Self.Read.remaining c.args.self.now)
    (g.Self.Read.remaining c.read_lenenc_int.new.self) _ c.in_ok-count.count c.read_bytes.result
    c.in_ok-count.ensures.taken c.read_bytes.ensures.len c.read_bytes.ensures.bytes

use Rattle.std.proofs.Common.{refl}
use Rattle.mysql_buf.proofs.Taken.{takes_marked, takes_marked_if_ok}
use Rattle.mysql_buf.proofs.streams.ReadMysqlExt.read_lenenc_int.Goals as goal

pub returns-in_ok-read_u16-in-252-clause-taken : goal.returns-in_ok-read_u16-in-252-clause-taken
returns-in_ok-read_u16-in-252-clause-taken g c =
    rw c.from-in-252.ensures (takes_marked 252 2 (λ bs. refl)
    (g.Self.Read.remaining c.args.self.now) (g.Self.Read.remaining c.first_byte.new.reader)
    (g.Self.Read.remaining c.read_u16.new.self)
    c.in_ok-read_u16-in-252.field-0 (rw (← c.in-252.is) c.in_ok-first.ensures.ok) c.in_ok-read_u16-in-252.ensures.bytes)

pub returns-in_ok-read_u24-in-253-clause-taken : goal.returns-in_ok-read_u24-in-253-clause-taken
returns-in_ok-read_u24-in-253-clause-taken g c =
    rw c.from-in-253.ensures (takes_marked 253 3 (λ bs. refl)
    (g.Self.Read.remaining c.args.self.now) (g.Self.Read.remaining c.first_byte.new.reader)
    (g.Self.Read.remaining c.read_u24.new.self)
    c.in_ok-read_u24-in-253.field-0 (rw (← c.in-253.is) c.in_ok-first.ensures.ok) c.in_ok-read_u24-in-253.ensures.bytes)

pub returns-in-254-clause-taken : goal.returns-in-254-clause-taken
returns-in-254-clause-taken g c =
    takes_marked_if_ok 254 8 (λ bs. refl) (g.Self.Read.remaining c.args.self.now)
    (g.Self.Read.remaining c.first_byte.new.reader) (g.Self.Read.remaining c.read_u64.new.self)
    c.read_u64.result
    (rw (← c.in-254.is) c.in_ok-first.ensures.ok) c.read_u64.ensures.bytes

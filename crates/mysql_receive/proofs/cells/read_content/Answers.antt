use Rattle.std.proofs.Common.{subst, sym}
use Rattle.mysql_receive.specs.Reading.{content_at}
use Rattle.mysql_receive.specs.Views.{Gives}
use Rattle.mysql_receive.proofs.cells.read_content.Goals as goal

pub returns-in-253 : goal.returns-in-253
returns-in-253 c =
    subst (λ n. Gives (λ x. (x.0, x.1.now)) c.read_counted.result
    (content_at c.args.short (record { number = n; unsigned = c.args.kind.unsigned })
    c.args.bytes.now)) (sym c.in-253.is) (c.read_counted.ensures c.args.kind.unsigned)

use Rattle.std.proofs.Common.{length, sym, ◌∙◌, ap}
use Rattle.mysql_fields.proofs.Refused.{refused}
use Rattle.mysql_fields.proofs.io.ParseExt.parse.Goals as goal

pub returns-then-is_too_short : goal.returns-then-is_too_short
returns-then-is_too_short g c =
    let same = ap length c.unread.ensures in
    let short = rw same at (sym c.is_too_short.ensures.value ∙ c.if-is_too_short.true) in
    refused _ _ _ _ _ ((g.met.T.Readable.sized c.args.ctx).needed _ short)

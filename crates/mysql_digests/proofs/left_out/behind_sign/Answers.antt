use Rattle.std.proofs.Common.{true, false}
use Rattle.mysql_digests.proofs.LeftOut.{sign_behind}
use Rattle.mysql_digests.proofs.left_out.behind_sign.Goals as goal

pub returns-then-digit_first : goal.returns-then-digit_first
returns-then-digit_first c mode last tokens h =
    sign_behind mode last c.args.after.now tokens true h c.if-digit_first.ensures

pub returns-else-digit_first : goal.returns-else-digit_first
returns-else-digit_first c mode last tokens h =
    sign_behind mode last c.args.after.now tokens false h c.if-digit_first.ensures

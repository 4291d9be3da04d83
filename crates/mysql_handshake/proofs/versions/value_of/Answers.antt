use Rattle.std.proofs.Common.{get_or, arith}
use Rattle.mysql_handshake.proofs.Digits.{digit_range, value_more}
use Rattle.mysql_handshake.proofs.versions.value_of.Goals as goal

pub loop-digit-preserved : goal.loop-digit-preserved
loop-digit-preserved c =
    let digits = c.args.digits.now in
    let i = c.loop-digit.digit-index in
    let is = c.requires.digits i (omega arith) in
    let range = digit_range (get_or c.args.digits.now c.loop-digit.digit-index 0) is in
    let more = value_more c.args.digits.now c.loop-digit.digit-index (omega arith) is in
    record { value = omega arith; none = omega arith; one = omega arith; two = omega arith; three = omega arith }

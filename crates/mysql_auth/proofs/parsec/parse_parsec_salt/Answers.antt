use Rattle.std.proofs.Common.{arith}
use Rattle.mysql_auth.proofs.Salts.{salt_is}
use Rattle.mysql_auth.proofs.parsec.parse_parsec_salt.Goals as goal

pub returns-in-Some : goal.returns-in-Some
returns-in-Some c = salt_is c.args.packet.now c.in-Some.salt.now (omega arith) (omega arith)
    (omega arith) c.in-Some.ensures.cases.1

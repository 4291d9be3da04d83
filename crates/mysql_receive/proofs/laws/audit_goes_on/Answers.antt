use Rattle.mysql_receive.proofs.Auditing.{audits_append}
use Rattle.mysql_receive.proofs.laws.audit_goes_on.Goals as goal

pub returns : goal.returns
returns _ = audits_append

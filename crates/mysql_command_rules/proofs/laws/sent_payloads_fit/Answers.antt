use Rattle.mysql_command_rules.proofs.PayloadSizes.{sent_payloads_fit}
use Rattle.mysql_command_rules.proofs.laws.sent_payloads_fit.Goals as goal

pub returns : goal.returns
returns c = sent_payloads_fit c.requests_have_their_size.ensures

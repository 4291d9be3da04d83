use Rattle.mysql_command_rules.proofs.Delivered.{delivered}
use Rattle.mysql_command_rules.proofs.laws.sent_sets_are_delivered.Goals as goal

pub returns : goal.returns
returns c =
    delivered c.queries_read.ensures c.executions_read.ensures c.requests_read.ensures
    c.sent_values_are_carried.ensures c.tokens_of_a_text.ensures.one c.fronts_read_on.ensures
    c.tight_typed_has_fewest.ensures
